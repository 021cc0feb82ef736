-- Eight numbers of each nine.
use mathlib.Core.Path.{◌≡◌, refl, sym, ap, ◌∙◌}
use mathlib.Core.List.{List, [], ◌∷◌, ◌++◌}
use Prim.Native.Nat.{ℕ, zero, suc, ◌*◌, ◌≤◌, ◌<◌}
use native.Mathlib.Omega.{arith}
use lib.ListN.{length, get_or, take, drop, length-take, length-drop}
use Rattle.definitions_close.specs.Amounts.{nines}
use Rattle.definitions_close.specs.CloseBySteps.{eights}
use Rattle.laws.proofs.Encode.{take_whole}
use Rattle.laws_close.proofs.Amounts.Nines.{Eights, fewer}

pub long-eights : (n : ℕ) (xs : List ℕ) → length (eights n xs) ≡ n
unfolding eights
long-eights zero xs = refl
long-eights (suc n) xs = ap suc (long-eights n (drop 9 xs))

each-eight : (n : ℕ) (xs : List ℕ) → 9 * n ≤ length xs → (i : ℕ) → i < n → length (get_or (eights n xs) i []) ≡ 8
unfolding eights
each-eight zero xs h i l = absurd (omega arith)
each-eight (suc n) xs h zero l = simp length-take (omega arith)
each-eight (suc n) xs h (suc i) l = each-eight n (drop 9 xs) (omega (arith, length-drop 9 xs)) i (omega arith)

pub eights-of : (n : ℕ) (xs ts : List ℕ) → 9 * n ≤ length xs → length ts ≡ n → Eights (eights n xs) ts
eights-of n xs ts h l =
    record { long = l ∙ sym (long-eights n xs); eight = λ i k. each-eight n xs h i (omega (arith, k, long-eights n xs)) }

nine-more : (e : List ℕ) (t : ℕ) (rest : List ℕ) → length e ≡ 8 → drop 9 (e ++ (t ∷ rest)) ≡ rest
nine-more (a ∷ b ∷ c ∷ d ∷ f ∷ g ∷ h ∷ i ∷ []) t rest l = refl
nine-more [] t rest l = absurd (omega arith)
nine-more (a ∷ []) t rest l = absurd (omega arith)
nine-more (a ∷ b ∷ []) t rest l = absurd (omega arith)
nine-more (a ∷ b ∷ c ∷ []) t rest l = absurd (omega arith)
nine-more (a ∷ b ∷ c ∷ d ∷ []) t rest l = absurd (omega arith)
nine-more (a ∷ b ∷ c ∷ d ∷ f ∷ []) t rest l = absurd (omega arith)
nine-more (a ∷ b ∷ c ∷ d ∷ f ∷ g ∷ []) t rest l = absurd (omega arith)
nine-more (a ∷ b ∷ c ∷ d ∷ f ∷ g ∷ h ∷ []) t rest l = absurd (omega arith)
nine-more (a ∷ b ∷ c ∷ d ∷ f ∷ g ∷ h ∷ i ∷ j ∷ es) t rest l = absurd (omega arith)

pub eights-nines : (es : List (List ℕ)) (ts : List ℕ) → Eights es ts → eights (length es) (nines es ts) ≡ es
unfolding eights nines
eights-nines [] ts h = refl
eights-nines (e ∷ es) [] h = absurd (let k = h.long in omega (arith, k))
eights-nines (e ∷ es) (t ∷ ts) h =
    let l = h.eight 0 (omega arith) in
    let first : take 8 (e ++ (t ∷ nines es ts)) ≡ e = ap (λ (k : ℕ). take k (e ++ (t ∷ nines es ts))) (sym l) ∙ take_whole e (t ∷ nines es ts) in
    rw (first, nine-more e t (nines es ts) l) (ap (λ (us : List (List ℕ)). e ∷ us) (eights-nines es ts (fewer h)))
