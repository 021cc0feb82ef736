-- An entry's 23 numbers put into their places: two in front of the settings, two behind.
use mathlib.Core.List.{List, [], ◌∷◌, ◌++◌}
use mathlib.Core.Path.{◌≡◌, refl, ap, ◌∙◌}
use Prim.Native.Nat.{ℕ, zero, suc, ◌+◌}
use native.Mathlib.Nat.{zero-add, suc-add}
use native.Mathlib.Omega.{arith}
use lib.ListN.{length, set, take, drop, length-drop}
use Rattle.definitions.specs.declared.Settings.{Settings}
use Rattle.definitions.specs.Refusals.{settings_numbers}

drop-set : (us : List ℕ) (n i a : ℕ) → drop n (set us (n + i) a) ≡ set (drop n us) i a
drop-set us zero i a = rw (zero-add i)
drop-set [] (suc n) i a = refl
drop-set (u ∷ us) (suc n) i a = rw (suc-add n i) (drop-set us n i a)

two : (us : List ℕ) (a b : ℕ) → length us ≡ 2 → set (set us 0 a) 1 b ≡ a ∷ b ∷ []
two [] a b h = absurd (omega arith)
two (u ∷ []) a b h = absurd (omega arith)
two (u ∷ v ∷ []) a b h = refl
two (u ∷ v ∷ w ∷ us) a b h = absurd (omega arith)

pub entry-put : (e : List ℕ) (s : Settings) (start fork a b : ℕ) → length e ≡ 23 → let f = set (set (set (set e 0 start) 1 fork) 21 a) 22 b in take 2 f ++ (settings_numbers s ++ drop 19 (drop 2 f)) ≡ start ∷ fork ∷ (settings_numbers s ++ (a ∷ b ∷ []))
entry-put [] s start fork a b h = absurd (omega arith)
entry-put (x ∷ []) s start fork a b h = absurd (omega arith)
entry-put (x ∷ y ∷ e) s start fork a b h =
    ap (λ (us : List ℕ). start ∷ fork ∷ (settings_numbers s ++ us))
    (drop-set (set e 19 a) 19 1 b ∙ ap (λ (us : List ℕ). set us 1 b) (drop-set e 19 0 a) ∙ two (drop 19 e) a b (simp length-drop (omega arith)))
