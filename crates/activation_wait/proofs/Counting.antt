-- A loop that counts the numbers below n that pass a test, and the test of who is ahead.
use mathlib.Core.Path.{◌≡◌, refl, ap, ◌∙◌}
use mathlib.Core.Bool.{Bool, true, false, cond, ◌&&◌, ◌||◌}
use mathlib.Core.List.{List, [], ◌∷◌, ◌++◌}
use Prim.Native.Nat.{ℕ, zero, suc, ◌+◌, ◌*◌, ◌≤◌, ◌<◌}
use native.Mathlib.Omega.{arith}
use native.Mathlib.Numerals.{add-one}
use lib.Dec.{ltb, eqb}
use lib.ListN.{length, get_or}
use Rattle.definitions.specs.Lists.{filter, range}
use Rattle.definitions.specs.Record.{Validator, nobody, decode_one, decode}
use Rattle.definitions.specs.Document.Phase0.Helpers.{is_eligible_for_activation}
use Rattle.definitions.specs.Document.Phase0.EpochProcessing.{queues_before}
use Rattle.definitions.specs.RegisterOrder.{ahead}
use Rattle.laws.proofs.Encode.{length-decode}
use Rattle.laws.proofs.Loops.Entry.{entry_at, entry-is, number-at}
use Rattle.laws.proofs.Loops.Filtered.{filter-last}

range_last : (k n : ℕ) → range k (suc n) ≡ range k n ++ ((k + n) ∷ [])
unfolding range
range_last k zero = let e : k ≡ k + 0 = omega arith in ap (λ (x : ℕ). x ∷ []) e
range_last k (suc n) =
    let e : suc k + n ≡ k + suc n = omega arith in
    ap (λ (xs : List ℕ). k ∷ xs) (range_last (suc k) n ∙ ap (λ (x : ℕ). range (suc k) n ++ (x ∷ [])) e)

pub record CountedBelow (p : ℕ → Bool) (i count : ℕ) : Type 0 where
  pub most : count ≤ i
  pub held : count ≡ length (filter p (range 0 i))

pub below_none : (p : ℕ → Bool) → CountedBelow p 0 0
unfolding filter range
below_none p = record { most = omega arith; held = refl }

module _ {p : ℕ → Bool} {i count : ℕ} (g : CountedBelow p i count) {b : Bool} (e : b ≡ p i) where
  next : count + cond b 1 0 ≡ length (filter p (range 0 (i + 1)))
  next =
      let zero_more : 0 + i ≡ i = omega arith in
      rw (add-one i, range_last 0 i, zero_more, filter-last p (range 0 i) i, ← e, ← g.held)

  pub below_yes : b ≡ true → CountedBelow p (i + 1) (count + 1)
  below_yes t = record { most = omega (arith, g.most); held = rw t at next }

  pub below-no : b ≡ false → CountedBelow p (i + 1) count
  below-no t = let k : count + 0 ≡ length (filter p (range 0 (i + 1))) = rw t at next in record { most = omega (arith, g.most); held = omega (arith, k) }

-- whether j is ahead of i
abbrev pub is_ahead : ℕ → List Validator → ℕ → ℕ → Bool
is_ahead finalized_epoch vs i j = is_eligible_for_activation finalized_epoch (get_or vs j nobody) && queues_before vs j i

-- by the numbers of one entry
abbrev pub entry_ahead : ℕ → ℕ → ℕ → ℕ → Validator → Bool
entry_ahead finalized_epoch since i j v =
    is_eligible_for_activation finalized_epoch v && (ltb v.activation_eligibility_epoch since || (eqb v.activation_eligibility_epoch since && ltb j i))

module _ (finalized_epoch n : ℕ) (xs : List ℕ) (long : length xs ≡ 10 * n) (i : ℕ) (l : i < n) where
  pub entry-ahead : (j : ℕ) → j < n → {since : ℕ} → since ≡ get_or xs (10 * i + 2) 0 → entry_ahead finalized_epoch since i j (decode_one (entry_at xs j)) ≡ is_ahead finalized_epoch (decode xs) i j
  entry-ahead j m {since} e =
      ap (λ (v : Validator). entry_ahead finalized_epoch since i j v) (entry-is n xs j long m) ∙ rw (e, number-at n xs i long l 2 (omega arith))

  pub counted-ahead : {j count : ℕ} → CountedBelow (is_ahead finalized_epoch (decode xs) i) j count → j ≤ n → n ≤ j → count ≡ ahead finalized_epoch (decode xs) i
  unfolding ahead
  counted-ahead {j} g a b =
      let same : j ≡ length (decode xs) = omega (arith, length-decode n xs long) in
      g.held ∙ ap (λ (m : ℕ). length (filter (is_ahead finalized_epoch (decode xs) i) (range 0 m))) same
