-- The outcome by the five sums.
use mathlib.Core.Path.{◌≡◌, refl, sym, ap, ◌∙◌}
use mathlib.Core.Logic.{◌⊎◌, inl, inr}
use mathlib.Core.Bool.{Bool, true, false, cond}
use mathlib.Core.List.{List, map}
use Prim.Native.Nat.{ℕ, ◌^◌, ◌≤◌, ◌<◌, max}
use native.Mathlib.Omega.{arith}
use borrow.Author.Tests.{le-leb, lt-leb, ltb-true}
use lib.Dec.{ltb}
use Rattle.definitions.specs.Checked.{Checked, value, refused, bind, sum64}
use Rattle.definitions.specs.declared.Refusal.TheVariants.{NoRoot, Overflow}
use Rattle.definitions.specs.Lists.{sum}
use Rattle.definitions.specs.Rust.Phase0.EpochProcessing.{is_justified}
use Rattle.laws.proofs.Checked.{not_value, value_same}
use Rattle.laws.proofs.Loops.Summed.{sum64-given}
use Rattle.definitions_votes.specs.Filling.{Filling, none_set, all_set, filled}
use Rattle.definitions_votes.specs.Exact.{Ballot, current_of, previous_of, test_of, roots_found, nothing_open, Outcome}
use Rattle.definitions_votes.specs.Votes.{weighed_votes, votes, finalized_after, outcome_of}
use Rattle.definitions_votes.proofs.Filled.{active-kept}
use Rattle.definitions_votes.proofs.Tests.{test_plain, test_fits}
use Rattle.definitions_votes.proofs.Exact.{active_sum, test-sums, Given, Over, either, later}
use Rattle.votes.specs.declared.vote_sums.VoteSums.{VoteSums}
use Rattle.votes.specs.Sums.{weight, active_at, hits_target, PlainSums}
use Rattle.votes.specs.Weighed.{weighed_by, weighed_sums, weighed_numbers_by, weighed_numbers}
use Rattle.votes.specs.Epochs.{numbers_of, numbers_for}

record Plain (xs : List ℕ) (x : ℕ) : Type 0 where
  pub is : sum xs ≡ x
  pub fits : sum xs < 2 ^ 64

plain : (xs : List ℕ) {x : ℕ} → sum64 xs ≡ value x → Plain xs x
unfolding sum64
plain xs {x} h = go (ltb (sum xs) (2 ^ 64)) refl h
  where
    go : (t : Bool) → ltb (sum xs) (2 ^ 64) ≡ t → cond t (value (sum xs)) (refused Overflow) ≡ value x → Plain xs x
    go true e h = record { is = value_same h; fits = ltb-true _ _ e }
    go false e h = absurd (not_value h)

-- the numbers of an outcome that four tests give, in the order of the tests
spread : (f : Bool → Bool → Bool → Bool → Outcome) (a b c d : Checked Bool) → numbers_for (bind a (λ pm. bind b (λ cm. bind c (λ pf. bind d (λ cf. value (f pf pm cf cm)))))) ≡ bind a (λ pm. bind b (λ cm. bind c (λ pf. bind d (λ cf. value (numbers_of (f pf pm cf cm))))))
unfolding bind
spread f (value a) (value b) (value c) (value d) = refl
spread f (value a) (value b) (value c) (refused r) = refl
spread f (value a) (value b) (refused r) d = refl
spread f (value a) (refused r) c d = refl
spread f (refused r) b c d = refl

module _ (b : Ballot) where
  abbrev increment : ℕ
  increment = b.settings.effective_balance_increment

  abbrev in_filling : ℕ → Filling → List ℕ
  in_filling epoch f = map (weight (hits_target (current_of b) epoch)) (filled b.marks f b.validators)

  abbrev active : List ℕ
  active = map (weight (active_at (current_of b))) (filled b.marks none_set b.validators)

  active-sum : sum active ≡ active_sum b
  active-sum = active-kept (current_of b) b.marks none_set b.validators

  test-is : (epoch : ℕ) (f : Filling) {a x : ℕ} → sum64 active ≡ value a → sum64 (in_filling epoch f) ≡ value x → test_of b epoch f ≡ is_justified (max increment x) (max increment a)
  test-is epoch f {a} {x} h k =
      let p = plain active h in
      let q = plain (in_filling epoch f) k in
      let e : active_sum b ≡ a = sym active-sum ∙ p.is in
      test-sums b epoch f ∙ rw (e, q.is) (test_plain increment a x (omega (arith, p.is, p.fits)) (omega (arith, q.is, q.fits)))

  -- the two sums that a given test was worked out from
  both-fit : (epoch : ℕ) (f : Filling) {y : Bool} → test_of b epoch f ≡ value y → (sum64 active ≡ value (sum active)) × (sum64 (in_filling epoch f) ≡ value (sum (in_filling epoch f)))
  both-fit epoch f h =
      let p = test_fits increment (active_sum b) (sum (in_filling epoch f)) (sym (test-sums b epoch f) ∙ h) in
      (sum64-given active (omega (arith, active-sum, p.0)), sum64-given (in_filling epoch f) p.1)

  pub votes-early : current_of b ≤ 1 → votes b ≡ value (nothing_open b)
  unfolding votes
  votes-early h = rw (le-leb _ _ h)

  module _ (l : 1 < current_of b) where
    pub votes-missing : roots_found b ≡ false → votes b ≡ refused NoRoot
    unfolding votes
    votes-missing h = rw (lt-leb _ _ l, h)

    module _ (r : roots_found b ≡ true) where
      pub votes_by_sums : (t : VoteSums) → PlainSums (current_of b) (previous_of b) b.marks b.validators t → votes b ≡ weighed_sums b.settings b.finality (current_of b) t
      unfolding weighed_votes weighed_by
      votes_by_sums t s =
          later b l r
          ∙ rw (
            test-is (previous_of b) all_set s.active s.previous_most,
            test-is (current_of b) all_set s.active s.current_most,
            test-is (previous_of b) none_set s.active s.previous_fewest,
            test-is (current_of b) none_set s.active s.current_fewest,
          )

      pub numbers_by_sums : (t : VoteSums) → PlainSums (current_of b) (previous_of b) b.marks b.validators t → numbers_for (votes b) ≡ weighed_numbers b.settings b.finality (current_of b) t
      unfolding weighed_votes weighed_numbers_by
      numbers_by_sums t s =
          ap numbers_for (later b l r)
          ∙ spread (outcome_of (finalized_after (current_of b) b.finality)) _ _ _ _
          ∙ rw (
            test-is (previous_of b) all_set s.active s.previous_most,
            test-is (current_of b) all_set s.active s.current_most,
            test-is (previous_of b) none_set s.active s.previous_fewest,
            test-is (current_of b) none_set s.active s.current_fewest,
          )

      pub votes-over : ((t : VoteSums) → PlainSums (current_of b) (previous_of b) b.marks b.validators t → ⊥) → votes b ≡ refused Overflow
      votes-over n = go (either b l r)
        where
          go : Given b l r ⊎ Over b l r → votes b ≡ refused Overflow
          go (inl g) =
              absurd (n (record {
                active = sum active;
                previous_fewest = sum (in_filling (previous_of b) none_set);
                previous_most = sum (in_filling (previous_of b) all_set);
                current_fewest = sum (in_filling (current_of b) none_set);
                current_most = sum (in_filling (current_of b) all_set);
              }) (record {
                active = (both-fit (previous_of b) none_set g.pf).0;
                previous_fewest = (both-fit (previous_of b) none_set g.pf).1;
                previous_most = (both-fit (previous_of b) all_set g.pm).1;
                current_fewest = (both-fit (current_of b) none_set g.cf).1;
                current_most = (both-fit (current_of b) all_set g.cm).1;
              }))
          go (inr o) = later b l r ∙ o.work
