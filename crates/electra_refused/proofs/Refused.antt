-- The outcome of a close that is refused, in its tests and after them.
use mathlib.Core.Path.{◌≡◌, refl, sym, ap, ap₂, ◌∙◌}
use mathlib.Core.List.{List, [], ◌∷◌, ◌++◌}
use Prim.Native.Nat.{ℕ, ◌*◌, ◌-◌, ◌≤◌}
use native.Mathlib.Omega.{arith}
use lib.ListN.{length, take, drop, replicate, length-take, length-replicate}
use Rattle.definitions.specs.Checked.{Checked, value, refused, number_of, bind}
use Rattle.definitions.specs.declared.Refusal.{Refusal}
use Rattle.definitions.specs.Refusals.{after_tests, closing_buffer}
use Rattle.laws_electra.proofs.Consolidations.{length_pairs}
use Rattle.definitions_electra.specs.Refusals.{count_of}
use Rattle.definitions_electra.specs.Calls.{over}
use Rattle.definitions_electra.specs.Evaluated.Electra.EpochProcessing.{process_epoch}
use Rattle.definitions_electra_close.specs.declared.ElectraAnswer.{ElectraAnswer}
use Rattle.definitions_electra_close.specs.Close.{ElectraCall, ElectraOutcome, electra_state_of, electra_tests, electra_closed, electra_answer, electra_close}
use Rattle.definitions_electra_close.specs.Calls.{electra_outcome}
use Rattle.electra_refused.specs.Outcome.{as_opened}

-- what is behind nothing
over-whole : (xs ys : List ℕ) → length xs ≡ length ys → xs ≡ over xs ys
over-whole [] [] e = refl
over-whole [] (y ∷ ys) e = absurd (omega (arith, e))
over-whole (x ∷ xs) [] e = absurd (omega (arith, e))
over-whole (x ∷ xs) (y ∷ ys) e = ap (λ (t : List ℕ). x ∷ t) (over-whole xs ys (omega (arith, e)))

-- as `list[0..n]` comes back cleared
pub front-cleared : (n : ℕ) (xs : List ℕ) {e : List ℕ} → n ≤ length xs → e ≡ replicate (length (take (n - 0) xs)) 0 → e ++ drop (n - 0) xs ≡ over (replicate n 0) xs
front-cleared n xs l h =
    let z : n - 0 ≡ n = omega arith in
    let k : length (take n xs) ≡ n = simp length-take (omega (arith, l)) in
    let w : length (replicate {A = ℕ} n 0) ≡ n = length-replicate n 0 in
    rw (h, z, k, w)

module _ (c : ElectraCall) where
  opened : (p : Refusal) → electra_answer c (refused p) ≡ as_opened (number_of p) c.finality c.churn c.numbers c.registry c.deposits c.consolidations
  unfolding electra_answer
  opened p = rw (length_pairs c.consolidations)

  -- a test refused: nothing is written
  pub tests-refused : {x : Checked (Unit {0})} {p : Refusal} → x ≡ electra_tests c → x ≡ refused p → electra_outcome (as_opened (number_of p) c.finality c.churn c.numbers c.registry c.deposits c.consolidations) c.closing_registry c.closing_compounding c.closing_slashings c.closing_deposits c.closing_consolidations c.amounts ≡ electra_close c
  unfolding electra_close electra_closed after_tests closing_buffer bind
  tests-refused {p = p} e z = rw (sym e ∙ z) (ap untouched (sym (opened p)))
    where
      untouched : ElectraAnswer → ElectraOutcome
      untouched a = electra_outcome a c.closing_registry c.closing_compounding c.closing_slashings c.closing_deposits c.closing_consolidations c.amounts

  -- the work refused: the opening in front
  pub work-refused : {p : Refusal} → electra_tests c ≡ value tt → process_epoch c.rules (electra_state_of c) ≡ refused p → length c.closing_deposits ≡ length c.deposits → length c.closing_consolidations ≡ length c.consolidations → electra_outcome (as_opened (number_of p) c.finality c.churn c.numbers c.registry c.deposits c.consolidations) (over c.registry c.closing_registry) (over c.compounding c.closing_compounding) c.slashings c.deposits c.consolidations (over (replicate (12 * count_of c.registry) 0) c.amounts) ≡ electra_close c
  unfolding electra_close electra_closed after_tests closing_buffer bind
  work-refused {p} t e d k =
      rw (t, e)
      (ap (λ (a : ElectraAnswer). opening a c.deposits c.consolidations) (sym (opened p))
      ∙ ap₂ (opening (electra_answer c (refused p))) (over-whole c.deposits c.closing_deposits (sym d)) (over-whole c.consolidations c.closing_consolidations (sym k)))
    where
      opening : ElectraAnswer → List ℕ → List ℕ → ElectraOutcome
      opening a ds cs = electra_outcome a (over c.registry c.closing_registry) (over c.compounding c.closing_compounding) c.slashings ds cs (over (replicate (12 * count_of c.registry) 0) c.amounts)
