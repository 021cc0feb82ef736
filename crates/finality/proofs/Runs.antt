-- Runs of justified epochs, read off the bits at once.
use mathlib.Core.Path.{◌≡◌, refl, ap, ◌∙◌}
use mathlib.Core.Bool.{Bool, true, false, cond, ◌&&◌}
use Prim.Native.Nat.{ℕ, ◌+◌, ◌/◌, ◌%◌}
use native.Mathlib.Omega.{arith}
use native.Mathlib.Nat.{div-div-eq-div-mul}
use borrow.Author.Tests.{eq-eqb, ne_eqb, eqb-true, eqb-false}
use lib.Dec.{eqb}
use Rattle.definitions.specs.declared.Checkpoint.{Checkpoint}
use Rattle.definitions.specs.declared.Finality.{Finality}
use Rattle.definitions.specs.Document.Phase0.EpochProcessing.{bit, finalized_by}

-- one test that holds where two do
one-test : (m k x i y j : ℕ) → (x ≡ i → y ≡ j → m ≡ k) → (m ≡ k → x ≡ i) → (m ≡ k → y ≡ j) → eqb m k ≡ (eqb x i && eqb y j)
one-test m k x i y j f g h = go (eqb x i) (eqb y j) refl refl
  where
    go : (a b : Bool) → eqb x i ≡ a → eqb y j ≡ b → eqb m k ≡ (a && b)
    go true true p q = eq-eqb m k (f (eqb-true x i p) (eqb-true y j q))
    go true false p q = ne_eqb m k (λ e. eqb-false y j q (h e))
    go false b p q = ne_eqb m k (λ e. eqb-false x i p (g e))

module _ (bits : ℕ) where
  pub run_0_1 : eqb (bits % 4) 3 ≡ (bit 0 bits && bit 1 bits)
  run_0_1 = one-test (bits % 4) 3 (bits / 1 % 2) 1 (bits / 2 % 2) 1 (λ p q. omega (arith, div-div-eq-div-mul bits 2 2)) (λ p. omega arith) (λ p. omega arith)

  pub run_0_2 : eqb (bits % 8) 7 ≡ (bit 0 bits && bit 1 bits && bit 2 bits)
  run_0_2 = one-test (bits % 8) 7 (bits % 4) 3 (bits / 4 % 2) 1 (λ p q. omega arith) (λ p. omega arith) (λ p. omega arith) ∙ ap (λ t. t && bit 2 bits) run_0_1

  pub run_1_2 : eqb (bits / 2 % 4) 3 ≡ (bit 1 bits && bit 2 bits)
  run_1_2 = one-test (bits / 2 % 4) 3 (bits / 2 % 2) 1 (bits / 4 % 2) 1 (λ p q. omega (arith, div-div-eq-div-mul bits 2 2, div-div-eq-div-mul bits 2 4, div-div-eq-div-mul bits 4 2)) (λ p. omega arith) (λ p. omega arith)

  pub run_1_3 : eqb (bits / 2 % 8) 7 ≡ (bit 1 bits && bit 2 bits && bit 3 bits)
  run_1_3 = one-test (bits / 2 % 8) 7 (bits / 2 % 4) 3 (bits / 8 % 2) 1 (λ p q. omega arith) (λ p. omega arith) (λ p. omega arith) ∙ ap (λ t. t && bit 3 bits) run_1_2

-- the four tests, the last one first
abbrev pub finalized_by_runs : ℕ → ℕ → Finality → Checkpoint
finalized_by_runs epoch bits old =
    let previous = old.previous_justified_checkpoint in
    let current = old.current_justified_checkpoint in
    cond (eqb (bits % 4) 3 && eqb (current.epoch + 1) epoch) current
    (cond (eqb (bits % 8) 7 && eqb (current.epoch + 2) epoch) current
    (cond (eqb (bits / 2 % 4) 3 && eqb (previous.epoch + 2) epoch) previous
    (cond (eqb (bits / 2 % 8) 7 && eqb (previous.epoch + 3) epoch) previous old.finalized_checkpoint)))

pub finalized_by-runs : (epoch bits : ℕ) (old : Finality) → finalized_by epoch bits old ≡ finalized_by_runs epoch bits old
unfolding finalized_by
finalized_by-runs epoch bits old = rw (run_0_1 bits, run_0_2 bits, run_1_2 bits, run_1_3 bits)
