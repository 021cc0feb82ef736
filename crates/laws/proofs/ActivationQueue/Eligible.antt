-- What the code's tests say of one validator.
use mathlib.Core.Path.{◌≡◌}
use mathlib.Core.Bool.{true, false, and-false}
use Prim.Native.Nat.{ℕ, ◌≤◌, ◌<◌}
use borrow.Author.Tests.{le-leb, lt-leb, eq-eqb, ne_eqb}
use lib.Dec.{leb}
use Rattle.definitions.specs.Record.{Validator, FAR_FUTURE_EPOCH}
use Rattle.definitions.specs.Document.Phase0.Helpers.{is_eligible_for_activation}

module _ (f : ℕ) (v : Validator) where
  -- placed in the queue after the finalized epoch; dequeued already; neither
  pub late : f < v.activation_eligibility_epoch → is_eligible_for_activation f v ≡ false
  unfolding is_eligible_for_activation
  late h = rw (lt-leb v.activation_eligibility_epoch f h)

  pub past : (v.activation_epoch ≡ FAR_FUTURE_EPOCH → ⊥) → is_eligible_for_activation f v ≡ false
  unfolding is_eligible_for_activation
  past h = rw (ne_eqb v.activation_epoch FAR_FUTURE_EPOCH h) (and-false (leb v.activation_eligibility_epoch f))

  pub ready : v.activation_eligibility_epoch ≤ f → v.activation_epoch ≡ FAR_FUTURE_EPOCH → is_eligible_for_activation f v ≡ true
  unfolding is_eligible_for_activation
  ready h k = rw (le-leb v.activation_eligibility_epoch f h, eq-eqb v.activation_epoch FAR_FUTURE_EPOCH k)
