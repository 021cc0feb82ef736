-- The sixth step, of a state that a call lends: its loop, and those whom it adds behind any n validators.
use mathlib.Core.Path.{◌≡◌, refl, ◌∙◌}
use mathlib.Core.List.{List, []}
use Prim.Native.Nat.{ℕ, ◌≤◌}
use native.Mathlib.Omega.{arith}
use lib.ListN.{length, take, drop, drop_of_length-le}
use Rattle.definitions.specs.Record.{Validator}
use Rattle.definitions.specs.Checked.{value}
use Rattle.laws.proofs.Checked.{bound, value_same}
use Rattle.definitions_electra.specs.declared.ElectraRules.{ElectraRules}
use Rattle.definitions_electra.specs.declared.PendingDeposit.{PendingDeposit}
use Rattle.definitions_electra.specs.Loops.{fold_until_checked}
use Rattle.definitions_electra.specs.Record.{Registry, ElectraState, registry_of, decode_deposits}
use Rattle.definitions_electra.specs.Calls.{opening_keys}
use Rattle.definitions_electra.specs.Document.Electra.Helpers.{get_max_effective_balance}
use Rattle.definitions_electra.specs.Document.Electra.EpochProcessing.{started, deposits_stop, get_validator_from_deposit, add_validator_to_registry}
use Rattle.definitions_electra.specs.Evaluated.Electra.EpochProcessing.{process_deposit, apply_pending_deposit}
use Rattle.electra_deposits.specs.Room.{rules_by, joins, joined}
use Rattle.electra_deposits.specs.Step.{new_of}
use Rattle.electra_deposits.proofs.Postponed.{Kept, kept-none, loop-done, with_none}
use Rattle.electra_deposits.proofs.Joined.{behind, loop-joins}
use Rattle.electra_steps.specs.Last.{Six, six_by}
use Rattle.electra_steps.specs.Finds.{Finds}

-- by the three numbers that a new validator is made of
rules-same : (r : ElectraRules) (n : ℕ) (reg : Registry) (ds : List PendingDeposit) → joined (rules_by (new_of r) 0) n reg ds ≡ joined r n reg ds
unfolding joined joins apply_pending_deposit add_validator_to_registry get_validator_from_deposit get_max_effective_balance
rules-same r n reg ds = refl

module _ (r : ElectraRules) (st : ElectraState) {n : ℕ} {deposits : List ℕ} (f : Finds n deposits st) {x : Six} (z : six_by r st ≡ value x) where
  loop : fold_until_checked (deposits_stop r x.queueing) (process_deposit r x.queueing) (started (registry_of st)) st.pending_deposits ≡ value x.processing
  unfolding six_by
  loop =
      let a = bound _ _ z in
      let b = bound _ _ a.then in
      let c = bound _ _ b.then in
      by b.gave (value_same c.then)
    where
      by : {y : Six} → fold_until_checked (deposits_stop r y.queueing) (process_deposit r y.queueing) (started (registry_of st)) st.pending_deposits ≡ value y.processing → y ≡ x → fold_until_checked (deposits_stop r x.queueing) (process_deposit r x.queueing) (started (registry_of st)) st.pending_deposits ≡ value x.processing
      by g e = rw e at g

  opens : Kept n st.altair.validators (registry_of st)
  opens = rw f.keys (kept-none n st.altair.validators st.compounding f.validators f.credentials)

  pub kept : Kept n st.altair.validators x.processing.registry
  kept = (loop-done r x.queueing opens st.pending_deposits loop).kept

  pub joined-six : (bs : List Validator) → length bs ≡ n → joined (rules_by (new_of r) 0) n (record { validators = bs; pubkeys = opening_keys n; compounding = st.compounding }) (take x.processing.next_deposit_index (decode_deposits deposits)) ≡ value (behind n bs x.processing.registry)
  joined-six bs l =
      let short : length st.altair.validators ≤ n = omega (arith, f.validators) in
      let none : drop n st.altair.validators ≡ [] = drop_of_length-le st.altair.validators short in
      let t = loop-joins bs l r x.queueing (started (registry_of st)) opens st.pending_deposits loop x.processing.next_deposit_index (omega arith) in
      rules-same r n _ _ ∙ (rw (none, with_none bs, f.keys, f.queue) at t)
