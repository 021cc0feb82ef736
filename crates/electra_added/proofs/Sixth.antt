-- The loop of the sixth step, on a state that it finds, is the text's loop over lent lists.
use mathlib.Core.Path.{◌≡◌, refl, sym, ◌∙◌}
use mathlib.Core.List.{List}
use Prim.Native.Nat.{ℕ, ◌*◌, ◌/◌}
use native.Mathlib.Omega.{arith}
use lib.ListN.{length}
use Rattle.definitions.specs.Record.{encode}
use Rattle.definitions.specs.Checked.{value}
use Rattle.laws.proofs.Checked.{bound, value_same}
use Rattle.laws.proofs.Encode.{length-encode, decode-encode}
use Rattle.definitions_electra.specs.declared.ElectraRules.{ElectraRules}
use Rattle.definitions_electra.specs.declared.PendingDeposit.{PendingDeposit}
use Rattle.definitions_electra.specs.Record.{Registry, ElectraState, registry_of}
use Rattle.definitions_electra.specs.Document.Electra.Helpers.{get_max_effective_balance}
use Rattle.definitions_electra.specs.Document.Electra.EpochProcessing.{Queueing, get_validator_from_deposit, add_validator_to_registry, breaks_before, deposits_stop}
use Rattle.definitions_electra.specs.Evaluated.Electra.EpochProcessing.{apply_pending_deposit, process_deposit}
use Rattle.electra_deposits.specs.declared.QueueNumbers.{QueueNumbers}
use Rattle.electra_deposits.specs.Room.{rules_by}
use Rattle.electra_deposits.specs.Step.{new_of, lent_registry, text_by}
use Rattle.electra_deposits.proofs.Text.{text}
use Rattle.electra_steps.specs.Last.{Six, six_by}
use Rattle.electra_steps.specs.Finds.{Finds}

-- the rules by the numbers that the loop reads
rules-same : (r : ElectraRules) (q : Queueing) (reg : Registry) (ds : List PendingDeposit) → text_by (rules_by (new_of r) r.electra.max_pending_deposits_per_epoch) q reg ds ≡ text_by r q reg ds
unfolding text_by deposits_stop breaks_before process_deposit apply_pending_deposit add_validator_to_registry get_validator_from_deposit get_max_effective_balance
rules-same r q reg ds = refl

abbrev pub numbers_of : ElectraRules → Queueing → QueueNumbers
numbers_of r q =
    record {
      next_epoch = q.next_epoch;
      available = q.available;
      finalized_slot = q.finalized_slot;
      most = r.electra.max_pending_deposits_per_epoch;
      bridge_open = q.bridge_open;
    }

abbrev pub encoded : ElectraState → List ℕ
encoded st = encode st.altair.validators

module _ {n : ℕ} {deposits : List ℕ} {st : ElectraState} (f : Finds n deposits st) where
  pub count : length (encoded st) / 10 ≡ n
  count = omega (arith, length-encode st.altair.validators, f.validators)

  pub tens : length (encoded st) ≡ 10 * (length (encoded st) / 10)
  tens = omega (arith, length-encode st.altair.validators)

  pub credentials : length st.compounding ≡ length (encoded st) / 10
  credentials = f.credentials ∙ sym count

  lent_is : lent_registry (encoded st) st.compounding ≡ registry_of st
  lent_is = rw (decode-encode st.altair.validators, f.keys, f.validators)

  module _ (r : ElectraRules) {x : Six} (z : six_by r st ≡ value x) where
    loop : text_by r x.queueing (registry_of st) st.pending_deposits ≡ value x.processing
    unfolding six_by text_by
    loop =
        let a = bound _ _ z in
        let b = bound _ _ a.then in
        let c = bound _ _ b.then in
        by b.gave (value_same c.then)
      where
        by : {y : Six} → text_by r y.queueing (registry_of st) st.pending_deposits ≡ value y.processing → y ≡ x → text_by r x.queueing (registry_of st) st.pending_deposits ≡ value x.processing
        by p e = rw e at p

    pub text-is : text (new_of r) (numbers_of r x.queueing) (encoded st) st.compounding deposits tens credentials ≡ value x.processing
    text-is = rules-same r x.queueing (lent_registry (encoded st) st.compounding) _ ∙ rw (lent_is, ← f.queue) loop
