-- What both calls leave in the closing queues, for the state that they are of.
use mathlib.Core.Path.{◌≡◌, sym, ap, ◌∙◌}
use mathlib.Core.List.{List}
use Prim.Native.Nat.{ℕ, ◌-◌, ◌*◌, ◌/◌, ◌≤◌}
use lib.ListN.{length, drop, length-drop}
use Rattle.definitions.specs.Record.{decode}
use Rattle.laws.proofs.Encode.{decode-encode}
use Rattle.definitions_electra.specs.declared.ElectraRules.{ElectraRules}
use Rattle.definitions_electra.specs.declared.PendingDeposit.{PendingDeposit}
use Rattle.definitions_electra.specs.Record.{ElectraState, PendingConsolidation, encode_deposits, decode_deposits, encode_consolidations, decode_consolidations}
use Rattle.definitions_electra.specs.Calls.{over}
use Rattle.laws_electra.proofs.Consolidations.{length_pairs}
use Rattle.electra_deposits.specs.Written.{closing_queue, Queued}
use Rattle.electra_consolidations.proofs.Closing.{rest-encoded}
use Rattle.electra_steps.specs.Last.{Six, after_six, Eight}
use Rattle.electra_queues.specs.Queues.{Reached, WritesQueues}
use Rattle.electra_queues.proofs.Epochs.{queue-is}

module _ (next_epoch : ℕ) (registry deposits consolidations : List ℕ) (index done : ℕ) where
  -- by the lent lists
  queue-lent : {r : ElectraRules} {st : ElectraState} {x : Six} {y : Eight} → Reached r st x y next_epoch registry deposits consolidations index done → closing_queue (length registry / 10) next_epoch (decode registry) index (decode_deposits deposits) ≡ (after_six st x).pending_deposits
  queue-lent {r} {y = y} h =
      let back : decode registry ≡ y.balanced = ap decode h.left ∙ decode-encode y.balanced in
      rw (back, h.next, h.deposited, ← h.finds.queue) (queue-is r h.finds h.six h.eight)

  module _ (twos : length consolidations ≡ 2 * (length consolidations / 2)) (most : done ≤ length consolidations / 2) {ds₀ ds : List ℕ} {left : ℕ} (q : Queued (closing_queue (length registry / 10) next_epoch (decode registry) index (decode_deposits deposits)) ds₀ ds left) where
    pub written : (cs₀ : List ℕ) {cs : List ℕ} → cs ≡ over (drop (2 * done) consolidations) cs₀ → WritesQueues next_epoch registry deposits consolidations index done ds₀ ds cs₀ cs (record { deposits = left; consolidations = length consolidations / 2 - done })
    written cs₀ e =
        record {
          writes = λ r st x y h.
              (let k = queue-lent h in
              let rest : drop done (decode_consolidations consolidations) ≡ drop y.moved.next_pending_consolidation st.pending_consolidations = rw (h.queue, h.consolidated) in
              record {
                deposits = q.held ∙ ap (λ (t : List PendingDeposit). over (encode_deposits t) ds₀) k;
                many = q.count ∙ ap length k;
                consolidations = e ∙ ap (λ (ps : List ℕ). over ps cs₀) (sym (rest-encoded done consolidations twos most)) ∙ ap (λ (t : List PendingConsolidation). over (encode_consolidations t) cs₀) rest;
                many_too = ap (λ (m : ℕ). m - done) (sym (length_pairs consolidations)) ∙ sym (length-drop done (decode_consolidations consolidations)) ∙ ap length rest;
              });
        }
