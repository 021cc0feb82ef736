-- The ten steps of a close: what those before and behind pending deposits leave of what it reads and writes.
use mathlib.Core.Path.{◌≡◌, refl, ◌∙◌, subst}
use mathlib.Core.Bool.{◌&&◌}
use mathlib.Core.List.{List, [], ◌∷◌}
use Prim.Native.Nat.{ℕ}
use lib.Dec.{leb, eqb}
use lib.ListN.{length, get_or}
use Rattle.definitions.specs.Lists.{range}
use Rattle.definitions.specs.Record.{nobody, FAR_FUTURE_EPOCH}
use Rattle.definitions.specs.Checked.{Checked, value, bind, fold_checked}
use Rattle.definitions.specs.Rust.Phase0.Helpers.{is_active_validator, is_eligible_for_activation}
use Rattle.definitions.specs.Close.{Step, justification_step, inactivity_step, rewards_step, slashings_reset_step, participation_flags_step, limited_step}
use Rattle.definitions_electra.specs.declared.ElectraRules.{ElectraRules}
use Rattle.definitions_electra.specs.Record.{ElectraState}
use Rattle.definitions_electra.specs.Document.Electra.Helpers.{is_eligible_for_activation_queue}
use Rattle.definitions_electra.specs.Document.Electra.EpochProcessing.{current_epoch_of, finalized_epoch_of}
use Rattle.definitions_electra.specs.Evaluated.Electra.Helpers.{initiate_validator_exit}
use Rattle.definitions_electra.specs.Evaluated.Electra.EpochProcessing.{update_registry_at, process_registry_updates, process_slashings, process_pending_deposits, process_pending_consolidations, process_effective_balance_updates, kept, registry_updates, slashings, pending_deposits, pending_consolidations, effective_balances, electra_step, close_up_to, process_epoch}
use Rattle.laws.proofs.Checked.{value_same, bound}
use Rattle.laws.proofs.Tests.{either}

-- the queue, and what goes with it
pub record Same (a b : ElectraState) : Type 0 where
  pub queue : b.pending_deposits ≡ a.pending_deposits
  pub carried : b.deposit_balance_to_consume ≡ a.deposit_balance_to_consume
  pub index : b.eth1_deposit_index ≡ a.eth1_deposit_index
  pub start : b.deposit_requests_start_index ≡ a.deposit_requests_start_index

same_here : {a : ElectraState} → Same a a
same_here = record { queue = refl; carried = refl; index = refl; start = refl }

same-both : {a b c : ElectraState} → Same a b → Same b c → Same a c
same-both p q =
    record {
      queue = q.queue ∙ p.queue;
      carried = q.carried ∙ p.carried;
      index = q.index ∙ p.index;
      start = q.start ∙ p.start;
    }

same-value : {a c b : ElectraState} → Same a c → ◌≡◌ {A = Checked ElectraState} (value c) (value b) → Same a b
same-value {a} h e = subst (Same a) (value_same e) h

-- Before it

exit-same : (r : ElectraRules) (a : ElectraState) (index : ℕ) {b : ElectraState} → initiate_validator_exit r a index ≡ value b → Same a b
unfolding initiate_validator_exit
exit-same r a index =
    either (Same a) (eqb (get_or a.altair.validators index nobody).exit_epoch FAR_FUTURE_EPOCH)
    (λ e.
    let h = bound _ _ e in
    let k = bound _ _ h.then in
    same-value (record { queue = refl; carried = refl; index = refl; start = refl }) k.then)
    (same-value same_here)

turn-same : (r : ElectraRules) (activation : ℕ) (a : ElectraState) (index : ℕ) {b : ElectraState} → update_registry_at r activation a index ≡ value b → Same a b
unfolding update_registry_at
turn-same r activation a index =
    let v = get_or a.altair.validators index nobody in
    either (Same a) (is_eligible_for_activation_queue r.electra v)
    (λ e. let h = bound _ _ e in same-value (record { queue = refl; carried = refl; index = refl; start = refl }) h.then)
    (either (Same a) (is_active_validator v (current_epoch_of r a) && leb v.effective_balance r.settings.ejection_balance) (exit-same r a index)
    (either (Same a) (is_eligible_for_activation (finalized_epoch_of a) v)
    (same-value (record { queue = refl; carried = refl; index = refl; start = refl })) (same-value same_here)))

turns_same : (r : ElectraRules) (activation : ℕ) (is : List ℕ) (a : ElectraState) {b : ElectraState}
    → fold_checked (update_registry_at r activation) a is ≡ value b → Same a b
unfolding fold_checked
turns_same r activation [] a e = same-value same_here e
turns_same r activation (i ∷ is) a e = let h = bound _ _ e in same-both (turn-same r activation a i h.gave) (turns_same r activation is h.first h.then)

registry-same : (r : ElectraRules) (a b : ElectraState) → electra_step r a registry_updates ≡ value b → Same a b
unfolding electra_step process_registry_updates
registry-same r a b e = let h = bound _ _ e in turns_same r h.first (range 0 (length a.altair.validators)) a h.then

slashings-same : (r : ElectraRules) (a b : ElectraState) → electra_step r a slashings ≡ value b → Same a b
unfolding electra_step process_slashings
slashings-same r a b e =
    let h = bound _ _ e in
    let i = bound _ _ h.then in
    let j = bound _ _ i.then in
    let k = bound _ _ j.then in
    same-value (record { queue = refl; carried = refl; index = refl; start = refl }) k.then

kept_same : (r : ElectraRules) (a b : ElectraState) (k : Step) → electra_step r a (kept k) ≡ value b → Same a b
unfolding electra_step
kept_same r a b k e = let h = bound _ _ e in same-value (record { queue = refl; carried = refl; index = refl; start = refl }) h.then

-- Behind it

-- and the finalized epoch
pub record Left (a b : ElectraState) : Type 0 where
  pub queue : b.pending_deposits ≡ a.pending_deposits
  pub carried : b.deposit_balance_to_consume ≡ a.deposit_balance_to_consume
  pub final : finalized_epoch_of b ≡ finalized_epoch_of a
  pub keys : b.pubkeys ≡ a.pubkeys

left_both : {a b c : ElectraState} → Left a b → Left b c → Left a c
left_both p q = record { queue = q.queue ∙ p.queue; carried = q.carried ∙ p.carried; final = q.final ∙ p.final; keys = q.keys ∙ p.keys }

left-value : {a c b : ElectraState} → Left a c → ◌≡◌ {A = Checked ElectraState} (value c) (value b) → Left a b
left-value {a} h e = subst (Left a) (value_same e) h

consolidations-left : (r : ElectraRules) (a b : ElectraState) → electra_step r a pending_consolidations ≡ value b → Left a b
unfolding electra_step process_pending_consolidations
consolidations-left r a b e =
    let h = bound _ _ e in
    let k = bound _ _ h.then in
    left-value (record { queue = refl; carried = refl; final = refl; keys = refl }) k.then

balances-left : (r : ElectraRules) (a b : ElectraState) → electra_step r a effective_balances ≡ value b → Left a b
unfolding electra_step process_effective_balance_updates
balances-left r a b e = let h = bound _ _ e in left-value (record { queue = refl; carried = refl; final = refl; keys = refl }) h.then

reset-left : (r : ElectraRules) (a b : ElectraState) → electra_step r a (kept slashings_reset_step) ≡ value b → Left a b
unfolding electra_step limited_step bind
reset-left r a b e = left-value (record { queue = refl; carried = refl; final = refl; keys = refl }) e

flags-left : (r : ElectraRules) (a b : ElectraState) → electra_step r a (kept participation_flags_step) ≡ value b → Left a b
unfolding electra_step limited_step bind
flags-left r a b e = left-value (record { queue = refl; carried = refl; final = refl; keys = refl }) e

-- All ten

pub record Ten (r : ElectraRules) (a e : ElectraState) : Type 0 where
  pub slashed : ElectraState
  pub applied : ElectraState
  pub five : close_up_to 5 r a ≡ value slashed
  pub before : Same a slashed
  pub deposits : process_pending_deposits r slashed ≡ value applied
  pub behind : Left applied e

first-five : (r : ElectraRules) (a : ElectraState) {b c d e f : ElectraState} → electra_step r a (kept justification_step) ≡ value b
    → electra_step r b (kept inactivity_step) ≡ value c → electra_step r c (kept rewards_step) ≡ value d → electra_step r d registry_updates ≡ value e
    → electra_step r e slashings ≡ value f → close_up_to 5 r a ≡ value f
unfolding close_up_to fold_checked bind
first-five r a p q s t u = rw (p, q, s, t, u)

deposits-gave : (r : ElectraRules) (a : ElectraState) {b : ElectraState} → electra_step r a pending_deposits ≡ value b → process_pending_deposits r a ≡ value b
unfolding electra_step
deposits-gave r a e = e

pub ten : (r : ElectraRules) (a : ElectraState) {e : ElectraState} → process_epoch r a ≡ value e → Ten r a e
unfolding process_epoch close_up_to fold_checked
ten r a p =
    let b1 = bound _ _ p in
    let b2 = bound _ _ b1.then in
    let b3 = bound _ _ b2.then in
    let b4 = bound _ _ b3.then in
    let b5 = bound _ _ b4.then in
    let b6 = bound _ _ b5.then in
    let b7 = bound _ _ b6.then in
    let b8 = bound _ _ b7.then in
    let b9 = bound _ _ b8.then in
    let b10 = bound _ _ b9.then in
    subst (Ten r a) (value_same b10.then)
    (record {
      slashed = b5.first;
      applied = b6.first;
      five = first-five r a b1.gave b2.gave b3.gave b4.gave b5.gave;
      before = same-both (kept_same r a b1.first _ b1.gave)
          (same-both (kept_same r b1.first b2.first _ b2.gave)
          (same-both (kept_same r b2.first b3.first _ b3.gave)
          (same-both (registry-same r b3.first b4.first b4.gave) (slashings-same r b4.first b5.first b5.gave))));
      deposits = deposits-gave r b5.first b6.gave;
      behind = left_both (consolidations-left r b6.first b7.first b7.gave)
          (left_both (balances-left r b7.first b8.first b8.gave)
          (left_both (reset-left r b8.first b9.first b9.gave) (flags-left r b9.first b10.first b10.gave)));
    })
