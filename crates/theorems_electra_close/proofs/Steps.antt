-- The ten steps of an accepted close, and the state between them.
use mathlib.Core.Path.{◌≡◌, refl, sym, ap, ◌∙◌}
use mathlib.Core.List.{List}
use lib.ListN.{length, replicate, length-replicate}
use Prim.Native.Nat.{ℕ}
use Rattle.definitions.specs.declared.Settings.{Settings}
use Rattle.definitions.specs.Record.{Validator, BeaconState}
use Rattle.definitions.specs.Updates.{with_validators, with_finality, with_score, with_balance}
use Rattle.definitions.specs.Checked.{Checked, value, bind, add64, fold_checked}
use Rattle.definitions.specs.Rules.{in_place}
use Rattle.definitions.specs.Rust.Altair.EpochProcessing.{process_justification_and_finalization, process_inactivity_updates, process_rewards_and_penalties}
use Rattle.definitions.specs.Close.{justification_step, inactivity_step, rewards_step, slashings_reset_step, participation_flags_step, step, limited_step}
use Rattle.laws.proofs.Checked.{value_same, bound}
use Rattle.laws.proofs.Frame.Entries.{told}
use Rattle.laws.proofs.Frame.Frames.{inactivity-writes, rewards_write}
use Rattle.arithmetic.proofs.Laws.{bind-value}
use Rattle.laws_close.proofs.Amounts.Kept.{Kept, kept_same, scores-kept, rotation_kept}
use Rattle.laws_close.proofs.Amounts.Rewarded.{Rewarded, rewarded}
use Rattle.definitions_electra.specs.declared.ElectraRules.{ElectraRules}
use Rattle.definitions_electra.specs.Loops.{fold_until_checked}
use Rattle.definitions_electra.specs.Record.{ElectraState, with_altair, with_vs}
use Rattle.definitions_electra.specs.Document.Electra.EpochProcessing.{current_epoch_of, finalized_epoch_of, Consolidating, consolidations_stop}
use Rattle.definitions_electra.specs.Evaluated.Electra.EpochProcessing.{process_consolidation, process_pending_consolidations, kept, registry_updates, slashings, pending_deposits, pending_consolidations, effective_balances, electra_step, close_up_to, process_epoch}
use Rattle.definitions_electra_close.specs.Amounts.{consolidation_amounts}
use Rattle.theorems_electra_close.specs.Accounted.{plain_moves}
use Rattle.laws_electra_close.proofs.Lists.{zeros}
use Rattle.theorems_electra_close.proofs.Moves.{Sums, Looped, looped}
use Rattle.laws_electra_close.proofs.Registry.{Left, left-same, left-then, effectives, Steady, steady_same, steady_then}

pub record Ten (r : ElectraRules) (st done : ElectraState) : Type 0 where
  pub justified : ElectraState
  pub scored : ElectraState
  pub paid : ElectraState
  pub updated : ElectraState
  pub lessened : ElectraState
  pub applied : ElectraState
  pub merged : ElectraState
  pub balanced : ElectraState
  pub reset : ElectraState
  pub justifies : electra_step r st (kept justification_step) ≡ value justified
  pub scores : electra_step r justified (kept inactivity_step) ≡ value scored
  pub pays : electra_step r scored (kept rewards_step) ≡ value paid
  pub registers : electra_step r paid registry_updates ≡ value updated
  pub slashes : electra_step r updated slashings ≡ value lessened
  pub applies : electra_step r lessened pending_deposits ≡ value applied
  pub merges : electra_step r applied pending_consolidations ≡ value merged
  pub balances : electra_step r merged effective_balances ≡ value balanced
  pub resets : electra_step r balanced (kept slashings_reset_step) ≡ value reset
  pub rotates : electra_step r reset (kept participation_flags_step) ≡ value done

pub ten : (r : ElectraRules) (st : ElectraState) {done : ElectraState} → process_epoch r st ≡ value done → Ten r st done
unfolding process_epoch close_up_to fold_checked
ten r st e =
    let a = bound (electra_step r st (kept justification_step)) _ e in
    let b = bound (electra_step r a.first (kept inactivity_step)) _ a.then in
    let c = bound (electra_step r b.first (kept rewards_step)) _ b.then in
    let d = bound (electra_step r c.first registry_updates) _ c.then in
    let f = bound (electra_step r d.first slashings) _ d.then in
    let g = bound (electra_step r f.first pending_deposits) _ f.then in
    let h = bound (electra_step r g.first pending_consolidations) _ g.then in
    let i = bound (electra_step r h.first effective_balances) _ h.then in
    let j = bound (electra_step r i.first (kept slashings_reset_step)) _ i.then in
    let k = bound (electra_step r j.first (kept participation_flags_step)) _ j.then in
    record {
      justified = a.first;
      scored = b.first;
      paid = c.first;
      updated = d.first;
      lessened = f.first;
      applied = g.first;
      merged = h.first;
      balanced = i.first;
      reset = j.first;
      justifies = a.gave;
      scores = b.gave;
      pays = c.gave;
      registers = d.gave;
      slashes = f.gave;
      applies = g.gave;
      merges = h.gave;
      balances = i.gave;
      resets = j.gave;
      rotates = k.gave ∙ k.then;
    }

-- as the amounts find the state
module _ {r : ElectraRules} {st done : ElectraState} (t : Ten r st done) where
  pub two : close_up_to 2 r st ≡ value t.scored
  unfolding close_up_to fold_checked
  two = bind-value _ t.justifies ∙ bind-value _ t.scores

  pub four : close_up_to 4 r st ≡ value t.updated
  unfolding close_up_to fold_checked
  four = bind-value _ t.justifies ∙ bind-value _ t.scores ∙ bind-value _ t.pays ∙ bind-value _ t.registers

  pub five : close_up_to 5 r st ≡ value t.lessened
  unfolding close_up_to fold_checked
  five = bind-value _ t.justifies ∙ bind-value _ t.scores ∙ bind-value _ t.pays ∙ bind-value _ t.registers ∙ bind-value _ t.slashes

  pub six : close_up_to 6 r st ≡ value t.applied
  unfolding close_up_to fold_checked
  six = bind-value _ t.justifies ∙ bind-value _ t.scores ∙ bind-value _ t.pays ∙ bind-value _ t.registers ∙ bind-value _ t.slashes ∙ bind-value _ t.applies

-- The five that Electra takes over

abbrev pub under : ElectraRules → Settings
under r = in_place r.bellatrix r.settings

-- a step over the registry gave ws
record On (st : ElectraState) (m : Checked (List Validator)) (after : ElectraState) : Type 0 where
  ws : List Validator
  gave : m ≡ value ws
  is : with_vs ws st ≡ after

on : (st : ElectraState) (m : Checked (List Validator)) {after : ElectraState} → bind (bind m (λ ws. value (with_validators ws st.altair))) (λ altair. value (with_altair altair st)) ≡ value after → On st m after
on st m e =
    let a = bound (bind m (λ ws. value (with_validators ws st.altair))) (λ altair. value (with_altair altair st)) e in
    let b = bound m (λ ws. value (with_validators ws st.altair)) a.gave in
    record { ws = b.first; gave = b.gave; is = ap (λ (altair : BeaconState). with_altair altair st) (value_same b.then) ∙ value_same a.then }

on-left : {st after : ElectraState} {ws : List Validator} → Kept st.altair.validators ws → with_vs ws st ≡ after → Left st after
on-left k e = left-then (record { kept = k; compounding = refl; queue = refl }) (left-same e)

-- the rewards, by which the first eight numbers are booked
pub record Paid (r : ElectraRules) (st after : ElectraState) : Type 0 where
  pub ws : List Validator
  pub by : Rewarded (under r) (under r).inactivity_penalty_quotient_altair st.altair.finality.slot (finalized_epoch_of st) st.altair.validators ws
  pub is : with_vs ws st ≡ after
  pub effective : effectives ws ≡ effectives st.altair.validators

module _ (r : ElectraRules) (st : ElectraState) {after : ElectraState} where
  pub justification_steady : electra_step r st (kept justification_step) ≡ value after → Steady st after
  unfolding electra_step limited_step
  justification_steady e =
      let m = process_justification_and_finalization (under r) st.altair.block_roots st.altair.finality st.altair.validators in
      let a = bound (bind m (λ f. value (with_finality f st.altair))) (λ altair. value (with_altair altair st)) e in
      let b = bound m (λ f. value (with_finality f st.altair)) a.gave in
      steady_then (record { left = record { kept = kept_same refl; compounding = refl; queue = refl }; effective = refl }) (steady_same (ap (λ (altair : BeaconState). with_altair altair st) (value_same b.then) ∙ value_same a.then))

  pub inactivity_steady : electra_step r st (kept inactivity_step) ≡ value after → Steady st after
  unfolding electra_step limited_step
  inactivity_steady e =
      let a = on st (process_inactivity_updates (under r) st.altair.finality.slot (finalized_epoch_of st) st.altair.validators) e in
      let same = told (with_score 0) (λ v. v.effective_balance) (λ v. refl) st.altair.validators a.ws (inactivity-writes (under r) _ _ st.altair.validators a.gave) in
      record {
        left = on-left (scores-kept (under r) _ _ st.altair.validators a.gave) a.is;
        effective = ap (λ (s : ElectraState). effectives s.altair.validators) (sym a.is) ∙ same;
      }

  pub paid : electra_step r st (kept rewards_step) ≡ value after → Paid r st after
  unfolding electra_step limited_step
  paid e =
      let a = on st (process_rewards_and_penalties (under r) (under r).inactivity_penalty_quotient_altair st.altair.finality.slot (finalized_epoch_of st) st.altair.validators) e in
      record {
        ws = a.ws;
        by = rewarded (under r) _ _ _ st.altair.validators a.gave;
        is = a.is;
        effective = told (with_balance 0) (λ v. v.effective_balance) (λ v. refl) st.altair.validators a.ws (rewards_write (under r) _ _ _ st.altair.validators a.gave);
      }

  pub reset-left : electra_step r st (kept slashings_reset_step) ≡ value after → Left st after
  unfolding electra_step limited_step
  reset-left e =
      let a = bound (step (under r) st.altair slashings_reset_step) (λ altair. value (with_altair altair st)) e in
      left-then (record { kept = kept_same refl; compounding = refl; queue = refl }) (left-same (ap (λ (altair : BeaconState). with_altair altair st) (value_same a.gave) ∙ value_same a.then))

  pub rotation_left : electra_step r st (kept participation_flags_step) ≡ value after → Left st after
  unfolding electra_step limited_step
  rotation_left e =
      let a = bound (step (under r) st.altair participation_flags_step) (λ altair. value (with_altair altair st)) e in
      on-left (rotation_kept st.altair.validators) (ap (λ (altair : BeaconState). with_altair altair st) (value_same a.gave) ∙ value_same a.then)

-- Consolidations, from sums of 0

abbrev pub begun : ElectraState → Consolidating
begun st = record { validators = st.altair.validators; next_pending_consolidation = 0 }

abbrev pub none : ElectraState → List ℕ
none st = replicate (length st.altair.validators) 0

pub record Merged (r : ElectraRules) (st after : ElectraState) : Type 0 where
  pub next : ℕ
  pub done : Consolidating
  pub loop : Looped next (begun st) (none st) (none st) (none st) (none st) st.pending_consolidations done
  pub plain : plain_moves r st ≡ value loop.plain
  pub booked : consolidation_amounts r st ≡ value loop.booked
  pub validators : after.altair.validators ≡ done.validators
  pub compounding : after.compounding ≡ st.compounding

no-sums : (n : ℕ) → Sums n (replicate n 0) (replicate n 0)
no-sums n = record { long = length-replicate n 0; same = length-replicate n 0; remainder = λ i l. rw (zeros n i) refl }

pub merged : (r : ElectraRules) (st : ElectraState) {after : ElectraState} → process_pending_consolidations r st ≡ value after → Merged r st after
unfolding process_pending_consolidations plain_moves consolidation_amounts
merged r st {after} e =
    let a = bound (add64 (current_epoch_of r st) 1) _ e in
    let b = bound (fold_until_checked (consolidations_stop a.first) process_consolidation (begun st) st.pending_consolidations) _ a.then in
    let n = no-sums (length st.altair.validators) in
    let loop = looped a.first st.pending_consolidations (begun st) n n b.gave in
    let is = value_same b.then in
    record {
      next = a.first;
      done = b.first;
      loop = loop;
      plain = bind-value _ a.gave ∙ loop.plain-is;
      booked = bind-value _ a.gave ∙ loop.booked-is;
      validators = ap (λ (s : ElectraState). s.altair.validators) (sym is);
      compounding = ap (λ (s : ElectraState). s.compounding) (sym is);
    }
