-- A close leaves three checkpoints whose roots have 32 bytes, where those that it was handed have.
use mathlib.Core.Path.{◌≡◌, refl, sym, ap, ◌∙◌, subst}
use mathlib.Core.Bool.{Bool, true, false, cond, ◌&&◌, false≢true}
use mathlib.Core.List.{List, [], ◌∷◌}
use Prim.Native.Nat.{ℕ, ◌+◌, ◌*◌, ◌<◌}
use native.Mathlib.Nat.{mod-lt}
use native.Mathlib.Omega.{arith}
use lib.Dec.{leb, eqb}
use lib.ListN.{length, length-take, length-drop}
use Rattle.definitions.specs.declared.Settings.{Settings}
use Rattle.definitions.specs.declared.Checkpoint.{Checkpoint}
use Rattle.definitions.specs.declared.Finality.{Finality}
use Rattle.definitions.specs.Record.{Validator, BeaconState, GENESIS_EPOCH}
use Rattle.definitions.specs.Checked.{value, fold_checked}
use Rattle.definitions.specs.Document.Phase0.Helpers as document
use Rattle.definitions.specs.Document.Phase0.EpochProcessing.{bit, finalized_by, weighed}
use Rattle.definitions.specs.Rust.Phase0.Helpers.{get_current_epoch, get_block_root}
use Rattle.definitions.specs.Rust.Phase0.EpochProcessing.{root_where, weigh_justification_and_finalization}
use Rattle.definitions.specs.Rust.Altair.EpochProcessing.{process_justification_and_finalization}
use Rattle.definitions.specs.Close.{Step, justification_step, inactivity_step, rewards_step, registry_step, slashings_step, effective_balances_step, slashings_reset_step, participation_flags_step, step, limited_step, limited_up_to, process_epoch, limited_epoch}
use Rattle.laws.proofs.Checked.{value_same, bound}
use Rattle.laws.proofs.Tests.{either}
use Rattle.laws.proofs.Frame.Frames.{frames}
use Rattle.laws_close.proofs.Kept.{kept_step}
use Rattle.agreement.proofs.Justification.{block_root}

abbrev Whole : Checkpoint → Type 0
Whole c = length c.root ≡ 32

pub record Rooted (f : Finality) : Type 0 where
  pub previous : Whole f.previous_justified_checkpoint
  pub current : Whole f.current_justified_checkpoint
  pub finalized : Whole f.finalized_checkpoint

chosen : (t : Bool) (x y : Checkpoint) → (t ≡ true → Whole x) → Whole y → Whole (cond t x y)
chosen true x y h k = h refl
chosen false x y h k = k

finalized-whole : (epoch bits : ℕ) (old : Finality) → Rooted old → Whole (finalized_by epoch bits old)
unfolding finalized_by
finalized-whole epoch bits old g =
    let previous = old.previous_justified_checkpoint in
    let current = old.current_justified_checkpoint in
    let a : Bool = bit 1 bits && bit 2 bits && bit 3 bits && eqb (previous.epoch + 3) epoch in
    let b : Bool = bit 1 bits && bit 2 bits && eqb (previous.epoch + 2) epoch in
    let c : Bool = bit 0 bits && bit 1 bits && bit 2 bits && eqb (current.epoch + 2) epoch in
    let d : Bool = bit 0 bits && bit 1 bits && eqb (current.epoch + 1) epoch in
    let first = cond a previous old.finalized_checkpoint in
    let second = cond b previous first in
    let third = cond c current second in
    chosen d current third (λ _. g.current)
    (chosen c current second (λ _. g.current) (chosen b previous first (λ _. g.previous) (chosen a previous old.finalized_checkpoint (λ _. g.previous) g.finalized)))

module _ (s : Settings) (roots : List ℕ) (l : length roots ≡ 32 * s.slots_per_historical_root) (p : 0 < s.slots_per_historical_root) where
  found-whole : (slot epoch : ℕ) {root : List ℕ} → get_block_root s roots slot epoch ≡ value root → length root ≡ 32
  unfolding document.get_block_root document.get_block_root_at_slot
  found-whole slot epoch e =
      let at = document.compute_start_slot_at_epoch s epoch in
      sym (ap length ((block_root s roots slot epoch).same _ e)) ∙ simp (length-take, length-drop) (omega (arith, l, mod-lt at p))

  where_whole : (t : Bool) (slot epoch : ℕ) {root : List ℕ} → root_where t s roots slot epoch ≡ value root → t ≡ true → length root ≡ 32
  unfolding root_where
  where_whole true slot epoch e t = found-whole slot epoch e
  where_whole false slot epoch e t = absurd (false≢true t)

  justified-whole : (f : Finality) (vs : List Validator) {g : Finality} → process_justification_and_finalization s roots f vs ≡ value g → Rooted f → Rooted g
  unfolding process_justification_and_finalization weigh_justification_and_finalization weighed
  justified-whole f vs e h =
      either Rooted (leb (get_current_epoch s f.slot) (GENESIS_EPOCH + 1))
      (λ q. subst Rooted (value_same q) h)
      (λ q.
      let a = bound _ _ q in
      let b = bound _ _ a.then in
      let c = bound _ _ b.then in
      let d = bound _ _ c.then in
      let i = bound _ _ d.then in
      let j = bound _ _ i.then in
      let k = bound _ _ j.then in
      subst Rooted (value_same k.then)
      (record {
        previous = h.current;
        current = chosen j.first _ _ (where_whole j.first _ _ k.gave) (chosen d.first _ _ (where_whole d.first _ _ i.gave) h.current);
        finalized = finalized-whole _ _ f h;
      }))
      e

whole-step : (s : Settings) (k : Step) (a b : BeaconState) → length a.block_roots ≡ 32 * s.slots_per_historical_root → 0 < s.slots_per_historical_root → step s a k ≡ value b → Rooted a.finality → Rooted b.finality
unfolding limited_step
whole-step s justification_step a b l p e h =
    let j = bound _ _ e in
    subst (λ (st : BeaconState). Rooted st.finality) (value_same j.then) (justified-whole s a.block_roots l p a.finality a.validators j.gave h)
whole-step s inactivity_step a b l p e h = subst Rooted (sym (ap (λ (st : BeaconState). st.finality) (frames s inactivity_step a b e))) h
whole-step s rewards_step a b l p e h = subst Rooted (sym (ap (λ (st : BeaconState). st.finality) (frames s rewards_step a b e))) h
whole-step s registry_step a b l p e h = subst Rooted (sym (ap (λ (st : BeaconState). st.finality) (frames s registry_step a b e))) h
whole-step s slashings_step a b l p e h = subst Rooted (sym (ap (λ (st : BeaconState). st.finality) (frames s slashings_step a b e))) h
whole-step s effective_balances_step a b l p e h = subst Rooted (sym (ap (λ (st : BeaconState). st.finality) (frames s effective_balances_step a b e))) h
whole-step s slashings_reset_step a b l p e h = subst Rooted (sym (ap (λ (st : BeaconState). st.finality) (frames s slashings_reset_step a b e))) h
whole-step s participation_flags_step a b l p e h = subst Rooted (sym (ap (λ (st : BeaconState). st.finality) (frames s participation_flags_step a b e))) h

whole-steps : (s : Settings) (ks : List Step) (a : BeaconState) {b : BeaconState} → length a.block_roots ≡ 32 * s.slots_per_historical_root → 0 < s.slots_per_historical_root → fold_checked (step s) a ks ≡ value b → Rooted a.finality → Rooted b.finality
unfolding fold_checked
whole-steps s [] a l p e h = subst (λ (st : BeaconState). Rooted st.finality) (value_same e) h
whole-steps s (k ∷ ks) a l p e h =
    let t = bound (step s a k) (λ next. fold_checked (step s) next ks) e in
    whole-steps s ks t.first (ap length (kept_step s k a t.first t.gave).roots ∙ l) p t.then (whole-step s k a t.first l p t.gave h)

pub closed-whole : (s : Settings) (a b : BeaconState) → length a.block_roots ≡ 32 * s.slots_per_historical_root → 0 < s.slots_per_historical_root → process_epoch s a ≡ value b → Rooted a.finality → Rooted b.finality
unfolding limited_epoch limited_up_to
closed-whole s a b l p e h = whole-steps s _ a l p e h
