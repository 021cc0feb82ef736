-- Each step leaves as it was what it does not write.
use mathlib.Core.Path.{◌≡◌, refl, sym, ap, ◌∙◌}
use mathlib.Core.List.{List, [], ◌∷◌, map}
use Prim.Native.Nat.{ℕ, ◌+◌, min}
use lib.Dec.{leb, eqb}
use lib.Seq.{map-set_same}
use Rattle.definitions.specs.declared.Settings.{Settings}
use Rattle.definitions.specs.declared.ActivationLimit.{ActivationLimit}
use Rattle.definitions.specs.declared.ActivationLimit.TheVariants.{Churn}
use Rattle.definitions.specs.declared.Finality.{Finality}
use Rattle.definitions.specs.Record.{Validator, BeaconState, GENESIS_EPOCH}
use Rattle.definitions.specs.Updates.{with_balance, with_effective_balance, with_score, with_participation, with_validators, with_finality, with_slashings}
use Rattle.definitions.specs.Checked.{Checked, value}
use Rattle.definitions.specs.Document.Phase0.EpochProcessing.{weighed}
use Rattle.definitions.specs.Document.Altair.EpochProcessing.{rotate_participation}
use Rattle.definitions.specs.Rust.Phase0.Helpers.{get_current_epoch}
use Rattle.definitions.specs.Rust.Phase0.EpochProcessing.{weigh_justification_and_finalization, update_effective_balance, process_effective_balance_updates, reset_slashings}
use Rattle.definitions.specs.Rust.Altair.EpochProcessing.{process_justification_and_finalization, process_inactivity_updates, process_rewards_and_penalties, slash, process_slashings, process_participation_flag_updates}
use Rattle.definitions.specs.Close.{justification_step, inactivity_step, rewards_step, registry_step, slashings_step, effective_balances_step, slashings_reset_step, participation_flags_step, limited_step, on_validators}
use Rattle.laws.proofs.Checked.{value_same, bound}
use Rattle.laws.specs.Frames.{each, slot_alone, without_epochs, but, Frames}
use Rattle.laws.proofs.Frame.Entries.{kept_map, score-writes, reward_writes, slash-writes, effective-writes}
use Rattle.laws.proofs.Frame.Registry.{same-value, registry-writes}
use Rattle.laws.proofs.Tests.{either}

-- Over the registry

pub inactivity-writes : (s : Settings) (state_slot finalized_epoch : ℕ) (vs : List Validator) {ws : List Validator} → process_inactivity_updates s state_slot finalized_epoch vs ≡ value ws → map (with_score 0) ws ≡ map (with_score 0) vs
unfolding process_inactivity_updates
inactivity-writes s state_slot finalized_epoch vs =
    either (λ ws. map (with_score 0) ws ≡ map (with_score 0) vs) (eqb (get_current_epoch s state_slot) GENESIS_EPOCH)
    (same-value (with_score 0))
    (λ p.
    let a = bound _ _ p in
    kept_map _ (with_score 0) (score-writes s _ _ a.first) vs a.then)

pub rewards_write : (s : Settings) (quotient state_slot finalized_epoch : ℕ) (vs : List Validator) {ws : List Validator} → process_rewards_and_penalties s quotient state_slot finalized_epoch vs ≡ value ws → map (with_balance 0) ws ≡ map (with_balance 0) vs
unfolding process_rewards_and_penalties
rewards_write s quotient state_slot finalized_epoch vs =
    either (λ ws. map (with_balance 0) ws ≡ map (with_balance 0) vs) (eqb (get_current_epoch s state_slot) GENESIS_EPOCH)
    (same-value (with_balance 0))
    (λ p.
    let a = bound _ _ p in
    let b = bound _ _ a.then in
    let c = bound _ _ b.then in
    kept_map _ (with_balance 0) (reward_writes s quotient _ _ a.first b.first c.first) vs c.then)

pub slashings_write : (s : Settings) (multiplier state_slot : ℕ) (slashings : List ℕ) (vs : List Validator) {ws : List Validator} → process_slashings s multiplier state_slot slashings vs ≡ value ws → map (with_balance 0) ws ≡ map (with_balance 0) vs
unfolding process_slashings
slashings_write s multiplier state_slot slashings vs p =
    let a = bound _ _ p in
    let b = bound _ _ a.then in
    let c = bound _ _ b.then in
    let adjusted = min c.first a.first in
    kept_map (slash s (get_current_epoch s state_slot) a.first adjusted) (with_balance 0) (slash-writes s (get_current_epoch s state_slot) a.first adjusted) vs c.then

pub effective_balances_write : (s : Settings) (vs : List Validator) {ws : List Validator} → process_effective_balance_updates s vs ≡ value ws → map (with_effective_balance 0) ws ≡ map (with_effective_balance 0) vs
unfolding process_effective_balance_updates
effective_balances_write s vs p =
    let a = bound _ _ p in
    let b = bound _ _ a.then in
    kept_map (update_effective_balance s a.first b.first) (with_effective_balance 0) (effective-writes s a.first b.first) vs b.then

pub rotation_writes : (vs : List Validator) → map (with_participation 0 0) (process_participation_flag_updates vs) ≡ map (with_participation 0 0) vs
unfolding process_participation_flag_updates rotate_participation
rotation_writes vs = each vs
  where
    each : (vs : List Validator) → map (with_participation 0 0) (map rotate_participation vs) ≡ map (with_participation 0 0) vs
    each [] = refl
    each (v ∷ vs) = ap (λ (t : List Validator). with_participation 0 0 v ∷ t) (each vs)

-- Finality and slashings

justification-writes : (s : Settings) (roots : List ℕ) (f : Finality) (vs : List Validator) {g : Finality} → process_justification_and_finalization s roots f vs ≡ value g → slot_alone g ≡ slot_alone f
unfolding process_justification_and_finalization weigh_justification_and_finalization weighed
justification-writes s roots f vs =
    either (λ g. rest g ≡ rest f) (leb (get_current_epoch s f.slot) (GENESIS_EPOCH + 1))
    (λ q. ap rest (sym (value_same q)))
    (λ q.
    let a = bound _ _ q in
    let b = bound _ _ a.then in
    let c = bound _ _ b.then in
    let d = bound _ _ c.then in
    let e = bound _ _ d.then in
    let g = bound _ _ e.then in
    let h = bound _ _ g.then in
    ap rest (sym (value_same h.then)))
  where
    rest : Finality → Finality
    rest g = slot_alone g

abbrev zeroed : ℕ → ℕ
zeroed x = 0

reset-writes : (s : Settings) (state_slot : ℕ) (xs : List ℕ) → map zeroed (reset_slashings s state_slot xs) ≡ map zeroed xs
unfolding reset_slashings
reset-writes s state_slot xs = map-set_same zeroed xs _ 0 0 refl

-- On the state

on-validators : (f : Validator → Validator) (a b : BeaconState) {closing : Checked (List Validator)} → ((ws : List Validator) → closing ≡ value ws → map f ws ≡ map f a.validators) → on_validators a closing ≡ value b → each f b ≡ each f a
on-validators f a b h p =
    let c = bound _ _ p in
    ap (each f) (sym (value_same c.then)) ∙ ap (λ (vs : List Validator). with_validators vs a) (h c.first c.gave)

pub limited-frames : (limit : ActivationLimit) → Frames limit
unfolding limited_step
limited-frames limit s justification_step a b p =
    let c = bound _ _ p in
    ap (but justification_step) (sym (value_same c.then)) ∙ ap (λ (f : Finality). with_finality f a) (justification-writes s _ _ _ c.gave)
limited-frames limit s inactivity_step a b p = on-validators (with_score 0) a b (λ ws q. inactivity-writes s _ _ _ q) p
limited-frames limit s rewards_step a b p = on-validators (with_balance 0) a b (λ ws q. rewards_write s _ _ _ _ q) p
limited-frames limit s registry_step a b p = on-validators without_epochs a b (λ ws q. registry-writes limit s _ _ _ q) p
limited-frames limit s slashings_step a b p = on-validators (with_balance 0) a b (λ ws q. slashings_write s _ _ _ _ q) p
limited-frames limit s effective_balances_step a b p = on-validators (with_effective_balance 0) a b (λ ws q. effective_balances_write s _ q) p
limited-frames limit s slashings_reset_step a b p = ap (but slashings_reset_step) (sym (value_same p)) ∙ ap (λ (xs : List ℕ). with_slashings xs a) (reset-writes s _ _)
limited-frames limit s participation_flags_step a b p = ap (but participation_flags_step) (sym (value_same p)) ∙ ap (λ (vs : List Validator). with_validators vs a) (rotation_writes _)

-- before Deneb
pub frames : Frames Churn
frames = limited-frames Churn
