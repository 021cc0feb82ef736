-- Slashings, effective balances and flags are one pass, once the numbers that all validators share are known.
use mathlib.Core.Path.{◌≡◌, refl, sym, ◌∙◌}
use mathlib.Core.List.{List, map}
use Prim.Native.Nat.{ℕ}
use Rattle.definitions.specs.declared.Settings.{Settings}
use Rattle.definitions.specs.Record.{Validator}
use Rattle.definitions.specs.Checked.{Checked, value, refused, bind, map_checked}
use Rattle.definitions.specs.Rust.Phase0.Helpers.{get_current_epoch, get_total_active_balance}
use Rattle.definitions.specs.Document.Altair.EpochProcessing.{rotate_participation}
use Rattle.definitions.specs.Rust.Phase0.EpochProcessing.{update_effective_balance, process_effective_balance_updates}
use Rattle.definitions.specs.Rust.Altair.EpochProcessing.{slash, process_participation_flag_updates}
use Rattle.arithmetic.proofs.Operations.{OnlyOverflow, only-value, only-bind, refused-after}
use Rattle.slashings.specs.Adjusted.{adjusted_balance}
use Rattle.slashings.proofs.Adjusted.{slashings-by}
use Rattle.balances.specs.declared.effective_balances.Thresholds.{Thresholds}
use Rattle.balances.specs.Thresholds.{thresholds_of}
use Rattle.balances.proofs.effective_balances.Step.{updates-by}
use Rattle.write_turn.specs.Runs.{both}
use Rattle.write_turn.proofs.Sweeps.Pure.{only-map, map-value, fused}
use Rattle.write_turn.specs.Planned.{last_of}
use Rattle.write_steps.specs.RegistrySteps.{last_steps}
use Rattle.write_steps.proofs.Only.{only-slash, only_update, only-thresholds}

module _ (s : Settings) (multiplier state_slot total : ℕ) (slashings : List ℕ) (vs : List Validator) where
  abbrev last : ℕ → ℕ → ℕ → Validator → Checked Validator
  last adjusted downward upward = last_of s (get_current_epoch s state_slot) total adjusted downward upward

  abbrev slashed_by : ℕ → Checked (List Validator)
  slashed_by adjusted = map_checked (slash s (get_current_epoch s state_slot) total adjusted) vs

  -- effective balances and flags, by the thresholds
  abbrev updated_by : Thresholds → List Validator → Checked (List Validator)
  updated_by t ws = bind (map_checked (update_effective_balance s t.downward t.upward) ws) (λ us. value (map rotate_participation us))

  -- the three maps
  maps : (adjusted : ℕ) (t : Thresholds) → bind (slashed_by adjusted) (updated_by t) ≡ map_checked (last adjusted t.downward t.upward) vs
  unfolding bind
  maps adjusted t =
      sym (fused (only-slash _ _ _ _) (λ v. only-bind (only_update s t.downward t.upward v) (λ w. only-value _)) vs ∙ go (slashed_by adjusted))
    where
      after : (m : Checked (List Validator)) → bind m (map_checked (λ v. value (rotate_participation v))) ≡ bind m (λ us. value (map rotate_participation us))
      after (value us) = map-value rotate_participation us
      after (refused p) = refl

      go : (m : Checked (List Validator)) → bind m (map_checked (both (update_effective_balance s t.downward t.upward) (λ v. value (rotate_participation v)))) ≡ bind m (updated_by t)
      go (value ws) = fused (only_update s t.downward t.upward) (λ w. only-value _) ws ∙ after (map_checked (update_effective_balance s t.downward t.upward) ws)
      go (refused p) = refl

  pub as_one : get_total_active_balance s state_slot vs ≡ value total → last_steps s multiplier state_slot slashings vs ≡ bind (adjusted_balance multiplier total slashings) (λ adjusted. bind (thresholds_of s) (λ t. map_checked (last adjusted t.downward t.upward) vs))
  unfolding last_steps process_participation_flag_updates bind
  as_one e = rw (slashings-by s multiplier state_slot slashings vs, e) (go (adjusted_balance multiplier total slashings))
    where
      finish : List Validator → Checked (List Validator)
      finish ws = bind (process_effective_balance_updates s ws) (λ us. value (map rotate_participation us))

      -- the thresholds are asked for after the slashings
      later : (k : List Validator → Checked (List Validator)) → ((ws : List Validator) → finish ws ≡ k ws) → (m : Checked (List Validator)) → bind m finish ≡ bind m k
      later k h (value ws) = h ws
      later k h (refused p) = refl

      thresholds : (adjusted : ℕ) (t : Checked Thresholds) → thresholds_of s ≡ t → OnlyOverflow t → bind (slashed_by adjusted) finish ≡ bind t (λ t. map_checked (last adjusted t.downward t.upward) vs)
      thresholds adjusted (value t) g o = later (updated_by t) (λ ws. rw (updates-by s ws, g)) (slashed_by adjusted) ∙ maps adjusted t
      thresholds adjusted (refused p) g o = rw (o.why p refl) (refused-after (only-map (only-slash _ _ _ _) vs) (λ ws. rw (updates-by s ws, g, o.why p refl)))

      go : (m : Checked ℕ) → bind (bind m slashed_by) finish ≡ bind m (λ adjusted. bind (thresholds_of s) (λ t. map_checked (last adjusted t.downward t.upward) vs))
      go (value adjusted) = thresholds adjusted (thresholds_of s) refl (only-thresholds s)
      go (refused p) = refl
