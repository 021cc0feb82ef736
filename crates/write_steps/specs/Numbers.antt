-- The numbers that all validators share, as they are made.
use Rattle.std.specs.Prelude.{◌≡◌, Bool, false, cond, List, ℕ, ◌*◌, ◌/◌, eqb, length}
use Rattle.definitions.specs.declared.Settings.{Settings}
use Rattle.definitions.specs.declared.ActivationLimit.{ActivationLimit}
use Rattle.definitions.specs.Record.{Validator, decode}
use Rattle.definitions.specs.Checked.{Checked, value, refused}
use Rattle.definitions.specs.declared.Refusal.{Refusal}
use Rattle.definitions.specs.declared.Refusal.TheVariants.{Overflow}
use Rattle.definitions.specs.Rust.Phase0.Helpers.{get_current_epoch, get_previous_epoch, get_validator_churn_limit}
use Rattle.definitions.specs.Rust.Phase0.EpochProcessing.{is_in_inactivity_leak, activation_limit}
use Rattle.laws.specs.Cut.{CutAt, eligible_now}
use Rattle.laws.specs.Ran.{Ran}
use Rattle.definitions.specs.declared.ExitQueue.{ExitQueue}
use Rattle.exit_queue.specs.Queue.{Tracks}
use Rattle.registry.specs.Updates.{least_exit}
use Rattle.survey.specs.declared.Totals.{Totals}
use Rattle.survey.specs.Sums.{TotalsOf}
use Rattle.slashings.specs.Adjusted.{adjusted_balance}
use Rattle.balances.specs.declared.effective_balances.Thresholds.{Thresholds}
use Rattle.balances.specs.Thresholds.{thresholds_of}
use Rattle.write_turn.specs.declared.Plan.{Plan}
use Rattle.write_turn.specs.Planned.{Planned}
use Rattle.write_pass.specs.Filled.{Filled}
use Rattle.write_steps.specs.RegistrySteps.{registry_steps}

-- no delay is evaluated at the genesis epoch
unfoldable pub leak_of : Settings → ℕ → ℕ → Checked Bool
leak_of s slot finalized_epoch = cond (eqb (get_current_epoch s slot) 0) (value false) (is_in_inactivity_leak s slot finalized_epoch)

-- the three that may have left 64 bits and be wanted by nobody are per_increment, denominator and product
abbrev pub plan_of : Settings → ℕ → ℕ → Bool → Totals → Checked ℕ → Checked ℕ → Checked ℕ → ℕ → ℕ → ℕ → Plan
plan_of s current previous leaking t per_increment denominator product adjusted downward upward =
    record {
      shared = record { current_epoch = current; previous_epoch = previous; total = t.active; leaking = leaking; per_increment = per_increment; denominator = denominator };
      source = t.source / s.effective_balance_increment;
      target = t.target / s.effective_balance_increment;
      head = t.head / s.effective_balance_increment;
      quotient = s.inactivity_penalty_quotient_altair;
      product = product;
      adjusted = adjusted;
      downward = downward;
      upward = upward;
    }

pub record Makes (s : Settings) (current previous : ℕ) (leaking : Bool) (t : Totals) (adjusted downward upward : ℕ) (p : Plan) : Type 0 where
  pub planned : Planned s p
  pub is : p ≡ plan_of s current previous leaking t p.shared.per_increment p.shared.denominator p.product adjusted downward upward

-- the leak, the adjusted balance and the thresholds of which p is made
pub record PlanFor (s : Settings) (slot finalized_epoch : ℕ) (t : Totals) (slashings : List ℕ) (p : Plan) : Type 0 where
  pub leaking : Bool
  pub adjusted : ℕ
  pub thresholds : Thresholds
  pub leak : leak_of s slot finalized_epoch ≡ value leaking
  pub times : adjusted_balance s.proportional_slashing_multiplier_altair t.active slashings ≡ value adjusted
  pub limits : thresholds_of s ≡ value thresholds
  pub makes : Makes s (get_current_epoch s slot) (get_previous_epoch s slot) leaking t adjusted thresholds.downward thresholds.upward p

-- one of the three has left 64 bits
pub data Lacks (s : Settings) (slot finalized_epoch : ℕ) (t : Totals) (slashings : List ℕ) : Type 0 where
  no_leak : leak_of s slot finalized_epoch ≡ refused Overflow → Lacks s slot finalized_epoch t slashings
  no_adjusted : adjusted_balance s.proportional_slashing_multiplier_altair t.active slashings ≡ refused Overflow → Lacks s slot finalized_epoch t slashings
  no_thresholds : thresholds_of s ≡ refused Overflow → Lacks s slot finalized_epoch t slashings

pub record Plans (s : Settings) (slot finalized_epoch : ℕ) (t : Totals) (slashings : List ℕ) (r : Checked Plan) : Type 0 where
  pub given : (p : Plan) → r ≡ value p → PlanFor s slot finalized_epoch t slashings p
  pub why : (q : Refusal) → r ≡ refused q → q ≡ Overflow
  pub none : (q : Refusal) → r ≡ refused q → Lacks s slot finalized_epoch t slashings

-- What the steps ask of the whole registry, found before them, but for the cut of the activation queue
pub record Found (s : Settings) (slot : ℕ) (vs : List Validator) (t : Totals) (limit : ℕ) (q : ExitQueue) : Type 0 where
  pub totals : TotalsOf s (get_current_epoch s slot) (get_previous_epoch s slot) vs t
  pub churn : get_validator_churn_limit s slot vs ≡ limit
  pub queue : Tracks (least_exit s (get_current_epoch s slot)) vs q

-- They ran, under every limit of activations whose cut this is: they ask nothing else of it
pub record RanUnder (s : Settings) (slot finalized_epoch : ℕ) (slashings : List ℕ) (vs : List Validator) (limit bound quota : ℕ) (xs : List ℕ) (r : Checked (Unit {0})) : Type 0 where
  pub under : (by : ActivationLimit) → CutAt (activation_limit by limit) finalized_epoch (eligible_now s (get_current_epoch s slot) vs) bound quota
      → Ran (registry_steps by s slot finalized_epoch slashings vs) xs r

-- What is booked: by the plan that the opening's totals make
pub record BookedBy (s : Settings) (slot finalized_epoch : ℕ) (slashings opening closing xs : List ℕ) : Type 0 where
  pub totals : Totals
  pub plan : Plan
  pub summed : TotalsOf s (get_current_epoch s slot) (get_previous_epoch s slot) (decode opening) totals
  pub planned : PlanFor s slot finalized_epoch totals slashings plan
  pub filled : Filled s plan opening closing xs

-- a list of nine numbers a validator, where no step is refused
pub record Books (s : Settings) (slot finalized_epoch : ℕ) (slashings opening closing before after : List ℕ) (r : ℕ) : Type 0 where
  pub booked : r ≡ 0 → length before ≡ 9 * (length opening / 10) → BookedBy s slot finalized_epoch slashings opening closing after
