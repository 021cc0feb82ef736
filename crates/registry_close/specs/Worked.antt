-- Justification and the steps over the registry, as the code groups them, and what it promises of them.
use Rattle.std.specs.Prelude.{◌≡◌, true, cond, List, ℕ, ◌*◌, ◌/◌, eqb, length}
use Rattle.definitions.specs.declared.Settings.{Settings}
use Rattle.definitions.specs.declared.ActivationLimit.{ActivationLimit}
use Rattle.definitions.specs.declared.ActivationLimit.TheVariants.{Churn}
use Rattle.definitions.specs.declared.Finality.{Finality}
use Rattle.definitions.specs.declared.Total.{Total}
use Rattle.definitions.specs.declared.Refusal.TheVariants.{Overflow}
use Rattle.definitions.specs.declared.CloseAnswer.{CloseAnswer}
use Rattle.definitions.specs.Record.{BeaconState, encode, decode}
use Rattle.definitions.specs.Checked.{Checked, value, refused, code_of, settle}
use Rattle.definitions.specs.Raised.{raised_totals, raised_unless_refused}
use Rattle.definitions.specs.Refusals.{good_finality}
use Rattle.definitions.specs.LeafRefusals.{weigh_tests}
use Rattle.definitions.specs.Close.{limited_epoch}
use Rattle.laws.specs.Bounds.{Passed}
use Rattle.totals.specs.Totals.{total_from}

abbrev pub state_now : Finality → List ℕ → List ℕ → List ℕ → BeaconState
state_now f registry slashings roots =
    record { finality = f; validators = decode registry; slashings = slashings; block_roots = roots }

-- a total, from the survey's sum and whether it has left 64 bits
unfoldable pub total_of : ℕ → ℕ → ℕ → Checked Total
total_of increment sum over = cond (eqb over 0) (value (total_from increment sum)) (refused Overflow)

-- What the tests say of the opening, of registry xs, slashings ys and roots zs, and the steps rely on
pub record Tested (s : Settings) (f : Finality) (xs ys zs : List ℕ) : Type 0 where
  pub settings : Passed s f.slot
  pub finality : good_finality f ≡ true
  pub weighs : weigh_tests s zs f ≡ value tt
  pub registry : length xs ≡ 10 * (length xs / 10)
  pub slashings : length ys ≡ s.epochs_per_slashings_vector

-- The eight steps on the state `before`: the answer, and what registry and slashings hold where they are not refused. The caller puts the
-- opening back where they are.
pub record LimitedWorked (limit : ActivationLimit) (s : Settings) (before : BeaconState) (registry slashings : List ℕ) (r : CloseAnswer) : Type 0 where
  pub code : r.refusal ≡ code_of (limited_epoch limit s before)
  pub finality : r.finality ≡ (settle (limited_epoch limit s before) before).finality
  pub raised : r.raised ≡ raised_unless_refused (limited_epoch limit s before) (raised_totals s before.finality.slot before.validators)
  pub held : (after : BeaconState) → limited_epoch limit s before ≡ value after → (registry ≡ encode after.validators) × (slashings ≡ after.slashings)

-- before Deneb
abbrev pub Worked : Settings → BeaconState → List ℕ → List ℕ → CloseAnswer → Type 0
Worked s before registry slashings r = LimitedWorked Churn s before registry slashings r
