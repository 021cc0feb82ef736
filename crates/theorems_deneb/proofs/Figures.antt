-- Figures of document 03, F-1, by computing: mainnet's settings at Deneb's first epoch, with its churn_limit_quotient or a smaller one.
use mathlib.Core.Path.{◌≡◌, refl, ap}
use mathlib.Core.List.{List, [], ◌∷◌, ◌++◌, map}
use Prim.Native.Nat.{ℕ, zero, suc}
use lib.ListN.{length, take, drop, replicate}
use Rattle.definitions.specs.declared.Settings.{Settings}
use Rattle.definitions.specs.declared.ActivationLimit.{ActivationLimit}
use Rattle.definitions.specs.declared.ActivationLimit.TheVariants.{Churn, AtMost}
use Rattle.definitions.specs.Lists.{filter}
use Rattle.definitions.specs.Record.{Validator, FAR_FUTURE_EPOCH}
use Rattle.definitions.specs.Checked.{Checked, value, settle}
use Rattle.definitions.specs.Refusals.{settings_numbers, settings_from}
use Rattle.definitions.specs.Mainnet.{mainnet}
use Rattle.definitions.specs.Rust.Phase0.Helpers.{is_active_validator, compute_epoch_at_slot, get_current_epoch, get_active_validator_indices, get_validator_churn_limit}
use Rattle.definitions.specs.Rust.Phase0.EpochProcessing.{activation_limit, limited_registry_updates}
use Rattle.history.proofs.Computing.{computing}

-- the last slot of epoch 269568
abbrev slot : ℕ
slot = 8_626_207

abbrev far : ℕ
far = FAR_FUTURE_EPOCH

-- effective balance, and the epochs of eligibility, activation, exit and withdrawal
abbrev validator : ℕ → ℕ → ℕ → ℕ → ℕ → Validator
validator effective eligibility activation exit withdrawable =
    record {
      effective_balance = effective;
      slashed = 0;
      activation_eligibility_epoch = eligibility;
      activation_epoch = activation;
      exit_epoch = exit;
      withdrawable_epoch = withdrawable;
      balance = effective;
      previous_epoch_participation = 0;
      current_epoch_participation = 0;
      inactivity_score = 0;
    }

abbrev active : Validator
active = validator 32_000_000_000 0 0 far far

-- at mainnet's ejection balance
abbrev leaving : Validator
leaving = validator 16_000_000_000 0 0 far far

abbrev waiting : Validator
waiting = validator 32_000_000_000 269_560 far far far

-- 20 active, of whom 11 are to be ejected, and 9 who wait
abbrev many : List Validator
many = replicate 11 leaving ++ (replicate 9 active ++ replicate 9 waiting)

-- how many are active
abbrev active_in : List Validator → ℕ
active_in vs = length (get_active_validator_indices vs (get_current_epoch mainnet slot))

abbrev with_quotient : ℕ → Settings
with_quotient quotient = settings_from (take 18 (settings_numbers mainnet) ++ quotient ∷ [])

abbrev updated : ActivationLimit → Settings → List Validator → Checked (List Validator)
updated limit s vs = limited_registry_updates limit s slot 269_566 vs

abbrev exits : ActivationLimit → Settings → List ℕ
exits limit s = map (λ v. v.exit_epoch) (take 11 (settle (updated limit s many) []))

abbrev activations : ActivationLimit → Settings → List ℕ
activations limit s = map (λ v. v.activation_epoch) (drop 20 (settle (updated limit s many) []))

pub record Figures : Type 0 where
  pub eight_of-ten : activation_limit (AtMost 8) 10 ≡ 8
  pub four_of-four : activation_limit (AtMost 8) 4 ≡ 4
  -- by mainnet's quotient 655360 active make a churn limit of 10, and there are such lists
  pub churn-ten : (vs : List Validator) → active_in vs ≡ 655_360 → get_validator_churn_limit mainnet slot vs ≡ 10
  pub so_many : active_in (replicate 655_360 active) ≡ 655_360
  -- by a quotient of 2 so do 20: 10 leave in the first epoch and the eleventh in the next, and 8 are activated; before Deneb all 9 were
  pub churn_by-two : get_validator_churn_limit (with_quotient 2) slot many ≡ 10
  pub ten_leave : exits (AtMost 8) (with_quotient 2) ≡ replicate 10 269_573 ++ 269_574 ∷ []
  pub eight-activated : activations (AtMost 8) (with_quotient 2) ≡ replicate 8 269_573 ++ far ∷ []
  pub nine-before : activations Churn (with_quotient 2) ≡ replicate 9 269_573
  -- by mainnet's own the churn limit is the least, 4
  pub churn-four : get_validator_churn_limit mainnet slot many ≡ 4
  pub four-activated : activations (AtMost 8) mainnet ≡ replicate 4 269_573 ++ replicate 5 far
  -- "It may be 0: then nobody is activated", and ejections go on
  pub nobody-activated : updated (AtMost 0) mainnet (waiting ∷ leaving ∷ []) ≡ value (waiting ∷ validator 16_000_000_000 0 0 269_573 269_829 ∷ [])

churn-of : (vs : List Validator) → active_in vs ≡ 655_360 → get_validator_churn_limit mainnet slot vs ≡ 10
unfolding get_validator_churn_limit
churn-of vs e = rw e refl

all-active : (n : ℕ) → active_in (replicate n active) ≡ n
unfolding get_active_validator_indices is_active_validator get_current_epoch compute_epoch_at_slot filter
all-active zero = refl
all-active (suc n) = ap suc (all-active n)

pub figures : Figures
unfolding computing
figures =
    record {
      eight_of-ten = refl;
      four_of-four = refl;
      churn-ten = churn-of;
      so_many = all-active 655_360;
      churn_by-two = refl;
      ten_leave = refl;
      eight-activated = refl;
      nine-before = refl;
      churn-four = refl;
      four-activated = refl;
      nobody-activated = refl;
    }
