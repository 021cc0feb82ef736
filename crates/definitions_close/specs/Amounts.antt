-- The amounts of a close with the rule behind each. Document 02, R-4: "nine numbers a validator: reward and amount really taken for source,
-- target, head and inactivity, then amount taken by slashing".
use Rattle.std.specs.Prelude.{Bool, cond, List, [], ◌∷◌, ◌++◌, map, ℕ, ◌+◌, ◌-◌, ◌*◌, ◌/◌, min, eqb, length, replicate}
use Rattle.definitions.specs.declared.Settings.{Settings}
use Rattle.definitions.specs.declared.Deltas.{Deltas}
use Rattle.definitions.specs.declared.ActivationLimit.{ActivationLimit}
use Rattle.definitions.specs.declared.ActivationLimit.TheVariants.{Churn}
use Rattle.definitions.specs.Record.{Validator, BeaconState, GENESIS_EPOCH}
use Rattle.definitions.specs.Checked.{Checked, value, bind, mul64, sum64, map_checked}
use Rattle.definitions.specs.Refusals.{length_is, closing_buffer}
use Rattle.definitions.specs.Rust.Phase0.Helpers.{get_current_epoch, get_previous_epoch, get_total_active_balance}
use Rattle.definitions.specs.Rust.Altair.Helpers.{TIMELY_SOURCE_FLAG_INDEX, TIMELY_TARGET_FLAG_INDEX, TIMELY_HEAD_FLAG_INDEX, flag_totals}
use Rattle.definitions.specs.Rust.Altair.EpochProcessing.{all_deltas, is_slashing_due, slashing_penalty}
use Rattle.definitions.specs.Close.{finalized_epoch_of, limited_up_to, limited_epoch}

-- Rewards and penalties

-- of the pairs that `reward_and_penalize` applies: from a balance on, each reward and the "amount really taken" after it: "An amount cut off at balance 0
-- is given as cut."
unfoldable pub booked : ℕ → List Deltas → List ℕ
booked balance [] = []
booked balance (d ∷ ds) =
    let raised = balance + d.reward in
    let taken = min raised d.penalty in
    d.reward ∷ taken ∷ booked (raised - taken) ds

-- beside `process_rewards_and_penalties`, which leaves all as it is at the genesis epoch: eight numbers a validator
unfoldable pub booked_by_rewards : Settings → ℕ → ℕ → ℕ → List Validator → Checked (List (List ℕ))
booked_by_rewards s quotient state_slot finalized_epoch vs =
    let totals = flag_totals s state_slot finalized_epoch vs in
    let current_epoch = get_current_epoch s state_slot in
    let of = all_deltas s quotient current_epoch (get_previous_epoch s state_slot) in
    cond (eqb current_epoch GENESIS_EPOCH) (value (map (λ v. replicate 8 0) vs))
    (bind (totals TIMELY_SOURCE_FLAG_INDEX) (λ source.
    bind (totals TIMELY_TARGET_FLAG_INDEX) (λ target.
    bind (totals TIMELY_HEAD_FLAG_INDEX) (λ head.
    map_checked (λ v. bind (of source target head v) (λ ds. value (booked v.balance ds))) vs))))

-- Slashings

-- beside `slash`
unfoldable pub taken_from : Settings → ℕ → ℕ → ℕ → Validator → Checked ℕ
taken_from s epoch total_balance adjusted_total_slashing_balance v =
    bind (is_slashing_due s epoch v) (λ due.
    cond due (bind (slashing_penalty s total_balance adjusted_total_slashing_balance v) (λ penalty. value (min v.balance penalty))) (value 0))

-- beside `process_slashings`: one number a validator
unfoldable pub taken_by_slashings : Settings → ℕ → ℕ → List ℕ → List Validator → Checked (List ℕ)
taken_by_slashings s multiplier state_slot slashings vs =
    bind (get_total_active_balance s state_slot vs) (λ total_balance.
    bind (sum64 slashings) (λ slashed.
    bind (mul64 slashed multiplier) (λ product.
    map_checked (taken_from s (get_current_epoch s state_slot) total_balance (min product total_balance)) vs)))

-- The close

unfoldable pub nines : List (List ℕ) → List ℕ → List ℕ
nines (eight ∷ eights) (ninth ∷ ninths) = eight ++ (ninth ∷ nines eights ninths)
nines (eight ∷ eights) [] = []
nines [] ninths = []

-- the rewards step is the third, and slashings the fifth: each as it finds the state
unfoldable pub limited_amounts : ActivationLimit → Settings → BeaconState → Checked (List ℕ)
limited_amounts limit s st =
    let quotient = s.inactivity_penalty_quotient_altair in
    let multiplier = s.proportional_slashing_multiplier_altair in
    bind (limited_up_to limit 2 s st) (λ scored.
    bind (booked_by_rewards s quotient scored.finality.slot (finalized_epoch_of scored) scored.validators) (λ eights.
    bind (limited_up_to limit 4 s st) (λ updated.
    bind (taken_by_slashings s multiplier updated.finality.slot updated.slashings updated.validators) (λ ninths.
    value (nines eights ninths)))))

abbrev pub amounts : Settings → BeaconState → Checked (List ℕ)
amounts s st = limited_amounts Churn s st

-- "A list of the wrong length gets refusal 1;"
abbrev pub amounts_shaped : List ℕ → List ℕ → Bool
amounts_shaped registry lent = length_is (9 * (length registry / 10)) lent

-- "refusals 4 and 5 leave zeros in it": the list after a close of which `tests` is the answer of tests 1 to 3, which leave it untouched
unfoldable pub limited_closing_amounts : ActivationLimit → Checked (Unit {0}) → Settings → BeaconState → List ℕ → List ℕ
limited_closing_amounts limit tests s st lent =
    closing_buffer (λ filled. filled) tests (bind (limited_epoch limit s st) (λ _. limited_amounts limit s st)) (replicate (length lent) 0) lent

abbrev pub closing_amounts : Checked (Unit {0}) → Settings → BeaconState → List ℕ → List ℕ
closing_amounts tests s st lent = limited_closing_amounts Churn tests s st lent
