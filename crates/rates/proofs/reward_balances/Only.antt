-- Deltas, and the balance that they leave, are refused by overflow alone.
use mathlib.Core.Bool.{Bool, true, false, cond, ◌&&◌, not}
use mathlib.Core.List.{List, [], ◌∷◌}
use Prim.Native.Nat.{ℕ}
use lib.Dec.{eqb}
use Rattle.definitions.specs.declared.Deltas.{Deltas}
use Rattle.definitions.specs.declared.Settings.{Settings}
use Rattle.definitions.specs.Checked.{Checked, fold_checked}
use Rattle.definitions.specs.Record.{Validator}
use Rattle.definitions.specs.Document.Phase0.EpochProcessing.{is_eligible}
use Rattle.definitions.specs.Rust.Altair.Helpers.{TIMELY_HEAD_FLAG_INDEX, is_unslashed_participating, FlagTotals, hit_deltas, miss_deltas, flag_index_deltas, inactivity_penalty_deltas}
use Rattle.definitions.specs.Rust.Altair.EpochProcessing.{all_deltas}
use Rattle.arithmetic.proofs.Operations.{OnlyOverflow, only-value, only-add64, only-mul64, only-bind}
use Rattle.rewards.proofs.base_rewards.Base.{only-base}
use Rattle.rates.specs.Balances.{applied_balance, rewarded_balance}

pub only-either : {A : Type 0} {x y : Checked A} (t : Bool) → OnlyOverflow x → OnlyOverflow y → OnlyOverflow (cond t x y)
only-either true h k = h
only-either false h k = k

pub only_hit : (s : Settings) (weight : ℕ) (t : FlagTotals) (base : ℕ) → OnlyOverflow (hit_deltas s weight t base)
unfolding hit_deltas
only_hit s weight t base = only-either t.leaking (only-value _) (only-bind (only-mul64 _ _) (λ w. only-bind (only-mul64 _ _) (λ n. only-bind (only-mul64 _ _) (λ d. only-value _))))

pub only_miss : (flag_index weight base : ℕ) → OnlyOverflow (miss_deltas flag_index weight base)
unfolding miss_deltas
only_miss flag_index weight base = only-either (eqb flag_index TIMELY_HEAD_FLAG_INDEX) (only-value _) (only-bind (only-mul64 _ _) (λ w. only-value _))

pub only-flag : (s : Settings) (current_epoch previous_epoch flag_index : ℕ) (t : FlagTotals) (v : Validator) → OnlyOverflow (flag_index_deltas s current_epoch previous_epoch flag_index t v)
unfolding flag_index_deltas
only-flag s current_epoch previous_epoch flag_index t v =
    only-either (is_eligible previous_epoch v)
    (only-bind (only-base s t.total_active_balance v) (λ base. only-either (is_unslashed_participating current_epoch flag_index previous_epoch v) (only_hit s _ t base) (only_miss flag_index _ base)))
    (only-value _)

pub only-penalty : (s : Settings) (quotient current_epoch previous_epoch : ℕ) (v : Validator) → OnlyOverflow (inactivity_penalty_deltas s quotient current_epoch previous_epoch v)
unfolding inactivity_penalty_deltas
only-penalty s quotient current_epoch previous_epoch v =
    only-either (is_eligible previous_epoch v && not (is_unslashed_participating current_epoch 1 previous_epoch v))
    (only-bind (only-mul64 _ _) (λ n. only-bind (only-mul64 _ _) (λ d. only-value _)))
    (only-value _)

pub only-applied : (balance : ℕ) (d : Deltas) → OnlyOverflow (applied_balance balance d)
unfolding applied_balance
only-applied balance d = only-bind (only-add64 _ _) (λ raised. only-value _)

pub only-all_applied : (balance : ℕ) (ds : List Deltas) → OnlyOverflow (fold_checked applied_balance balance ds)
unfolding fold_checked
only-all_applied balance [] = only-value balance
only-all_applied balance (d ∷ ds) = only-bind (only-applied balance d) (λ b. only-all_applied b ds)

pub only-rewarded : (s : Settings) (quotient current_epoch previous_epoch : ℕ) (source target head : FlagTotals) (v : Validator) → OnlyOverflow (rewarded_balance s quotient current_epoch previous_epoch source target head v)
unfolding rewarded_balance all_deltas
only-rewarded s quotient current_epoch previous_epoch source target head v =
    let flag = only-flag s current_epoch previous_epoch in
    only-bind
    (only-bind (flag 0 source v) (λ a. only-bind (flag 1 target v) (λ b. only-bind (flag 2 head v) (λ c. only-bind (only-penalty s quotient current_epoch previous_epoch v) (λ d. only-value _)))))
    (λ ds. only-all_applied _ ds)
