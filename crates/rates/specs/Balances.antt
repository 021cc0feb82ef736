-- The balance that apply_delta and reward_and_penalize leave: the one number of the ten that they change (proofs/reward_balances/Rewarded.antt).
use Rattle.std.specs.Prelude.{◌≡◌, cond, List, [], ◌∷◌, ℕ, ◌-◌, ltb}
use Rattle.definitions.specs.declared.Deltas.{Deltas}
use Rattle.definitions.specs.declared.Settings.{Settings}
use Rattle.definitions.specs.Checked.{Checked, value, bind, add64, fold_checked}
use Rattle.definitions.specs.Record.{Validator, decode_one}
use Rattle.definitions.specs.Rust.Altair.Helpers.{FlagTotals, flag_index_deltas, inactivity_penalty_deltas}
use Rattle.definitions.specs.Rust.Altair.EpochProcessing.{all_deltas, reward_and_penalize}
use Rattle.laws.specs.Ran.{Settles}
use Rattle.rates.specs.declared.reward_balances.Pairs.{Pairs}

unfoldable pub applied_balance : ℕ → Deltas → Checked ℕ
applied_balance balance d = bind (add64 balance d.reward) (λ raised. value (cond (ltb raised d.penalty) 0 (raised - d.penalty)))

unfoldable pub rewarded_balance : Settings → ℕ → ℕ → ℕ → FlagTotals → FlagTotals → FlagTotals → Validator → Checked ℕ
rewarded_balance s quotient current_epoch previous_epoch source target head v =
    bind (all_deltas s quotient current_epoch previous_epoch source target head v) (fold_checked applied_balance v.balance)

-- the four pairs of a validator
abbrev pub four : Pairs → List Deltas
four p = p.source ∷ p.target ∷ p.head ∷ p.inactivity ∷ []

-- `all_deltas` as a struct
unfoldable pub four_of : Settings → ℕ → ℕ → ℕ → FlagTotals → FlagTotals → FlagTotals → Validator → Checked Pairs
four_of s quotient current previous source target head v =
    bind (flag_index_deltas s current previous 0 source v) (λ a.
    bind (flag_index_deltas s current previous 1 target v) (λ b.
    bind (flag_index_deltas s current previous 2 head v) (λ c.
    bind (inactivity_penalty_deltas s quotient current previous v) (λ d.
    value (record { source = a; target = b; head = c; inactivity = d })))))

-- what an answer with a validator's pairs does to it
pub record Pays (answer : Checked Pairs) (before after : List ℕ) (r : Checked (Unit {0})) : Type 0 where
  pub of : (s : Settings) (quotient current previous : ℕ) (source target head : FlagTotals)
      → four_of s quotient current previous source target head (decode_one before) ≡ answer
      → Settles (reward_and_penalize s quotient current previous source target head) before after r
