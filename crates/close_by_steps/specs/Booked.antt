-- What rewards book of one validator, and what the step promises when it books as it goes.
use Rattle.std.specs.Prelude.{◌≡◌, List, [], ◌∷◌, ◌++◌, map, ℕ, ◌*◌, ◌/◌, ◌<◌, length, get_or}
use Rattle.definitions.specs.declared.Settings.{Settings}
use Rattle.definitions.specs.Record.{Validator, decode_one, decode, nobody}
use Rattle.definitions.specs.Checked.{Checked, value, bind, map_checked}
use Rattle.definitions.specs.Rust.Altair.Helpers.{FlagTotals}
use Rattle.definitions.specs.Rust.Altair.EpochProcessing.{all_deltas, process_rewards_and_penalties}
use Rattle.definitions_close.specs.Amounts.{booked, booked_by_rewards, nines}
use Rattle.laws.specs.Ran.{Settles, Ran}
use Rattle.write_pass.specs.Filled.{nine_at}

-- what `booked_by_rewards` puts down for a validator
unfoldable pub eight_of : Settings → ℕ → ℕ → ℕ → FlagTotals → FlagTotals → FlagTotals → Validator → Checked (List ℕ)
eight_of s quotient current previous source target head v =
    bind (all_deltas s quotient current previous source target head v) (λ ds. value (booked v.balance ds))

-- f is what is done to a validator, g what is booked of it: eight numbers, and 0 as the ninth

pub record BooksEntry (f : Validator → Checked Validator) (g : Validator → Checked (List ℕ)) (before after nine : List ℕ) (r : Checked (Unit {0})) : Type 0 where
  pub settles : Settles f before after r
  pub books : r ≡ value tt → (e : List ℕ) → g (decode_one before) ≡ value e → nine ≡ e ++ (0 ∷ [])

pub record BooksAll (f : Validator → Checked Validator) (g : Validator → Checked (List ℕ)) (before after amounts : List ℕ) (r : Checked (Unit {0})) : Type 0 where
  pub ran : Ran (map_checked f (decode before)) after r
  pub long : r ≡ value tt → length amounts ≡ 9 * (length before / 10)
  pub books : r ≡ value tt → (i : ℕ) → i < length before / 10 → (e : List ℕ) → g (get_or (decode before) i nobody) ≡ value e → nine_at amounts i ≡ e ++ (0 ∷ [])

-- the step

pub record RewardsBooked (s : Settings) (quotient state_slot finalized_epoch : ℕ) (before after amounts : List ℕ) (r : Checked (Unit {0})) : Type 0 where
  pub ran : Ran (process_rewards_and_penalties s quotient state_slot finalized_epoch (decode before)) after r
  pub books : r ≡ value tt → (es : List (List ℕ)) → booked_by_rewards s quotient state_slot finalized_epoch (decode before) ≡ value es
      → amounts ≡ nines es (map (λ v. 0) (decode before))
