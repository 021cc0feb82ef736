-- Twelve amounts a validator, by their places.
use Rattle.std.specs.Prelude.{◌≡◌, cond, List, ℕ, ◌+◌, ◌-◌, ◌*◌, ◌/◌, ◌%◌, ◌<◌, ltb, eqb, length, get_or}
use Rattle.electra_amounts.specs.declared.Amount.{Amount}
use Rattle.electra_amounts.specs.declared.Amount.TheVariants.{Balance, Less, More}
use Rattle.definitions.specs.Record.{decode, nobody}

-- what stands at a place of rows of twelve, of rows of nine
abbrev pub spread_at : List ℕ → ℕ → ℕ
spread_at xs p = cond (ltb (p % 12) 9) (get_or xs (9 * (p / 12) + p % 12) 0) 0

pub record Spread (lent xs : List ℕ) : Type 0 where
  pub long : length xs ≡ length lent
  pub held : (p : ℕ) → p < length lent → get_or xs p 0 ≡ spread_at lent p

-- the balance, what it is less than the one that was kept, or what it is more
unfoldable pub booked_by : ℕ → ℕ → ℕ → ℕ
booked_by op kept balance = cond (eqb op 0) balance (cond (eqb op 1) (kept - balance) (balance - kept))

-- the same of what a number means
abbrev pub booked_as : Amount → ℕ → ℕ → ℕ
booked_as Balance kept balance = balance
booked_as Less kept balance = kept - balance
booked_as More kept balance = balance - kept

abbrev pub balance_in : List ℕ → ℕ → ℕ
balance_in registry i = (get_or (decode registry) i nobody).balance

-- one column, by the registry; and no other
pub record Booked (op column : ℕ) (registry lent xs : List ℕ) : Type 0 where
  pub long : length xs ≡ length lent
  pub held : (i : ℕ) → i < length registry / 10 → get_or xs (12 * i + column) 0 ≡ booked_by op (get_or lent (12 * i + column) 0) (balance_in registry i)
  pub other : (p : ℕ) → ((i : ℕ) → p ≡ 12 * i + column → ⊥) → get_or xs p 0 ≡ get_or lent p 0
