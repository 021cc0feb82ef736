-- What the slashings step promises when it books what it takes, as the ninth number of each nine.
use Rattle.std.specs.Prelude.{◌≡◌, List, [], ◌∷◌, ◌++◌, ℕ, ◌/◌, ◌-◌, ◌<◌, length, get_or, take}
use Rattle.definitions.specs.declared.Settings.{Settings}
use Rattle.definitions.specs.Record.{decode, nobody}
use Rattle.definitions.specs.Checked.{Checked, value}
use Rattle.definitions.specs.Rust.Altair.EpochProcessing.{process_slashings}
use Rattle.definitions_close.specs.Amounts.{taken_by_slashings, nines}
use Rattle.definitions_close.specs.CloseBySteps.{eights}
use Rattle.laws.specs.Ran.{Ran}
use Rattle.write_pass.specs.Filled.{nine_at}

pub record SlashingsBooked (s : Settings) (multiplier state_slot : ℕ) (slashings before after lent amounts : List ℕ) (r : Checked (Unit {0})) : Type 0 where
  pub ran : Ran (process_slashings s multiplier state_slot slashings (decode before)) after r
  pub books : r ≡ value tt → (ts : List ℕ) → taken_by_slashings s multiplier state_slot slashings (decode before) ≡ value ts
      → amounts ≡ nines (eights (length lent / 9) lent) ts

-- the ninth number of each nine, by what the registry and the list hold: the balance, or what it is less
abbrev pub balance_in : List ℕ → ℕ → ℕ
balance_in registry i = (get_or (decode registry) i nobody).balance

pub record NinthsPut (registry lent amounts : List ℕ) : Type 0 where
  pub long : length amounts ≡ length lent
  pub nine : (i : ℕ) → i < length registry / 10 → nine_at amounts i ≡ take 8 (nine_at lent i) ++ (balance_in registry i ∷ [])

pub record NinthsTaken (registry lent amounts : List ℕ) : Type 0 where
  pub long : length amounts ≡ length lent
  pub nine : (i : ℕ) → i < length registry / 10 → nine_at amounts i ≡ take 8 (nine_at lent i) ++ ((get_or (nine_at lent i) 8 0 - balance_in registry i) ∷ [])
