-- The answer that is asked for, quantified over fillings.
use Rattle.std.specs.Prelude.{◌≡◌, Bool, true, false, ◌&&◌, ◌||◌, List, [], ◌∷◌, ℕ, ◌≤◌, ◌<◌, ltb, eqb}
use Rattle.definitions.specs.declared.Settings.{Settings}
use Rattle.definitions.specs.declared.Finality.{Finality}
use Rattle.definitions.specs.Lists.{all}
use Rattle.definitions.specs.Record.{Validator}
use Rattle.definitions.specs.Checked.{Checked, value, refused, bind}
use Rattle.definitions.specs.declared.Refusal.TheVariants.{NoRoot, Overflow}
use Rattle.definitions.specs.Rust.Phase0.Helpers.{get_current_epoch, get_previous_epoch, get_block_root, get_total_balance, get_total_active_balance}
use Rattle.definitions.specs.Rust.Phase0.EpochProcessing.{is_justified}
use Rattle.definitions.specs.Rust.Altair.Helpers.{TIMELY_TARGET_FLAG_INDEX, get_unslashed_participating_indices}
use Rattle.definitions.specs.Rust.Altair.EpochProcessing.{process_justification_and_finalization}
use Rattle.definitions_votes.specs.Filling.{Filling, filled}

-- What is lent: the justification step's own, and the marks
pub record Ballot : Type 0 where
  pub settings : Settings
  pub roots : List ℕ
  pub finality : Finality
  pub validators : List Validator
  pub marks : List ℕ

abbrev pub current_of : Ballot → ℕ
current_of b = get_current_epoch b.settings b.finality.slot

abbrev pub previous_of : Ballot → ℕ
previous_of b = get_previous_epoch b.settings b.finality.slot

abbrev pub filled_by : Ballot → Filling → List Validator
filled_by b filling = filled b.marks filling b.validators

-- the step itself, on the registry that a filling makes
abbrev pub step_of : Ballot → Filling → Checked Finality
step_of b filling = process_justification_and_finalization b.settings b.roots b.finality (filled_by b filling)

-- the two-thirds test of a target epoch, as the step makes it
unfoldable pub two_thirds : Settings → ℕ → List Validator → ℕ → Checked Bool
two_thirds s state_slot vs epoch =
    bind (get_total_active_balance s state_slot vs) (λ total.
    bind (get_total_balance s (get_unslashed_participating_indices s state_slot vs TIMELY_TARGET_FLAG_INDEX epoch)) (λ target.
    is_justified target total))

abbrev pub test_of : Ballot → ℕ → Filling → Checked Bool
test_of b epoch filling = two_thirds b.settings b.finality.slot (filled_by b filling) epoch

-- whether a lookup gives a root
abbrev pub is_found : Checked (List ℕ) → Bool
is_found (value root) = true
is_found (refused r) = false

abbrev pub root_found : Ballot → ℕ → Bool
root_found b epoch = is_found (get_block_root b.settings b.roots b.finality.slot epoch)

abbrev pub roots_found : Ballot → Bool
roots_found b = root_found b (previous_of b) && root_found b (current_of b)

-- In how many fillings a test passes
pub data Verdict : Type 0 where
  none some every : Verdict

pub record Outcome : Type 0 where
  pub epochs : List ℕ
  pub previous : Verdict
  pub current : Verdict

abbrev pub Holds : Verdict → (Filling → Checked Bool) → Type 0
Holds none test = (f : Filling) → test f ≡ value false
Holds some test = ((f : Filling) × (test f ≡ value true)) × ((f : Filling) × (test f ≡ value false))
Holds every test = (f : Filling) → test f ≡ value true

-- whether e is listed, and whether each of a list is below all that follow it: no two are then alike
unfoldable pub among : ℕ → List ℕ → Bool
among e [] = false
among e (x ∷ xs) = eqb e x || among e xs

unfoldable pub rising : List ℕ → Bool
rising [] = true
rising (x ∷ xs) = all (ltb x) xs && rising xs

-- some filling's step gives e as its finalized epoch
pub record Reaches (b : Ballot) (e : ℕ) : Type 0 where
  pub filling : Filling
  pub after : Finality
  pub gives : step_of b filling ≡ value after
  pub finalizes : after.finalized_checkpoint.epoch ≡ e

-- exactly the epochs that some filling reaches
pub record Lists (b : Ballot) (xs : List ℕ) : Type 0 where
  pub in_order : rising xs ≡ true
  pub reached : (e : ℕ) → among e xs ≡ true → Reaches b e
  pub listed : (e : ℕ) → Reaches b e → among e xs ≡ true

pub record Told (b : Ballot) (m : Checked Outcome) : Type 0 where
  pub outcome : Outcome
  pub is : m ≡ value outcome
  pub epochs : Lists b outcome.epochs
  pub previous : Holds outcome.previous (test_of b (previous_of b))
  pub current : Holds outcome.current (test_of b (current_of b))

-- the finalized epoch alone, and no test passes
abbrev pub nothing_open : Ballot → Outcome
nothing_open b = record { epochs = b.finality.finalized_checkpoint.epoch ∷ []; previous = none; current = none }

pub record Exact (b : Ballot) (m : Checked Outcome) : Type 0 where
  -- up to epoch 1
  pub early : current_of b ≤ 1 → m ≡ value (nothing_open b)
  -- 4 where either root cannot be looked up, wanted or not
  pub missing : 1 < current_of b → roots_found b ≡ false → m ≡ refused NoRoot
  -- then 5 where some filling overflows, and only there
  pub over : 1 < current_of b → roots_found b ≡ true → (f : Filling) → step_of b f ≡ refused Overflow → m ≡ refused Overflow
  pub over-only : 1 < current_of b → roots_found b ≡ true → m ≡ refused Overflow → (f : Filling) × (step_of b f ≡ refused Overflow)
  -- and else the list and both verdicts
  pub told : 1 < current_of b → roots_found b ≡ true → ((f : Filling) → step_of b f ≡ refused Overflow → ⊥) → Told b m
