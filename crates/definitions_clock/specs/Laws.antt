-- What is claimed of the clock. Document 02, R-11: "A second belongs to one slot, and going from slot to its seconds and back gives that slot."
use Rattle.std.specs.Prelude.{◌≡◌, true, ℕ, ◌+◌, ◌≤◌, ◌<◌}
use Rattle.definitions.specs.Checked.{value}
use Rattle.definitions_clock.specs.declared.Clock.{Clock}
use Rattle.definitions_clock.specs.Clock.{slot_at, epoch_at, last_slot_of, first_second_of_slot_call, last_second_of_slot_call, first_second_of_epoch_call, last_second_of_epoch_call, in_closing_window}
use Rattle.definitions_clock.specs.Calls.{slot_at_time, epoch_at_time, is_in_closing_window, first_second_of_slot, last_second_of_slot, first_second_of_epoch, last_second_of_epoch}

-- Of the numbers, where neither seconds_per_slot nor slots_per_epoch is 0

-- every second from genesis on is in one slot, and a slot ends where the next begins
pub record SlotLaws (c : Clock) : Type 0 where
  pub begun : (second : ℕ) → c.genesis_time ≤ second → first_second_of_slot_call c (slot_at c second) ≤ second
  pub not_over : (second : ℕ) → c.genesis_time ≤ second → second ≤ last_second_of_slot_call c (slot_at c second)
  pub one : (second slot : ℕ) → first_second_of_slot_call c slot ≤ second → second ≤ last_second_of_slot_call c slot → slot_at c second ≡ slot
  pub neighbours : (slot : ℕ) → first_second_of_slot_call c (slot + 1) ≡ last_second_of_slot_call c slot + 1

-- epochs alike
pub record EpochLaws (c : Clock) : Type 0 where
  pub begun : (second : ℕ) → c.genesis_time ≤ second → first_second_of_epoch_call c (epoch_at c second) ≤ second
  pub not_over : (second : ℕ) → c.genesis_time ≤ second → second ≤ last_second_of_epoch_call c (epoch_at c second)
  pub one : (second epoch : ℕ) → first_second_of_epoch_call c epoch ≤ second → second ≤ last_second_of_epoch_call c epoch → epoch_at c second ≡ epoch
  pub neighbours : (epoch : ℕ) → first_second_of_epoch_call c (epoch + 1) ≡ last_second_of_epoch_call c epoch + 1

-- the window is the last slot of the epoch, from its first second to the epoch's last, and no other second
pub record WindowLaws (c : Clock) : Type 0 where
  pub inside : (second : ℕ) → c.genesis_time ≤ second → in_closing_window c second ≡ true → first_second_of_slot_call c (last_slot_of c (epoch_at c second)) ≤ second
  pub whole : (second epoch : ℕ) → first_second_of_slot_call c (last_slot_of c epoch) ≤ second → second ≤ last_second_of_epoch_call c epoch → in_closing_window c second ≡ true

-- Of the calls, wherever they answer: a slot or epoch to its seconds and back
pub record ThereAndBack (c : Clock) : Type 0 where
  pub slot-first : (slot second : ℕ) → first_second_of_slot c slot ≡ value second → slot_at_time c second ≡ value slot
  pub slot-last : (slot second : ℕ) → last_second_of_slot c slot ≡ value second → slot_at_time c second ≡ value slot
  pub epoch-first : (epoch second : ℕ) → first_second_of_epoch c epoch ≡ value second → epoch_at_time c second ≡ value epoch
  pub epoch-last : (epoch second : ℕ) → last_second_of_epoch c epoch ≡ value second → epoch_at_time c second ≡ value epoch
  -- the last second of an epoch is in its closing window
  pub window : (epoch second : ℕ) → last_second_of_epoch c epoch ≡ value second → is_in_closing_window c second ≡ value true

pub record Laws (c : Clock) : Type 0 where
  pub slots : 0 < c.seconds_per_slot → SlotLaws c
  pub epochs : 0 < c.seconds_per_slot → 0 < c.slots_per_epoch → EpochLaws c
  pub window : 0 < c.seconds_per_slot → 0 < c.slots_per_epoch → WindowLaws c
  pub calls : ThereAndBack c
