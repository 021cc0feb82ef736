-- Which second belongs to which slot and epoch, over natural numbers, which have no bound. Sources: clock.rs, and document 02, R-11.
use Rattle.std.specs.Prelude.{Bool, ℕ, ◌+◌, ◌-◌, ◌*◌, ◌/◌, eqb}
use Rattle.definitions_clock.specs.declared.Clock.{Clock}

-- clock.rs, convert_timestamp_to_slot
abbrev pub slot_at : Clock → ℕ → ℕ
slot_at c second = (second - c.genesis_time) / c.seconds_per_slot

-- clock.rs, epoch_for
abbrev pub epoch_of : Clock → ℕ → ℕ
epoch_of c slot = slot / c.slots_per_epoch

abbrev pub epoch_at : Clock → ℕ → ℕ
epoch_at c second = epoch_of c (slot_at c second)

-- phase0/beacon-chain.md, compute_start_slot_at_epoch
abbrev pub first_slot_of : Clock → ℕ → ℕ
first_slot_of c epoch = epoch * c.slots_per_epoch

abbrev pub last_slot_of : Clock → ℕ → ℕ
last_slot_of c epoch = first_slot_of c epoch + (c.slots_per_epoch - 1)

-- clock.rs, convert_slot_to_timestamp
abbrev pub first_second_of_slot_call : Clock → ℕ → ℕ
first_second_of_slot_call c slot = slot * c.seconds_per_slot + c.genesis_time

abbrev pub last_second_of_slot_call : Clock → ℕ → ℕ
last_second_of_slot_call c slot = first_second_of_slot_call c slot + (c.seconds_per_slot - 1)

abbrev pub first_second_of_epoch_call : Clock → ℕ → ℕ
first_second_of_epoch_call c epoch = first_second_of_slot_call c (first_slot_of c epoch)

abbrev pub last_second_of_epoch_call : Clock → ℕ → ℕ
last_second_of_epoch_call c epoch = last_second_of_slot_call c (last_slot_of c epoch)

-- "the closing window, which is the last slot of an epoch"
abbrev pub in_closing_window : Clock → ℕ → Bool
in_closing_window c second = eqb (slot_at c second) (last_slot_of c (epoch_at c second))
