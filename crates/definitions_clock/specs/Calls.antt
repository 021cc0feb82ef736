-- What each call answers: a refusal, or the number. Document 02, R-11: "tested 15, 2, 14", and "An answer above 2^64 - 1 is 5".
use Rattle.std.specs.Prelude.{Bool, cond, ◌||◌, not, ℕ, ◌^◌, ltb, eqb}
use Rattle.definitions.specs.Checked.{Checked, value, refused}
use Rattle.definitions.specs.declared.Refusal.TheVariants.{BadSettings, Overflow, BeforeGenesis, NoSeconds}
use Rattle.definitions.specs.Refusals.{is_small, after_tests}
use Rattle.definitions_clock.specs.declared.Clock.{Clock}
use Rattle.definitions_clock.specs.Clock.{slot_at, epoch_at, first_second_of_slot_call, last_second_of_slot_call, first_second_of_epoch_call, last_second_of_epoch_call, in_closing_window}

-- test 2 of the one setting that is given
abbrev pub good_slots : ℕ → Bool
good_slots slots_per_epoch = not (eqb slots_per_epoch 0 || not (is_small slots_per_epoch))

-- 15, then 2: every call
unfoldable pub clock_tests : Clock → Checked (Unit {0})
clock_tests c =
    cond (eqb c.seconds_per_slot 0) (refused NoSeconds) (cond (good_slots c.slots_per_epoch) (value tt) (refused BadSettings))

unfoldable pub not_before_genesis : Clock → ℕ → Checked (Unit {0})
not_before_genesis c second = cond (ltb second c.genesis_time) (refused BeforeGenesis) (value tt)

-- 15, then 2, then 14: the calls that are given a second
unfoldable pub second_tests : Clock → ℕ → Checked (Unit {0})
second_tests c second = after_tests (clock_tests c) (not_before_genesis c second)

abbrev pub is64 : ℕ → Bool
is64 n = ltb n (2 ^ 64)

-- 5: the answer alone is tested, and no number on the way to it
unfoldable pub fits64 : ℕ → Checked ℕ
fits64 answer = cond (is64 answer) (value answer) (refused Overflow)

-- A slot or epoch of a second is at most the second: it always fits

unfoldable pub slot_at_time : Clock → ℕ → Checked ℕ
slot_at_time c second = after_tests (second_tests c second) (value (slot_at c second))

unfoldable pub epoch_at_time : Clock → ℕ → Checked ℕ
epoch_at_time c second = after_tests (second_tests c second) (value (epoch_at c second))

unfoldable pub is_in_closing_window : Clock → ℕ → Checked Bool
is_in_closing_window c second = after_tests (second_tests c second) (value (in_closing_window c second))

-- "a slot or epoch (any 64-bit number)"

unfoldable pub first_second_of_slot : Clock → ℕ → Checked ℕ
first_second_of_slot c slot = after_tests (clock_tests c) (fits64 (first_second_of_slot_call c slot))

unfoldable pub last_second_of_slot : Clock → ℕ → Checked ℕ
last_second_of_slot c slot = after_tests (clock_tests c) (fits64 (last_second_of_slot_call c slot))

unfoldable pub first_second_of_epoch : Clock → ℕ → Checked ℕ
first_second_of_epoch c epoch = after_tests (clock_tests c) (fits64 (first_second_of_epoch_call c epoch))

unfoldable pub last_second_of_epoch : Clock → ℕ → Checked ℕ
last_second_of_epoch c epoch = after_tests (clock_tests c) (fits64 (last_second_of_epoch_call c epoch))
