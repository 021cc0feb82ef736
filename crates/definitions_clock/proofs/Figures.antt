-- Figures of the clock, by computing: the ends of 64 bits, the order of the tests, and mainnet.
use mathlib.Core.Path.{◌≡◌, refl}
use mathlib.Core.Bool.{true, false}
use Prim.Native.Nat.{ℕ}
use Rattle.definitions.specs.Checked.{value, refused, bind}
use Rattle.definitions.specs.declared.Refusal.TheVariants.{BadSettings, Overflow, BeforeGenesis, NoSeconds}
use Rattle.definitions.specs.Refusals.{after_tests}
use Rattle.definitions_clock.specs.declared.Clock.{Clock}
use Rattle.definitions_clock.specs.Calls.{clock_tests, not_before_genesis, second_tests, fits64, slot_at_time, epoch_at_time, is_in_closing_window, first_second_of_slot, last_second_of_slot, first_second_of_epoch, last_second_of_epoch}

abbrev clock : ℕ → ℕ → ℕ → Clock
clock genesis_time seconds_per_slot slots_per_epoch =
    record { genesis_time = genesis_time; seconds_per_slot = seconds_per_slot; slots_per_epoch = slots_per_epoch }

-- clock.rs, MAINNET_GENESIS_TIME
abbrev mainnet : Clock
mainnet = clock 1606824023 12 32

pub record Figures : Type 0 where
  -- the first second of the next slot leaves 64 bits, the answer does not
  pub last_of-all : last_second_of_slot (clock 0 1 32) 18446744073709551615 ≡ value 18446744073709551615
  pub one_too_late : last_second_of_slot (clock 1 1 32) 18446744073709551615 ≡ refused Overflow
  pub last-epoch : last_second_of_epoch (clock 0 1 1) 18446744073709551615 ≡ value 18446744073709551615
  pub last-genesis : slot_at_time (clock 18446744073709551615 1 1) 18446744073709551615 ≡ value 0
  -- 15, then 2, then 14
  pub no-seconds : slot_at_time (clock 9 0 0) 8 ≡ refused NoSeconds
  pub no-slots : slot_at_time (clock 9 1 0) 8 ≡ refused BadSettings
  pub too_many_slots : slot_at_time (clock 9 1 281474976710656) 8 ≡ refused BadSettings
  pub early : slot_at_time (clock 9 1 1) 8 ≡ refused BeforeGenesis
  -- mainnet, whose Altair began at epoch 74240
  pub genesis : slot_at_time mainnet 1606824023 ≡ value 0
  pub second-slot : slot_at_time mainnet 1606824035 ≡ value 1
  pub altair-slot : first_second_of_slot mainnet 2375680 ≡ value 1635332183
  pub altair-first : first_second_of_epoch mainnet 74240 ≡ value 1635332183
  pub altair-last : last_second_of_epoch mainnet 74240 ≡ value 1635332566
  pub altair-back : epoch_at_time mainnet 1635332566 ≡ value 74240
  pub window-before : is_in_closing_window mainnet 1635332554 ≡ value false
  pub window-opens : is_in_closing_window mainnet 1635332555 ≡ value true
  pub window_shuts : is_in_closing_window mainnet 1635332567 ≡ value false

pub figures : Figures
unfolding bind after_tests clock_tests not_before_genesis second_tests fits64 slot_at_time epoch_at_time is_in_closing_window first_second_of_slot last_second_of_slot first_second_of_epoch last_second_of_epoch
figures =
    record {
      last_of-all = refl;
      one_too_late = refl;
      last-epoch = refl;
      last-genesis = refl;
      no-seconds = refl;
      no-slots = refl;
      too_many_slots = refl;
      early = refl;
      genesis = refl;
      second-slot = refl;
      altair-slot = refl;
      altair-first = refl;
      altair-last = refl;
      altair-back = refl;
      window-before = refl;
      window-opens = refl;
      window_shuts = refl;
    }
