-- Figures of a store, by computing: two entries read below, at, between and above their starts; what is tested and in which order; additions.
use mathlib.Core.List.{[], ◌∷◌, ◌++◌}
use mathlib.Core.Path.{◌≡◌, refl}
use Prim.Native.Nat.{ℕ}
use lib.ListN.{drop, replicate}
use Rattle.definitions.specs.declared.Settings.{Settings}
use Rattle.definitions.specs.declared.Bellatrix.{Bellatrix}
use Rattle.definitions.specs.Lists.{all, filter, every}
use Rattle.definitions.specs.Checked.{value, refused, bind}
use Rattle.definitions.specs.declared.Refusal.TheVariants.{BadShape, BadSettings, LateStart, NoEntry}
use Rattle.definitions.specs.Refusals.{in_order, after_tests, settings_shaped, settings_numbers, settings_from, good_settings}
use Rattle.definitions.specs.Rules.{rules_shaped, good_rules, good_bellatrix}
use Rattle.definitions.specs.Mainnet.{mainnet, mainnet_bellatrix}
use Rattle.definitions_close.specs.Store.{Entry, Store, entries_from, numbers_of, last_of, keeps, follows, in_sequence, store_shaped, good_entries, store_tests, entry_for, rules_at, read_rules, of_last, addition_shaped, start_test, addition_tests, with_entry, add_entry}

-- an entry with mainnet's settings
abbrev entry : ℕ → ℕ → Bellatrix → Entry
entry start fork pair = record { start = start; rules = record { settings = mainnet; fork = fork; bellatrix = pair } }

abbrev none : Bellatrix
none = record { inactivity_penalty_quotient_bellatrix = 0; proportional_slashing_multiplier_bellatrix = 0 }

-- mainnet's Altair and Bellatrix
abbrev altair : Entry
altair = entry 74_240 0 none

abbrev bellatrix : Entry
bellatrix = entry 144_896 1 mainnet_bellatrix

-- room for three, and anything in the third place
abbrev two : Store
two = record { numbers = numbers_of altair ++ (numbers_of bellatrix ++ replicate 23 7); count = 2 }

-- two entries in use, and no more room
abbrev of : Entry → Entry → Store
of e f = record { numbers = numbers_of e ++ numbers_of f; count = 2 }

abbrev empty : ℕ → Store
empty n = record { numbers = replicate n 7; count = 0 }

-- mainnet's settings with another slots_per_epoch, S or L
abbrev changed : ℕ → ℕ → ℕ → Settings
changed slots roots slashings = settings_from (slots ∷ roots ∷ slashings ∷ drop 3 (settings_numbers mainnet))

abbrev with : Settings → Entry
with s = record { start = 200_000; rules = record { settings = s; fork = 0; bellatrix = none } }

pub record Figures : Type 0 where
  pub below : read_rules two 74_239 ≡ refused NoEntry
  pub at_first : read_rules two 74_240 ≡ value altair.rules
  pub between : read_rules two 144_895 ≡ value altair.rules
  pub at_second : read_rules two 144_896 ≡ value bellatrix.rules
  pub above : read_rules two 18_446_744_073_709_551_615 ≡ value bellatrix.rules
  -- what stands behind the entries in use is not asked, and an empty store has none
  pub none_in_use : read_rules (empty 23) 5 ≡ refused NoEntry
  pub no_room : read_rules (record { numbers = []; count = 1 }) 5 ≡ refused BadShape
  pub odd : read_rules (empty 22) 5 ≡ refused BadShape
  -- starts that do not rise, a third fork: 1
  pub equal-starts : read_rules (of altair altair) 74_240 ≡ refused BadShape
  pub falling_starts : read_rules (of bellatrix altair) 74_240 ≡ refused BadShape
  pub third-fork : read_rules (of altair (entry 80_000 2 mainnet_bellatrix)) 74_240 ≡ refused BadShape
  -- "slots_per_epoch, S and L may not change": 1, in a lent store and of an addition
  pub other-slots : read_rules (of altair (with (changed 33 8_192 8_192))) 74_240 ≡ refused BadShape
  pub other-roots : read_rules (of altair (with (changed 32 8_191 8_192))) 74_240 ≡ refused BadShape
  pub other-slashings : read_rules (of altair (with (changed 32 8_192 8_191))) 74_240 ≡ refused BadShape
  pub slots-added : add_entry two (with (changed 33 8_192 8_192)) ≡ refused BadShape
  pub roots-added : add_entry two (with (changed 32 8_191 8_192)) ≡ refused BadShape
  pub slashings-added : add_entry two (with (changed 32 8_192 8_191)) ≡ refused BadShape
  -- 2 of every entry, before 13; of the pair under fork 1 only
  pub pair_before_start : read_rules (of altair (entry 80_000 1 none)) 0 ≡ refused BadSettings
  -- additions
  pub accepted : add_entry two (entry 144_897 0 none) ≡ value (record { numbers = numbers_of altair ++ (numbers_of bellatrix ++ numbers_of (entry 144_897 0 none)); count = 3 })
  pub first : add_entry (empty 23) altair ≡ value (record { numbers = numbers_of altair; count = 1 })
  pub late : add_entry two (entry 144_896 0 none) ≡ refused LateStart
  pub settings_before_late : add_entry two (entry 0 1 none) ≡ refused BadSettings
  pub full : add_entry (of altair bellatrix) (entry 144_897 0 none) ≡ refused BadShape

pub figures : Figures
unfolding all filter bind in_order after_tests settings_shaped good_settings rules_shaped good_rules good_bellatrix entries_from last_of keeps follows in_sequence store_shaped good_entries store_tests entry_for rules_at read_rules of_last addition_shaped start_test addition_tests with_entry add_entry every
figures =
    record {
      below = refl;
      at_first = refl;
      between = refl;
      at_second = refl;
      above = refl;
      none_in_use = refl;
      no_room = refl;
      odd = refl;
      equal-starts = refl;
      falling_starts = refl;
      third-fork = refl;
      other-slots = refl;
      other-roots = refl;
      other-slashings = refl;
      slots-added = refl;
      roots-added = refl;
      slashings-added = refl;
      pair_before_start = refl;
      accepted = refl;
      first = refl;
      late = refl;
      settings_before_late = refl;
      full = refl;
    }
