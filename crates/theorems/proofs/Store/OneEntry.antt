-- A close by rules is the close with a store of one entry.
use mathlib.Core.Bool.{Bool, true, false, cond, ◌&&◌}
use mathlib.Core.Path.{◌≡◌, refl, sym, ◌∙◌}
use Prim.Native.Nat.{ℕ, ◌/◌}
use native.Mathlib.Omega.{arith}
use borrow.Author.Tests.{le-leb}
use Rattle.definitions.specs.declared.Rules.{Rules}
use Rattle.definitions.specs.Lists.{all, filter, every}
use Rattle.definitions.specs.Checked.{value, refused, bind}
use Rattle.definitions.specs.declared.Refusal.TheVariants.{BadShape, BadSettings}
use Rattle.definitions.specs.Refusals.{in_order, after_tests, registry_shaped, roots_shaped, slashings_shaped}
use Rattle.definitions.specs.Rules.{rules_shaped, good_rules}
use Rattle.definitions.specs.Close.{limited_tests}
use Rattle.definitions_close.specs.Amounts.{amounts_shaped}
use Rattle.definitions_close.specs.FullClose.{FullCall, full_tests, limited_full_tests, full_close}
use Rattle.definitions_close.specs.Store.{entries_from, entries, last_of, of_last, in_sequence, store_shaped, good_entries, entry_for, rules_at}
use Rattle.definitions_close.specs.StoreClose.{store_call_shaped, rules_at_slot, rules_for, close_by, store_close}
use Rattle.laws.proofs.Tests.{both, and_true, test}
use mathlib.Core.List.{◌∷◌}
use Rattle.theorems.specs.Store.Laws.{one_entry, with_one_entry, OneEntry}
use Rattle.theorems.proofs.Store.ByRead.{refused-close, unshaped, closing, shape-refused}

unruly : (rules registry roots slashings closing amounts : Bool) → (rules && (registry && (amounts && ((roots && slashings) && closing)))) ≡ false → cond amounts (rules && (registry && (roots && (slashings && closing)))) false ≡ false
unruly true registry roots slashings closing amounts h = unshaped true registry roots slashings closing amounts h
unruly false registry roots slashings closing true h = refl
unruly false registry roots slashings closing false h = refl

-- its tests are those of the rules

one-shaped : (r : Rules) → store_shaped (one_entry r) ≡ rules_shaped r
unfolding store_shaped entries_from all in_sequence every
one-shaped r = and_true (rules_shaped r && true) ∙ and_true (rules_shaped r)

one-good : (r : Rules) → good_entries (entries (one_entry r)) ≡ good_rules r
unfolding good_entries entries_from all
one-good r = and_true (good_rules r)

-- and it is read at every slot
one-read : (r : Rules) (slot : ℕ) → rules_at_slot slot (entries (one_entry r)) ≡ value r
unfolding rules_at_slot rules_at entry_for entries_from last_of filter bind
one-read r slot = rw (le-leb 0 (slot / r.settings.slots_per_epoch) (omega arith))

module _ (c : FullCall) where
  abbrev r : Rules
  r = c.call.rules

  -- test 1 of the two, as one has it and as the other has it

  abbrev by_settings : Bool
  by_settings = roots_shaped r.settings c.call.roots && slashings_shaped r.settings c.call.slashings

  one_lent : store_call_shaped (with_one_entry c) ≡ every (rules_shaped r ∷ registry_shaped c.call.registry ∷ amounts_shaped c.call.registry c.amounts ∷ by_settings ∷ closing (with_one_entry c) r)
  unfolding store_call_shaped of_last last_of entries_from
  one_lent = rw (one-shaped r)

  -- neither passes
  neither : store_call_shaped (with_one_entry c) ≡ false → full_tests c ≡ refused BadShape
  unfolding every
  neither h =
      shape-refused (with_one_entry c) r
      (unruly (rules_shaped r) (registry_shaped c.call.registry) (roots_shaped r.settings c.call.roots) (slashings_shaped r.settings c.call.slashings) (every (closing (with_one_entry c) r)) (amounts_shaped c.call.registry c.amounts) (sym one_lent ∙ h))

  -- both pass, and 2 is next
  unsettled : store_call_shaped (with_one_entry c) ≡ true → good_rules r ≡ false → full_tests c ≡ refused BadSettings
  unfolding limited_full_tests limited_tests in_order bind every
  unsettled h g =
      let t = test (rules_shaped r ∷ registry_shaped c.call.registry ∷ amounts_shaped c.call.registry c.amounts ∷ by_settings ∷ closing (with_one_entry c) r) (sym one_lent ∙ h) in
      let lengths = both (roots_shaped r.settings c.call.roots) (slashings_shaped r.settings c.call.slashings) (t 3) in
      rw (t 2, t 0, t 1, lengths.0, lengths.1, t 4, t 5, g)

pub one_entry_lem : OneEntry
unfolding store_close close_by rules_for after_tests in_order bind every
one_entry_lem c = go (store_call_shaped (with_one_entry c)) refl (good_rules c.call.rules) refl
  where
    go : (t : Bool) → store_call_shaped (with_one_entry c) ≡ t → (g : Bool) → good_rules c.call.rules ≡ g → store_close (with_one_entry c) ≡ full_close c
    go false p g q = rw p (sym (refused-close (with_one_entry c) c.call.rules BadShape (neither c p)))
    go true p false q = rw (p, one-good c.call.rules, q) (sym (refused-close (with_one_entry c) c.call.rules BadSettings (unsettled c p q)))
    go true p true q = rw (p, one-good c.call.rules, q, one-read c.call.rules c.call.finality.slot)
