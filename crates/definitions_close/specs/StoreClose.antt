-- The close with a store in place of settings, fork and pair. Document 02, R-10: "a read or close uses the last entry whose start is not above
-- its epoch".
use Rattle.std.specs.Prelude.{Bool, ◌&&◌, List, [], ◌∷◌, ℕ, ◌/◌}
use Rattle.definitions.specs.declared.Rules.{Rules}
use Rattle.definitions.specs.declared.Finality.{Finality}
use Rattle.definitions.specs.declared.ExitQueue.{ExitQueue}
use Rattle.definitions.specs.Checked.{Checked, value, refused, bind, number_of}
use Rattle.definitions.specs.Refusals.{in_order, after_tests, registry_shaped, roots_shaped, slashings_shaped, same_length}
use Rattle.definitions.specs.Raised.{none_raised}
use Rattle.definitions_close.specs.Amounts.{amounts_shaped}
use Rattle.definitions_close.specs.FullClose.{FullCall, FullOutcome, full_close}
use Rattle.definitions_close.specs.Store.{Entry, Store, entries, last_of, of_last, store_shaped, good_entries, rules_at}
use Rattle.definitions.specs.Lists.{every}

-- All that such a close is handed
pub record StoreCall : Type 0 where
  pub store : Store
  pub finality : Finality
  pub queue : ExitQueue
  pub registry : List ℕ
  pub slashings : List ℕ
  pub roots : List ℕ
  pub closing_registry : List ℕ
  pub closing_slashings : List ℕ
  pub amounts : List ℕ

-- the same call with rules
abbrev pub call_by : StoreCall → Rules → FullCall
call_by c rules =
    record {
      call =
          record {
            rules = rules;
            finality = c.finality;
            registry = c.registry;
            slashings = c.slashings;
            roots = c.roots;
            closing_registry = c.closing_registry;
            closing_slashings = c.closing_slashings;
          };
      queue = c.queue;
      amounts = c.amounts;
    }

-- Test 1: S and L are the same in all entries; "with an empty store, where tests that need a setting are skipped"
unfoldable pub store_call_shaped : StoreCall → Bool
store_call_shaped c =
    let closing = same_length c.registry c.closing_registry ∷ same_length c.slashings c.closing_slashings ∷ [] in
    let by_settings : Entry → Bool = λ e. roots_shaped e.rules.settings c.roots && slashings_shaped e.rules.settings c.slashings in
    let lent = amounts_shaped c.registry c.amounts ∷ of_last by_settings (last_of (entries c.store)) ∷ closing in
    every (store_shaped c.store ∷ registry_shaped c.registry ∷ lent)

-- "The epoch of a close is slot / slots_per_epoch", which is the same in all entries
unfoldable pub rules_at_slot : ℕ → List Entry → Checked Rules
rules_at_slot slot es = bind (last_of es) (λ e. rules_at (slot / e.rules.settings.slots_per_epoch) es)

-- the rules that the close goes by: 1, then 2 of every entry, then 13
unfoldable pub rules_for : StoreCall → Checked Rules
rules_for c =
    let es = entries c.store in
    after_tests (in_order (store_call_shaped c ∷ []) (good_entries es ∷ []) []) (rules_at_slot c.finality.slot es)

-- turned away by these: nothing is written
abbrev pub turned_away : StoreCall → ℕ → FullOutcome
turned_away c number =
    record {
      refusal = number;
      finality = c.finality;
      queue = c.queue;
      raised = none_raised;
      test = 0;
      closing_registry = c.closing_registry;
      closing_slashings = c.closing_slashings;
      amounts = c.amounts;
    }

-- then 3, 8, 4 and 5: the close by the rules read
unfoldable pub close_by : StoreCall → Checked Rules → FullOutcome
close_by c (value rules) = full_close (call_by c rules)
close_by c (refused r) = turned_away c (number_of r)

unfoldable pub store_close : StoreCall → FullOutcome
store_close c = close_by c (rules_for c)
