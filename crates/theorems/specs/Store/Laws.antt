-- What is claimed of an accepted addition, and of a close with a store. Words in quotation marks are 02's, in R-10.
use Rattle.std.specs.Prelude.{List, [], ◌∷◌, ◌++◌, ◌≡◌, ℕ, ◌/◌, ◌≤◌, ◌<◌, length}
use Rattle.definitions.specs.declared.Rules.{Rules}
use Rattle.definitions.specs.Checked.{value}
use Rattle.definitions_close.specs.FullClose.{FullCall, full_close}
use Rattle.definitions_close.specs.declared.CountAnswer.{CountAnswer}
use Rattle.definitions_close.specs.Store.{Entry, Store, numbers_of, entries, last_of, store_tests, read_rules, rules_answer_for, add_entry, added}
use Rattle.definitions_close.specs.StoreClose.{StoreCall, call_by, store_close}
use Rattle.definitions_close.specs.Calls.{lent, new_entry, add_outcome}

-- t is the store after `new` was added to s
pub record Grown (s : Store) (new : Entry) (t : Store) : Type 0 where
  -- it stands behind those in use, and passes the tests of a store with them
  pub behind : entries t ≡ entries s ++ (new ∷ [])
  pub long : length t.numbers ≡ length s.numbers
  pub formed : store_tests t ≡ value tt
  -- "Reading an epoch below a new entry's start gives the same after the addition as before."
  pub before : (epoch : ℕ) → epoch < new.start → read_rules t epoch ≡ read_rules s epoch
  -- and from its start on the new one is read
  pub since : (epoch : ℕ) → new.start ≤ epoch → read_rules t epoch ≡ value new.rules

abbrev pub Additions : Type 0
Additions = (s : Store) (new : Entry) (t : Store) → add_entry s new ≡ value t → Grown s new t

-- of the calls: the numbers ys and the count of its answer are what `add_rules` left of xs, unrefused, by its contract
abbrev pub ReadsBefore : Type 0
ReadsBefore =
    (xs ys : List ℕ) (count start epoch : ℕ) (rules : Rules) (a : CountAnswer) → add_outcome a ys ≡ added (lent xs count) (new_entry start rules)
    → a.refusal ≡ 0 → epoch < start
    → rules_answer_for (read_rules (lent ys a.count) epoch) ≡ rules_answer_for (read_rules (lent xs count) epoch)

-- "a read or close uses the last entry": where a read of the close's epoch gives rules, the close is the close by these, refused or not
abbrev pub ClosesByRead : Type 0
ClosesByRead =
    (c : StoreCall) (e : Entry) (rules : Rules) → last_of (entries c.store) ≡ value e
    → read_rules c.store (c.finality.slot / e.rules.settings.slots_per_epoch) ≡ value rules
    → store_close c ≡ full_close (call_by c rules)

-- A store of one entry, from epoch 0 on, says what its rules say: of every close by rules
abbrev pub one_entry : Rules → Store
one_entry rules = record { numbers = numbers_of (record { start = 0; rules = rules }); count = 1 }

abbrev pub with_one_entry : FullCall → StoreCall
with_one_entry c =
    record {
      store = one_entry c.call.rules;
      finality = c.call.finality;
      queue = c.queue;
      registry = c.call.registry;
      slashings = c.call.slashings;
      roots = c.call.roots;
      closing_registry = c.call.closing_registry;
      closing_slashings = c.call.closing_slashings;
      amounts = c.amounts;
    }

abbrev pub OneEntry : Type 0
OneEntry = (c : FullCall) → store_close (with_one_entry c) ≡ full_close c

-- Notice does not reach back: where a close goes by an entry, an addition that starts later changes nothing of it
abbrev pub with_store : Store → StoreCall → StoreCall
with_store s c =
    record {
      store = s;
      finality = c.finality;
      queue = c.queue;
      registry = c.registry;
      slashings = c.slashings;
      roots = c.roots;
      closing_registry = c.closing_registry;
      closing_slashings = c.closing_slashings;
      amounts = c.amounts;
    }

abbrev pub ClosesBefore : Type 0
ClosesBefore =
    (c : StoreCall) (e new : Entry) (t : Store) (rules : Rules) → last_of (entries c.store) ≡ value e
    → read_rules c.store (c.finality.slot / e.rules.settings.slots_per_epoch) ≡ value rules
    → add_entry c.store new ≡ value t → c.finality.slot / e.rules.settings.slots_per_epoch < new.start
    → store_close (with_store t c) ≡ store_close c
