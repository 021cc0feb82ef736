-- Settings by starting epoch. Document 02, R-10: "A store has entries of 23 numbers: starting epoch, fork (0 Altair, 1 Bellatrix), settings and
-- Bellatrix pair; lent with the count in use". What is asked of a store, the entry that an epoch goes by, and the store after an addition.
use Rattle.std.specs.Prelude.{Bool, true, cond, ◌&&◌, List, [], ◌∷◌, ◌++◌, ℕ, zero, suc, ◌+◌, ◌*◌, ◌/◌, ◌%◌, leb, ltb, eqb, length, get_or, take, drop}
use Rattle.definitions.specs.declared.Settings.{Settings}
use Rattle.definitions.specs.declared.Rules.{Rules}
use Rattle.definitions.specs.Lists.{all, filter, every}
use Rattle.definitions.specs.Checked.{Checked, value, refused, bind, code_of, settle}
use Rattle.definitions.specs.declared.Refusal.TheVariants.{LateStart, NoEntry}
use Rattle.definitions.specs.Refusals.{in_order, after_tests, settings_numbers, settings_from}
use Rattle.definitions.specs.Rules.{rules_shaped, good_rules}
use Rattle.definitions_close.specs.declared.RulesAnswer.{RulesAnswer}

-- An entry, and its 23 numbers

pub record Entry : Type 0 where
  pub start : ℕ
  pub rules : Rules

abbrev pub entry_of : List ℕ → Entry
entry_of e =
    record {
      start = get_or e 0 0;
      rules =
          record {
            settings = settings_from (drop 2 e);
            fork = get_or e 1 0;
            bellatrix = record { inactivity_penalty_quotient_bellatrix = get_or e 21 0; proportional_slashing_multiplier_bellatrix = get_or e 22 0 };
          };
    }

abbrev pub numbers_of : Entry → List ℕ
numbers_of e =
    let pair = e.rules.bellatrix in
    let behind = pair.inactivity_penalty_quotient_bellatrix ∷ pair.proportional_slashing_multiplier_bellatrix ∷ [] in
    e.start ∷ e.rules.fork ∷ settings_numbers e.rules.settings ++ behind

-- "lent with the count in use"
pub record Store : Type 0 where
  pub numbers : List ℕ
  pub count : ℕ

unfoldable pub entries_from : ℕ → List ℕ → List Entry
entries_from zero xs = []
entries_from (suc n) xs = entry_of xs ∷ entries_from n (drop 23 xs)

-- the entries in use; what stands behind them is not looked at
abbrev pub entries : Store → List Entry
entries s = entries_from s.count s.numbers

unfoldable pub last_of : List Entry → Checked Entry
last_of [] = refused NoEntry
last_of (e ∷ []) = value e
last_of (e ∷ f ∷ es) = last_of (f ∷ es)

-- Test 1

-- "slots_per_epoch, S and L may not change"
unfoldable pub keeps : Settings → Settings → Bool
keeps s t =
    every (
    eqb s.slots_per_epoch t.slots_per_epoch
    ∷ eqb s.slots_per_historical_root t.slots_per_historical_root
    ∷ eqb s.epochs_per_slashings_vector t.epochs_per_slashings_vector
    ∷ []
    )

-- "in a lent store starts must strictly rise": f stands behind e
unfoldable pub follows : Entry → Entry → Bool
follows e f = ltb e.start f.start && keeps e.rules.settings f.rules.settings

-- each entry and the next one
unfoldable pub in_sequence : List Entry → Bool
in_sequence [] = true
in_sequence (e ∷ []) = true
in_sequence (e ∷ f ∷ es) = follows e f && in_sequence (f ∷ es)

-- how many entries there is room for
abbrev pub room : Store → ℕ
room s = length s.numbers / 23

-- "and the count stay within the room", "forks are 0 or 1"; S and L of each entry are in range: `rules_shaped`
unfoldable pub store_shaped : Store → Bool
store_shaped s =
    every (
    eqb (length s.numbers % 23) 0
    ∷ leb s.count (room s)
    ∷ all (λ e. rules_shaped e.rules) (entries s)
    ∷ in_sequence (entries s)
    ∷ []
    )

-- Test 2, "which is asked of every entry (of its pair under fork 1 only)": `good_rules`
unfoldable pub good_entries : List Entry → Bool
good_entries es = all (λ e. good_rules e.rules) es

unfoldable pub store_tests : Store → Checked (Unit {0})
store_tests s = in_order (store_shaped s ∷ []) (good_entries (entries s) ∷ []) []

-- Reading: "the last entry whose start is not above its epoch"; "13, a read or close before the first start, or with an empty store"

unfoldable pub entry_for : ℕ → List Entry → Checked Entry
entry_for epoch es = last_of (filter (λ e. leb e.start epoch) es)

unfoldable pub rules_at : ℕ → List Entry → Checked Rules
rules_at epoch es = bind (entry_for epoch es) (λ e. value e.rules)

-- "Both are tested after 2"
unfoldable pub read_rules : Store → ℕ → Checked Rules
read_rules s epoch = after_tests (store_tests s) (rules_at epoch (entries s))

abbrev pub no_rules : Rules
no_rules = (entry_of []).rules

-- zeros on refusal
abbrev pub rules_answer_for : Checked Rules → RulesAnswer
rules_answer_for m = record { refusal = code_of m; rules = settle m no_rules }

-- Adding

-- a test of the last entry in use; an empty store has none to ask
unfoldable pub of_last : (Entry → Bool) → Checked Entry → Bool
of_last test (value e) = test e
of_last test (refused r) = true

-- "slots_per_epoch, S and L may not change, a full store takes no entry, forks are 0 or 1"
unfoldable pub addition_shaped : Store → Entry → Bool
addition_shaped s new =
    every (
    store_shaped s
    ∷ ltb s.count (room s)
    ∷ rules_shaped new.rules
    ∷ of_last (λ e. keeps e.rules.settings new.rules.settings) (last_of (entries s))
    ∷ []
    )

-- "12, a new start not above the last one"
unfoldable pub start_test : Store → Entry → Checked (Unit {0})
start_test s new = cond (of_last (λ e. ltb e.start new.start) (last_of (entries s))) (value tt) (refused LateStart)

unfoldable pub addition_tests : Store → Entry → Checked (Unit {0})
addition_tests s new =
    after_tests (in_order (addition_shaped s new ∷ []) (good_entries (entries s) ∷ good_rules new.rules ∷ []) []) (start_test s new)

-- the new entry stands behind those in use, and all else stays
unfoldable pub with_entry : Store → Entry → Store
with_entry s new =
    let at = 23 * s.count in
    record { numbers = take at s.numbers ++ (numbers_of new ++ drop (at + 23) s.numbers); count = s.count + 1 }

unfoldable pub add_entry : Store → Entry → Checked Store
add_entry s new = after_tests (addition_tests s new) (value (with_entry s new))

-- What an addition answers, and the store afterwards: "write nothing" on refusal
pub record AddOutcome : Type 0 where
  pub refusal : ℕ
  pub store : Store

unfoldable pub added : Store → Entry → AddOutcome
added s new = record { refusal = code_of (add_entry s new); store = settle (add_entry s new) s }
