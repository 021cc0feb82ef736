-- A test of an entry by its number; where the entry of an epoch stands; the answers of reading and adding as the definition's records.
use Rattle.std.specs.Prelude.{Bool, cond, List, [], ◌≡◌, ℕ, ◌≤◌, ◌<◌, eqb, length, get_or}
use Rattle.definitions.specs.declared.Rules.{Rules}
use Rattle.definitions.specs.Checked.{value, refused}
use Rattle.definitions.specs.declared.Refusal.TheVariants.{NoEntry}
use Rattle.definitions.specs.Rules.{rules_shaped, good_rules}
use Rattle.definitions_close.specs.declared.RulesAnswer.{RulesAnswer}
use Rattle.definitions_close.specs.Store.{Entry, entry_of, entry_for, no_rules}

-- test 1, and else test 2
abbrev pub rules_pass : ℕ → Rules → Bool
rules_pass test r = cond (eqb test 1) (rules_shaped r) (good_rules r)

-- the place r is that of the epoch's entry, or past the end where there is none
pub record Finds (epoch : ℕ) (es : List Entry) (r : ℕ) : Type 0 where
  pub found : r < length es → entry_for epoch es ≡ value (get_or es r (entry_of []))
  pub none : length es ≤ r → entry_for epoch es ≡ refused NoEntry

abbrev pub turned_away : ℕ → RulesAnswer
turned_away number = record { refusal = number; rules = no_rules }
