-- Demand 2 of closes with stores: by the store's tests nothing is written, and any other is a full close by an entry's rules, of which FullClose/
-- has the table of refusals and demand 2.
use Rattle.std.specs.Prelude.{[], ◌∷◌, ◌≡◌}
use Rattle.definitions.specs.declared.Rules.{Rules}
use Rattle.definitions.specs.Checked.{value}
use Rattle.definitions_close.specs.FullClose.{FullOutcome, full_close}
use Rattle.definitions_close.specs.StoreClose.{StoreCall, call_by, rules_for, turned_away}
use Rattle.agreement.specs.Restored.{OneOf}
use Rattle.theorems.specs.FullClose.ByNumber.{FullByNumber}
use Rattle.theorems.specs.FullClose.Demand2.{FullCloseCall}

-- of every call c, whose outcome o is `store_close c`
pub data StoreCloseCall (c : StoreCall) (o : FullOutcome) : Type 0 where
  turned : OneOf o.refusal (1 ∷ 2 ∷ 13 ∷ []) → o ≡ turned_away c o.refusal → StoreCloseCall c o
  by_entry : (rules : Rules) → rules_for c ≡ value rules → o ≡ full_close (call_by c rules) → OneOf o.refusal (0 ∷ 3 ∷ 8 ∷ 4 ∷ 5 ∷ [])
      → FullByNumber (call_by c rules)
      → FullCloseCall (call_by c rules) o
      → StoreCloseCall c o
