-- The tests of a close with a store in their order: 1 and 2, which are asked of every entry, 13, then 3 and 8, then 4 and 5.
use Rattle.std.specs.Prelude.{[], ◌∷◌, ◌≡◌}
use Rattle.definitions.specs.declared.Rules.{Rules}
use Rattle.definitions.specs.Checked.{value}
use Rattle.definitions_close.specs.FullClose.{full_close}
use Rattle.definitions_close.specs.StoreClose.{StoreCall, call_by, rules_for, turned_away, store_close}
use Rattle.agreement.specs.Restored.{OneOf}

pub data Staged (c : StoreCall) : Type 0 where
  -- turned away by the store: all that was lent stays
  turned : OneOf (store_close c).refusal (1 ∷ 2 ∷ 13 ∷ []) → store_close c ≡ turned_away c (store_close c).refusal → Staged c
  -- or the close by the rules of an entry, for which 1 and 2 have been tested
  by_entry : (rules : Rules) → rules_for c ≡ value rules → store_close c ≡ full_close (call_by c rules)
      → OneOf (store_close c).refusal (0 ∷ 3 ∷ 8 ∷ 4 ∷ 5 ∷ [])
      → Staged c

abbrev pub Stages : Type 0
Stages = (c : StoreCall) → Staged c
