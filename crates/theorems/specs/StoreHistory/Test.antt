-- 02, R-4: "which of the four tests, 1 to 4 in their order, last set the checkpoint, or 0, also on refusal": the number tells the checkpoint, of the
-- close, by rules and with a store, and of a close by steps. Of justification: Completeness/Told.antt.
use Rattle.std.specs.Prelude.{◌≡◌, List, ◌⊎◌}
use Rattle.definitions_close.specs.FullClose.{FullCall, full_close}
use Rattle.definitions_close.specs.StoreClose.{StoreCall, store_close}
use Rattle.theorems.specs.Amounts.Laws.{set_by}
use Rattle.theorems.specs.CloseBySteps.Desk.{Desk, Act}
use Rattle.theorems.specs.StoreHistory.Steps.{acts, NotBegun}

abbrev pub CloseTells : Type 0
CloseTells = (c : FullCall) → let o = full_close c in o.finality.finalized_checkpoint ≡ set_by o.test c.call.finality

abbrev pub StoreCloseTells : Type 0
StoreCloseTells = (c : StoreCall) → let o = store_close c in o.finality.finalized_checkpoint ≡ set_by o.test c.finality

-- whatever calls are made: once all steps are done, and when it has ended
abbrev pub StepsTell : Type 0
StepsTell =
    (c : StoreCall) (d : Desk) → NotBegun c d → (list : List Act) → let running = (acts c d list).running in
    (running.done ≡ 8) ⊎ (running.done ≡ 9)
    → running.answer.finality.finalized_checkpoint ≡ set_by running.answer.test c.finality
