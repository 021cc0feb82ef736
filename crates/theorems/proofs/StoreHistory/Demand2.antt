-- Demand 2 of every close with a store.
use mathlib.Core.Path.{sym, subst}
use Rattle.definitions_close.specs.StoreClose.{StoreCall, call_by, store_close}
use Rattle.theorems.specs.FullClose.Demand2.{FullCloseCall}
use Rattle.theorems.proofs.FullClose.ByNumber.{full-by_number}
use Rattle.theorems.proofs.FullClose.Demand2.{full_close-call}
use Rattle.theorems.specs.Store.Stages as stage
use Rattle.theorems.proofs.Store.Stages.{stages}
use Rattle.theorems.specs.StoreHistory.Demand2.{StoreCloseCall, turned, by_entry}

by_stage : (c : StoreCall) → stage.Staged c → StoreCloseCall c (store_close c)
by_stage c (stage.turned n e) = turned n e
by_stage c (stage.by_entry rules given e n) =
    by_entry rules given e n (full-by_number (call_by c rules)) (subst (FullCloseCall (call_by c rules)) (sym e) (full_close-call (call_by c rules)))

pub store_close-call : (c : StoreCall) → StoreCloseCall c (store_close c)
store_close-call c = by_stage c (stages c)
