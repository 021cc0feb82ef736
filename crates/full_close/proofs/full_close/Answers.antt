use mathlib.Core.Path.{sym, ◌∙◌}
use native.Mathlib.Omega.{arith}
use Rattle.definitions_close.specs.FullClose.{FullCall}
use Rattle.selection.proofs.Picking.{blank-length, blank_part}
use Rattle.close.proofs.Lent.{lent, limit_record, record_refused}
use Rattle.full_close.specs.Called.{full_called}
use Rattle.full_close.proofs.Tests.{amounts-refused, close-refused}
use Rattle.full_close.proofs.Outcome.{full_tests-refused}
use Rattle.definitions.specs.declared.ExitQueue.{ExitQueue}
use Rattle.definitions.specs.declared.Finality.{Finality}
use Rattle.definitions.specs.declared.Rules.{Rules}
use Prim.Native.Nat.{ℕ}
use mathlib.Core.List.{List}
use Rattle.full_close.proofs.full_close.Goals as goal

abbrev call : Rules → Finality → ExitQueue → List ℕ → List ℕ → List ℕ → List ℕ → List ℕ → List ℕ → FullCall
call rules finality queue registry slashings roots closing_registry closing_slashings amounts = full_called rules finality queue registry slashings roots closing_registry closing_slashings amounts

pub returns-then-amounts-registry : goal.returns-then-amounts-registry
returns-then-amounts-registry c =
    let a = call c.args.rules c.args.finality c.args.queue c.args.registry.now c.args.slashings.now c.args.roots.now c.args.closing_registry.now c.args.closing_slashings.now c.args.amounts.now in
    full_tests-refused c.args.limit a (amounts-refused c.args.limit a c.if-amounts-registry.true) c.unclosed.ensures

pub returns-in-Err : goal.returns-in-Err
returns-in-Err c =
    let a = call c.args.rules c.args.finality c.args.queue c.args.registry.now c.args.slashings.now c.args.roots.now c.args.closing_registry.now c.args.closing_slashings.now c.args.amounts.now in
    let t = limit_record c.args.limit a.call c.limit_refusal.ensures c.record_tests-by_rules.ensures in
    full_tests-refused c.args.limit a (close-refused c.args.limit a c.if-amounts-registry.false (record_refused c.args.limit a.call t c.in-Err.is)) c.unclosed-in-Err.ensures

pub full_tested-requires : goal.full_tested-requires
full_tested-requires c =
    let p = lent _ _ (limit_record _ _ c.limit_refusal.ensures c.record_tests-by_rules.ensures) c.in_default.is in
    record { tested = rw c.settings_under-s.ensures p.opening; closing_registry_len = (p.closing_registry, p.closing_slashings, c.if-amounts-registry.false); kept_len = (blank-length 64 64 (omega arith), blank_part 64 64 (omega arith) (omega arith)) }

pub returns : goal.returns
returns c =
    let t = limit_record _ _ c.limit_refusal.ensures c.record_tests-by_rules.ensures in
    c.full_tested.ensures.under _ (sym c.settings_under-s.ensures) (sym t ∙ c.in_default.is)
