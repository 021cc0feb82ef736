use mathlib.Core.Path.{sym, ◌∙◌}
use native.Mathlib.Omega.{arith}
use Rattle.definitions.specs.declared.ActivationLimit.TheVariants.{Churn}
use Rattle.selection.proofs.Picking.{blank-length, blank_part}
use Rattle.close.proofs.Lent.{lent, record_refused}
use Rattle.close.proofs.Outcome.{tests-refused}
use Rattle.close.proofs.close.Goals as goal

pub returns-in-Err : goal.returns-in-Err
returns-in-Err c = tests-refused _ (record_refused Churn _ c.record_tests.ensures c.in-Err.is) c.number.ensures c.none_raised.ensures

pub close_tested-requires : goal.close_tested-requires
close_tested-requires c =
    let p = lent Churn _ c.record_tests.ensures c.in_default.is in
    record { tested = rw c.settings_under-s.ensures p.opening; closing_registry_len = (p.closing_registry, p.closing_slashings); kept_len = (blank-length 64 64 (omega arith), blank_part 64 64 (omega arith) (omega arith)) }

pub returns : goal.returns
returns c = c.close_tested.ensures.under _ (sym c.settings_under-s.ensures) (sym c.record_tests.ensures ∙ c.in_default.is)
