use mathlib.Core.Path.{sym, ◌∙◌}
use Rattle.justification.proofs.Totals.{justified-value, justified-refused}
use Rattle.justification.proofs.justification_core.Goals as goal

pub returns-in-Ok : goal.returns-in-Ok
returns-in-Ok c =
    record { of = λ vs h. justified-value _ c.args.old _ (sym (c.justify.ensures.of vs h) ∙ c.in-Ok.is) }

pub returns-in-Err : goal.returns-in-Err
returns-in-Err c =
    record { of = λ vs h. justified-refused _ c.args.old _ (sym (c.justify.ensures.of vs h) ∙ c.in-Err.is) c.number.ensures c.none_raised.ensures }
