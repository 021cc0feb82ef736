use mathlib.Core.Path.{ap}
use Rattle.definitions.specs.Checked.{value}
use Rattle.arithmetic.proofs.Laws.{next, passes-on}
use Rattle.participation.proofs.inactivity.new_score.Goals as goal

pub returns-in_err-moved : goal.returns-in_err-moved
returns-in_err-moved c = passes-on _ c.moved_score.ensures c.in_err-moved.was c.from_residual.ensures

pub returns : goal.returns
returns c = next _ c.moved_score.ensures c.in_ok-moved.was (ap value c.recovered_score-recovered.ensures)
