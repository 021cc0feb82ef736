use Rattle.std.proofs.Common.{◌-◌}
use Rattle.survey.proofs.Found.{Seeing}
use Rattle.survey.proofs.survey_registry.Given as goal

abbrev pub invariant-loop-i : goal.invariant-loop-i
invariant-loop-i l = Seeing l.most l.current_epoch l.previous_epoch l.n l.registry l.i l.kept l.found l.p

abbrev pub decreases-loop-i : goal.decreases-loop-i
decreases-loop-i l = l.n - l.i
