use Rattle.laws.proofs.Encode.{ten}
use Rattle.refusals.proofs.All.{fails, passes}
use Rattle.laws.proofs.Loops.Checking.{settles-value, settles-refused}
use Rattle.arithmetic.proofs.Laws.{carried}
use Rattle.participation.proofs.inactivity.Scores.{not_eligible, updated, not_updated, put-score}
use mathlib.Core.Path.{sym, ap, ◌∙◌}
use mathlib.Core.Bool.{not}
use Rattle.participation.proofs.inactivity.entry_update_score.Goals as goal

pub returns-then-not-entry_is_eligible : goal.returns-then-not-entry_is_eligible
returns-then-not-entry_is_eligible c = settles-value _ (not_eligible _ _ _ _ _ (fails c.entry_is_eligible.ensures (ap not c.if-not-entry_is_eligible.true))) (ten _ c.requires)

pub returns-in_err-score : goal.returns-in_err-score
returns-in_err-score c =
    let eligible = passes c.entry_is_eligible.ensures (ap not c.if-not-entry_is_eligible.false) in
    let k = sym c.new_score.ensures ∙ c.in_err-score.was in
    rw (carried _ c.from_residual.ensures) (settles-refused _ c.requires (not_updated _ _ _ _ _ eligible c.entry_is_participating-participating.ensures k))

pub returns : goal.returns
returns c =
    let eligible = passes c.entry_is_eligible.ensures (ap not c.if-not-entry_is_eligible.false) in
    let k = sym c.new_score.ensures ∙ c.in_ok-score.was in
    settles-value _ (updated _ _ _ _ _ eligible c.entry_is_participating-participating.ensures k) (put-score c.args.entry.now _ c.requires)
