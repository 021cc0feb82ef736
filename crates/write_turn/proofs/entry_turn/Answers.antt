use mathlib.Core.Path.{◌∙◌}
use Rattle.arithmetic.proofs.Laws.{carried}
use Rattle.write_turn.proofs.Entry.{churn-steps}
use Rattle.write_turn.proofs.Sweeps.Runs.{settles-runs}
use Rattle.write_turn.proofs.Sweeps.Steps.{last_then, last-over, last-stop}
use Rattle.write_turn.proofs.entry_turn.Goals as goal

pub returns-in_err-after : goal.returns-in_err-after
returns-in_err-after c = rw (carried _ c.from_residual.ensures) (last-stop (churn-steps _ c.update_entry.ensures) _ c.in_err-after.was)

pub entry_slash-requires : goal.entry_slash-requires
entry_slash-requires c = (c.update_entry.auto.entry ∙ c.requires.len.0, c.requires.planned.shared.increment)

pub returns-in_err-entry_slash : goal.returns-in_err-entry_slash
returns-in_err-entry_slash c = rw (carried _ c.from_residual-in_err-entry_slash.ensures) (last-over (churn-steps _ c.update_entry.ensures) _ c.in_ok-after.was (settles-runs c.entry_slash.ensures) c.in_err-entry_slash.was)

pub returns : goal.returns
returns c = last_then (churn-steps _ c.update_entry.ensures) _ c.in_ok-after.was (settles-runs c.entry_slash.ensures) c.in_ok-entry_slash.was
