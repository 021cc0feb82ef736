-- what each call needs, and what holds on each way out: no line names a step, so that their order is the contract's alone
use mathlib.Core.Path.{refl}
use Rattle.definitions.specs.Checked.{bind}
use Rattle.definitions.specs.Document.Altair.EpochProcessing.{rotate_participation}
use Rattle.write_turn.proofs.Sweeps.Runs.{in_turn_lem, plain_runs, settles-runs, runs_then}
use borrow.Author.Rules.{rules}
use Rattle.write_turn.proofs.entry_finish.Goals as goal

pub returns-in_err-slashed : goal.returns-in_err-slashed
unfolding bind
returns-in_err-slashed c = search (rules, in_turn_lem)

pub returns-in_err-updated : goal.returns-in_err-updated
unfolding bind
returns-in_err-updated c = runs_then _ (settles-runs c.in_ok-slashed.ensures) refl (search (rules, in_turn_lem))

pub returns : goal.returns
unfolding bind
returns c = search (rules, in_turn_lem, plain_runs rotate_participation)
