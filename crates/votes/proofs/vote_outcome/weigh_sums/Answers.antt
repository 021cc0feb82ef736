use mathlib.Core.Path.{ap}
use Rattle.definitions.specs.Checked.{value}
use Rattle.arithmetic.proofs.Laws.{next, passes-on}
use Rattle.votes.specs.Weighed.{weighed_numbers_by}
use Rattle.votes.proofs.vote_outcome.weigh_sums.Goals as goal

pub returns-in_err-previous_most : goal.returns-in_err-previous_most
unfolding weighed_numbers_by
returns-in_err-previous_most c = passes-on _ c.passes.ensures c.in_err-previous_most.was c.from_residual.ensures

pub returns-in_err-current_most : goal.returns-in_err-current_most
unfolding weighed_numbers_by
returns-in_err-current_most c = next _ c.passes.ensures c.in_ok-previous_most.was (passes-on _ c.passes-2.ensures c.in_err-current_most.was c.from_residual-in_err-current_most.ensures)

pub returns-in_err-previous_fewest : goal.returns-in_err-previous_fewest
unfolding weighed_numbers_by
returns-in_err-previous_fewest c =
    next _ c.passes.ensures c.in_ok-previous_most.was
    (next _ c.passes-2.ensures c.in_ok-current_most.was (passes-on _ c.passes-3.ensures c.in_err-previous_fewest.was c.from_residual-in_err-previous_fewest.ensures))

pub returns-in_err-current_fewest : goal.returns-in_err-current_fewest
unfolding weighed_numbers_by
returns-in_err-current_fewest c =
    next _ c.passes.ensures c.in_ok-previous_most.was
    (next _ c.passes-2.ensures c.in_ok-current_most.was
    (next _ c.passes-3.ensures c.in_ok-previous_fewest.was (passes-on _ c.passes-4.ensures c.in_err-current_fewest.was c.from_residual-in_err-current_fewest.ensures)))

pub returns : goal.returns
unfolding weighed_numbers_by
returns c =
    next _ c.passes.ensures c.in_ok-previous_most.was
    (next _ c.passes-2.ensures c.in_ok-current_most.was
    (next _ c.passes-3.ensures c.in_ok-previous_fewest.was (next _ c.passes-4.ensures c.in_ok-current_fewest.was (ap value c.told.ensures))))
