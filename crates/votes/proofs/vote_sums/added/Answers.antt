use mathlib.Core.Path.{refl}
use Rattle.arithmetic.proofs.Laws.{next, passes-on}
use Rattle.votes.specs.Sums.{added_to}
use Rattle.votes.proofs.vote_sums.added.Goals as goal

pub returns-in_err-active : goal.returns-in_err-active
unfolding added_to
returns-in_err-active c =
    passes-on _ c.add64.ensures c.in_err-active.was c.from_residual.ensures

pub returns-in_err-previous_fewest : goal.returns-in_err-previous_fewest
unfolding added_to
returns-in_err-previous_fewest c =
    next _ c.add64.ensures c.in_ok-active.was
    (passes-on _ c.add64-2.ensures c.in_err-previous_fewest.was c.from_residual-in_err-previous_fewest.ensures)

pub returns-in_err-previous_most : goal.returns-in_err-previous_most
unfolding added_to
returns-in_err-previous_most c =
    next _ c.add64.ensures c.in_ok-active.was
    (next _ c.add64-2.ensures c.in_ok-previous_fewest.was
    (passes-on _ c.add64-3.ensures c.in_err-previous_most.was c.from_residual-in_err-previous_most.ensures))

pub returns-in_err-current_fewest : goal.returns-in_err-current_fewest
unfolding added_to
returns-in_err-current_fewest c =
    next _ c.add64.ensures c.in_ok-active.was
    (next _ c.add64-2.ensures c.in_ok-previous_fewest.was
    (next _ c.add64-3.ensures c.in_ok-previous_most.was
    (passes-on _ c.add64-4.ensures c.in_err-current_fewest.was c.from_residual-in_err-current_fewest.ensures)))

pub returns-in_err-current_most : goal.returns-in_err-current_most
unfolding added_to
returns-in_err-current_most c =
    next _ c.add64.ensures c.in_ok-active.was
    (next _ c.add64-2.ensures c.in_ok-previous_fewest.was
    (next _ c.add64-3.ensures c.in_ok-previous_most.was
    (next _ c.add64-4.ensures c.in_ok-current_fewest.was
    (passes-on _ c.add64-5.ensures c.in_err-current_most.was c.from_residual-in_err-current_most.ensures))))

pub returns : goal.returns
unfolding added_to
returns c =
    next _ c.add64.ensures c.in_ok-active.was
    (next _ c.add64-2.ensures c.in_ok-previous_fewest.was
    (next _ c.add64-3.ensures c.in_ok-previous_most.was
    (next _ c.add64-4.ensures c.in_ok-current_fewest.was
    (next _ c.add64-5.ensures c.in_ok-current_most.was
    refl))))
