use Rattle.orders.proofs.entry_may_exit.Goals as goal

pub returns : goal.returns
returns c = cc
