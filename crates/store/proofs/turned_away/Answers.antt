use Rattle.store.proofs.turned_away.Goals as goal

pub returns : goal.returns
returns c = cc
