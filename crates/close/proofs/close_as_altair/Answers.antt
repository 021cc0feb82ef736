use Rattle.close.proofs.close_as_altair.Goals as goal

pub returns : goal.returns
returns c = rw c.altair_rules-rules.ensures at c.close.ensures
