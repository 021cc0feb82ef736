use Rattle.finality.proofs.is_linked.Goals as goal

pub returns-then-shown : goal.returns-then-shown
returns-then-shown c = rw c.if-shown.true
