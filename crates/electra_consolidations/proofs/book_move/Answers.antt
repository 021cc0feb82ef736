use Rattle.electra_consolidations.proofs.Moves.{booked-none, booked-both}
use Rattle.electra_consolidations.proofs.book_move.Goals as goal

pub returns-then-amounts-n : goal.returns-then-amounts-n
returns-then-amounts-n c = booked-none _ _ _ _ _ c.if-amounts-n.true

pub returns : goal.returns
returns c = booked-both _ _ _ _ _ c.if-amounts-n.false c.add_at.ensures c.add_at-2.ensures
