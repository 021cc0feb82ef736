use Rattle.totals.proofs.raising.Answered.{hands_back, hands_on}
use Rattle.totals.proofs.raising.answer_with.Goals as goal

pub returns-in-Ok : goal.returns-in-Ok
returns-in-Ok c = hands_on _ _ c.in-Ok.is

pub returns-in-Err : goal.returns-in-Err
returns-in-Err c = hands_back _ _ c.in-Err.is c.number.ensures c.none_raised.ensures
