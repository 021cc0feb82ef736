use Rattle.electra_deposits.proofs.Alone.{stop-late, stop-many, stop-none, stop-bridge}
use Rattle.electra_deposits.proofs.stops_before.Goals as goal

pub returns-then-q-slot : goal.returns-then-q-slot
returns-then-q-slot c =
    let a = c.args in
    stop-late a.q a.i a.slot c.if-q-slot.true

pub returns-then-q-i : goal.returns-then-q-i
returns-then-q-i c =
    let a = c.args in
    stop-many a.q a.i a.slot c.if-q-slot.false c.if-q-i.true

pub returns-then-slot-eq0 : goal.returns-then-slot-eq0
returns-then-slot-eq0 c =
    let a = c.args in
    stop-none a.q a.i a.slot c.if-q-slot.false c.if-q-i.false c.if-slot-eq0.true

pub returns : goal.returns
returns c =
    let a = c.args in
    stop-bridge a.q a.i a.slot c.if-q-slot.false c.if-q-i.false c.if-slot-eq0.false
