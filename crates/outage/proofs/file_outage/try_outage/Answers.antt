use Rattle.outage.proofs.file_outage.Front.{too_short, long-enough}
use Rattle.outage.proofs.file_outage.try_outage.Goals as goal

pub returns-then-text-lt-LONGEST_OUTAGE : goal.returns-then-text-lt-LONGEST_OUTAGE
returns-then-text-lt-LONGEST_OUTAGE c =
    let a = c.args in
    let p = too_short a.input.now a.text.now c.if-text-lt-LONGEST_OUTAGE.true in
    record { value = p.count; text_after = p.text; upper_bound = (p.inside, p.front) }

pub put_input-requires : goal.put_input-requires
put_input-requires c = c.if-text-lt-LONGEST_OUTAGE.false

pub returns : goal.returns
returns c =
    let p = long-enough c.args.input.now c.if-text-lt-LONGEST_OUTAGE.false c.put_input.ensures in
    record { value = p.count; text_after = p.text; upper_bound = (p.inside, p.front) }
