use mathlib.Core.Path.{◌∙◌}
use Rattle.write_pass.proofs.Booked.{genesis-less, genesis-nine, paid-fits, paid-left, paid-nine}
use native.Mathlib.Omega.{arith}
use Rattle.write_pass.proofs.fill_entry.Goals as goal

pub overflow_sub-from : goal.overflow_sub-from
overflow_sub-from c = genesis-less c.requires.between c.if-h-eq0.true

pub returns-then-h-eq0 : goal.returns-then-h-eq0
returns-then-h-eq0 c = c.put_nine.ensures ∙ genesis-nine c.requires.between c.if-h-eq0.true

pub bounds-from-6-2 : goal.bounds-from-6-2
bounds-from-6-2 c = omega (arith, c.requires.from_len.0)

pub bounds-to-6-2 : goal.bounds-to-6-2
bounds-to-6-2 c = omega (arith, c.requires.from_len.1)

pub put_amounts-requires : goal.put_amounts-requires
put_amounts-requires c =
    let a = c.requires in
    let n = c.if-h-eq0.false in
    record { nine_len = a.from_len.2; fits = (paid-fits a.between n a.pairs_for, paid-left a.between n a.pairs_for) }

pub returns : goal.returns
returns c = c.put_amounts.ensures ∙ paid-nine c.requires.between c.if-h-eq0.false c.requires.pairs_for
