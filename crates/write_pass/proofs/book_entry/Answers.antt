use native.Mathlib.Omega.{arith}
use Rattle.write_pass.proofs.Nine.{nine-part, put-part}
use Rattle.write_pass.proofs.book_entry.Goals as goal

pub returns-then-amounts-b : goal.returns-then-amounts-b
returns-then-amounts-b c = record { long = λ l. absurd (omega (arith, l, c.if-amounts-b.true)); is = λ l. absurd (omega (arith, l, c.if-amounts-b.true)) }

pub fill_entry-requires : goal.fill_entry-requires
fill_entry-requires c =
    let a = c.requires in
    record { planned = a.planned; pairs_for = a.pairs_for; from_len = (a.from_len.0, a.from_len.1, nine-part c.args.amounts.now c.args.i (omega (arith, c.if-amounts-b.false))); between = a.between }

pub returns : goal.returns
returns c = put-part c.args.amounts.now c.args.i c.fill_entry.auto.nine c.fill_entry.ensures
