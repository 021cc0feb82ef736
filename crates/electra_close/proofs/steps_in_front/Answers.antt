use mathlib.Core.Path.{◌≡◌}
use Prim.Native.Nat.{◌-◌, ◌*◌}
use native.Mathlib.Omega.{arith}
use lib.ListN.{length}
use lib.Seq.{length-take-le}
use Rattle.electra_close.proofs.Steps.{in_front}
use Rattle.electra_close.proofs.steps_in_front.Goals as goal

pub eight_steps-requires : goal.eight_steps-requires
eight_steps-requires c =
    let l = c.requires in
    let a = 10 * length c.args.compounding.now in
    let b = 12 * length c.args.compounding.now in
    let z : a - 0 ≡ a = omega arith in
    let y : b - 0 ≡ b = omega arith in
    rw (z, y)
    (record {
      good = l.good;
      finality = l.finality;
      justification = l.justification;
      tens = l.tens;
      later = record { tens = length-take-le a c.args.closing_registry.now l.room; twelves = length-take-le b c.args.amounts.now l.rows; fives = l.fives; keys = l.keys; twos = l.twos; within = l.within; table = l.table };
    })

pub returns : goal.returns
returns c =
    let l = c.requires in
    let k = c.eight_steps.auto.closing in
    let a = c.args in
    in_front (length a.compounding.now) a.closing_registry.now a.amounts.now l.room l.rows (omega (arith, k)) (omega (arith, k)) c.eight_steps.ensures
