use mathlib.Core.Path.{refl}
use native.Mathlib.Omega.{arith}
use Rattle.electra_amounts.proofs.Booking.{booking_more, booking_all}
use Rattle.electra_amounts.proofs.book.Goals as goal

pub loop-i-init : goal.loop-i-init
loop-i-init c =
    record {
      many = refl;
      tens = c.requires.0;
      twelves = c.requires.1;
      small = c.requires.2;
      below = omega arith;
      long = refl;
      held = λ j l. absurd (omega arith);
      other = λ p h. refl;
    }

pub loop-i-preserved : goal.loop-i-preserved
loop-i-preserved c = booking_more c.loop-i.invariant c.loop-i-test.true c.booked-x.ensures

pub booked-x-requires : goal.booked-x-requires
booked-x-requires c = tt

pub returns : goal.returns
returns c = booking_all c.loop-i.invariant c.loop-i-test.false
