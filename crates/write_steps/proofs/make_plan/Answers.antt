use native.Mathlib.Omega.{arith}
use Rattle.write_steps.proofs.make_plan.Goals as goal

pub returns : goal.returns
returns c =
    let h = c.shared_numbers-shared.ensures in
    record {
      planned = record { shared = h.by; bias = omega arith; quotient = omega arith; product = c.mul64-product.ensures; total = omega (arith, h.by.increment, h.by.least) };
      is = rw h.is;
    }
