use native.Mathlib.Omega.{arith}
use Rattle.outage.proofs.file_outage.Ends.{ends-early, ends_there}
use Rattle.outage.proofs.file_outage.file_end.Goals as goal

pub returns-then-input-next : goal.returns-then-input-next
returns-then-input-next c = record { upper_bound = omega arith; input_value = ends-early c.args.input.now c.read_number-next.ensures.0 c.if-input-next.true }

pub returns : goal.returns
returns c = record { upper_bound = c.if-input-next.false; input_value = ends_there c.args.input.now c.read_number-next.ensures.0 }
