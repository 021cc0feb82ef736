use Prim.Native.Nat.{◌+◌}
use native.Mathlib.Omega.{arith}
use lib.ListN.{get_or, drop}
use Rattle.definitions_file.specs.File.{little_endian, numbers_to_bytes}
use Rattle.laws_file.proofs.Numbers.{length_little}
use Rattle.fields.proofs.Bytes.{to_bytes_more, to_bytes_none}
use Rattle.fields.proofs.Stores.{storing-none, storing-part, storing-all}
use Rattle.fields.proofs.put_numbers.Goals as goal

pub loop-n-init : goal.loop-n-init
loop-n-init c = (omega arith, omega arith, storing-none _ _ _ _ (omega arith))

pub loop-n-preserved : goal.loop-n-preserved
loop-n-preserved c =
    let l = c.loop-n in
    let xs = c.args.numbers.now in
    let i = l.n-index in (
      omega arith,
      omega arith,
      rw c.put_number.ensures
          (storing-part l.invariant.2 (little_endian 8 (get_or xs i 0)) (numbers_to_bytes (drop (i + 1) xs)) _ (to_bytes_more xs i c.loop-n-test.true) (omega (arith, length_little 8 (get_or xs i 0)))),
    )

pub returns : goal.returns
returns c = storing-all c.loop-n.invariant.2 (to_bytes_none _ _ c.loop-n-test.false)
