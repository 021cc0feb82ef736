use mathlib.Core.Path.{◌≡◌, refl, ◌∙◌}
use Prim.Native.Nat.{◌+◌, ◌-◌}
use native.Mathlib.Omega.{arith}
use lib.ListN.{length, drop}
use Rattle.laws_file.proofs.Numbers.{length_from_bytes}
use Rattle.fields.proofs.Bytes.{from_bytes_more, from_bytes_none}
use Rattle.fields.proofs.Stores.{storing-none, storing-one, storing-all, sets-whole}
use Rattle.fields.proofs.read_numbers.Goals as goal

pub loop-i-init : goal.loop-i-init
loop-i-init c =
    let a = c.args in
    let m : length a.numbers.now - 0 ≡ length a.numbers.now = omega arith in
    let k : a.at + 0 ≡ a.at = omega arith in
    (omega arith, omega arith, rw (m, k) (storing-none _ _ _ _ refl))

pub loop-i-preserved : goal.loop-i-preserved
loop-i-preserved c =
    let a = c.args in
    let l = c.loop-i in (
      omega arith,
      omega arith,
      rw (c.read_number-next.ensures.0, l.invariant.1)
          (storing-one l.invariant.2 _ _ _ (from_bytes_more (length a.numbers.now) a.bytes.now a.at l.i (omega arith)) (omega arith)),
    )

pub returns : goal.returns
returns c =
    let a = c.args in
    let n = length a.numbers.now in
    storing-all c.loop-i.invariant.2 (from_bytes_none n _ c.loop-i.i c.loop-i-test.false)
    ∙ sets-whole a.numbers.now _ (length_from_bytes n (drop a.at a.bytes.now))
