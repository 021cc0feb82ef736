use mathlib.Core.Path.{◌≡◌, ◌∙◌}
use Prim.Native.Nat.{◌+◌, ◌*◌, ◌^◌, ◌≤◌, ◌<◌}
use native.Mathlib.Omega.{arith}
use borrow.Author.Count.{below_more}
use Rattle.definitions_file.specs.File.{number_at}
use Rattle.file_refusals.specs.Tests.{limit_at}
use Rattle.file_refusals.proofs.Registry.{passing_none, passing_more, passing_all, passing_stop}
use Rattle.file_refusals.proofs.first_bad.Goals as goal

pub validators-init : goal.validators-init
validators-init c = (omega arith, passing_none _ _ _)

pub loop-k-init : goal.loop-k-init
loop-k-init c = (omega arith, omega arith, λ j l. absurd (omega arith))

pub loop-k-preserved : goal.loop-k-preserved
loop-k-preserved c =
    let a = c.args in
    let i = c.validators.i in
    let l = c.loop-k in
    let next = c.read_number-next.ensures in
    let h : number_at (a.from + 80 * i + 8 * l.k) a.bytes.now ≤ limit_at l.k = rw (c.limit.ensures, next.0, l.invariant.0) at c.if-limit-next.false in
    (omega arith, omega arith, below_more _ l.k l.invariant.2 h)

pub validators-preserved : goal.validators-preserved
validators-preserved c =
    let l = c.loop-k in
    let v = c.validators in
    let k : l.k ≡ 10 = omega arith in
    (omega arith, passing_more v.invariant.1 c.validators-test.true (rw k at l.invariant.2))

pub returns-after-validators : goal.returns-after-validators
returns-after-validators c = let v = c.validators in v.invariant.0 ∙ passing_all v.invariant.1 c.validators-test.false

pub returns-then-limit-next : goal.returns-then-limit-next
returns-then-limit-next c =
    let a = c.args in
    let v = c.validators in
    let l = c.loop-k in
    let next = c.read_number-next in
    let over : limit_at l.k < number_at (a.from + 80 * v.i + 8 * l.k) a.bytes.now = rw (c.limit.ensures, next.ensures.0, l.invariant.0) at c.if-limit-next.true in
    let r : next.result.number < 2 ^ 64 = omega arith in
    let fits : number_at (a.from + 80 * v.i + 8 * l.k) a.bytes.now < 2 ^ 64 = rw (next.ensures.0, l.invariant.0) at r in
    l.invariant.0 ∙ passing_stop v.invariant.1 c.validators-test.true l.k l.invariant.2 over fits
