use mathlib.Core.Path.{◌≡◌, refl, sym}
use Prim.Native.Nat.{ℕ, zero, suc, ◌≤◌}
use native.Mathlib.Omega.{arith}
use Rattle.refusals.proofs.All.{fails, passes}
use Rattle.laws_file.proofs.Passed.{good-header}
use mathlib.Core.Path.{ap}
use mathlib.Core.Bool.{not}
use Rattle.shelf_file.proofs.on_shelf.Goals as goal

first-or-second : (k : ℕ) → 1 ≤ k → k ≤ 2 → {A : Type 0} → (k ≡ 1 → A) → (k ≡ 2 → A) → A
first-or-second zero l m f g = absurd (omega arith)
first-or-second (suc zero) l m f g = f refl
first-or-second (suc (suc zero)) l m f g = g refl
first-or-second (suc (suc (suc k))) l m f g = absurd (omega arith)

pub returns-then-not-good_header : goal.returns-then-not-good_header
returns-then-not-good_header c = rw (fails c.good_header.ensures (ap not c.if-not-good_header.true))

-- a header is of version 1 or 2, and what is answered is computed of each
pub returns : goal.returns
returns c =
    let good = passes c.good_header.ensures (ap not c.if-not-good_header.false) in
    let header = good-header _ good in
    let number = c.read_number-version.ensures.0 in
    first-or-second c.read_number-version.result.number (omega (arith, header.some-version)) (omega (arith, header.known-version))
    (λ e. rw (good, sym number, e))
    (λ e. rw (good, sym number, e))

pub read_number-version-requires : goal.read_number-version-requires
read_number-version-requires c = omega (arith, (good-header _ (passes c.good_header.ensures (ap not c.if-not-good_header.false))).enough)
