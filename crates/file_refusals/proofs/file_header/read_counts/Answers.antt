use mathlib.Core.Path.{◌≡◌, ap, ◌∙◌}
use Prim.Native.Nat.{ℕ}
use native.Mathlib.Omega.{arith}
use Rattle.definitions_file.specs.File.{number_at}
use Rattle.file_refusals.proofs.file_header.read_counts.Goals as goal

pub returns : goal.returns
returns c =
    let bytes = c.args.bytes.now in
    let first = c.read_number-validators in
    let second = c.read_number-roots in
    let third : second.result.position ≡ 32 = omega arith in
    (first.ensures.0, second.ensures.0 ∙ ap (λ (k : ℕ). number_at k bytes) first.ensures.1, c.read_number-slashings.ensures.0 ∙ ap (λ (k : ℕ). number_at k bytes) third, c.read_number-version.ensures.0)
