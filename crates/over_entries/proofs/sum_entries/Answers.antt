use mathlib.Core.Path.{sym, ap, ◌∙◌}
use native.Mathlib.Omega.{arith}
use lib.ListN.{length}
use Rattle.definitions.specs.Record.{decode_one}
use Rattle.over_entries.proofs.Chunks.{chunk}
use Rattle.laws.proofs.Loops.Reading.{reading_ten}
use Rattle.arithmetic.proofs.Laws.{carried}
use Rattle.definitions.specs.Checked.{refused}
use Rattle.laws.proofs.Checked.{add64-value, add64-below}
use Rattle.over_entries.proofs.Over.{over}
use Rattle.laws.proofs.Loops.Summed.{summed-none, summed-more, summed-over, summed-all}
use Rattle.over_entries.proofs.sum_entries.Goals as goal

pub loop-entry-init : goal.loop-entry-init
loop-entry-init g c w k = summed-none w c.requires.registry_len

pub returns-in_err-sum : goal.returns-in_err-sum
returns-in_err-sum g c w k =
    let i = c.loop-entry.invariant w k in
    let m = chunk c.as_chunks.ensures.front c.as_chunks.ensures.front_len c.loop-entry-test.true in
    let o = over _ _ (sym c.add64.ensures ∙ c.in_err-sum.was) in
    carried _ c.from_residual.ensures ∙ ap refused o.1 ∙ sym (summed-over i m.below (k _ _ (ap length m.is ∙ reading_ten i.at m.below) c.weight.ensures ∙ ap w (ap decode_one m.is)) o.0)

pub loop-entry-preserved : goal.loop-entry-preserved
loop-entry-preserved g c w k =
    let i = c.loop-entry.invariant w k in
    let m = chunk c.as_chunks.ensures.front c.as_chunks.ensures.front_len c.loop-entry-test.true in
    let told = sym c.add64.ensures ∙ c.in_ok-sum.was in
    summed-more i m.below (k _ _ (ap length m.is ∙ reading_ten i.at m.below) c.weight.ensures ∙ ap w (ap decode_one m.is)) (sym (add64-value _ _ told)) (omega (arith, add64-value _ _ told, add64-below _ _ told))

pub returns : goal.returns
returns g c w k = sym (summed-all (c.loop-entry.invariant w k) (omega (arith, c.as_chunks.ensures.front_len, c.loop-entry-test.false)))
