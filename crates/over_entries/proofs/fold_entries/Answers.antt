use mathlib.Core.Path.{sym, ap, ◌∙◌}
use native.Mathlib.Omega.{arith}
use lib.ListN.{length}
use Rattle.definitions.specs.Record.{decode_one}
use Rattle.over_entries.proofs.Chunks.{chunk}
use Rattle.laws.proofs.Loops.Reading.{reading_ten}
use Rattle.laws.proofs.Loops.Folded.{folded-none, folded_more, folded-all}
use Rattle.over_entries.proofs.fold_entries.Goals as goal

pub loop-entry-init : goal.loop-entry-init
loop-entry-init g c h k = folded-none h _ c.requires.registry_len

pub loop-entry-preserved : goal.loop-entry-preserved
loop-entry-preserved g c h k =
    let i = c.loop-entry.invariant h k in
    let m = chunk c.as_chunks.ensures.front c.as_chunks.ensures.front_len c.loop-entry-test.true in
    folded_more i m.below (k _ _ _ (ap length m.is ∙ reading_ten i.at m.below) c.step-state.ensures ∙ ap (λ e. h c.loop-entry.state (decode_one e)) m.is)

pub returns : goal.returns
returns g c h k = folded-all (c.loop-entry.invariant h k) (omega (arith, c.as_chunks.ensures.front_len, c.loop-entry-test.false))
