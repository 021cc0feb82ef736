use mathlib.Core.Path.{sym, ap, ◌∙◌}
use native.Mathlib.Omega.{arith}
use lib.ListN.{length}
use Rattle.definitions.specs.Record.{decode_one}
use Rattle.over_entries.proofs.Chunks.{chunk}
use Rattle.laws.proofs.Loops.Reading.{reading_ten}
use Rattle.laws.proofs.Loops.Tested.{tested-none, tested-more, tested-stop, tested-all}
use Rattle.over_entries.proofs.all_entries.Goals as goal

pub loop-entry-init : goal.loop-entry-init
loop-entry-init g c p k = tested-none p c.requires.registry_len

pub returns-then-not-test : goal.returns-then-not-test
returns-then-not-test g c p k =
    let i = c.loop-entry.invariant p k in
    let m = chunk c.as_chunks.ensures.front c.as_chunks.ensures.front_len c.loop-entry-test.true in
    tested-stop i m.below (k _ _ (ap length m.is ∙ reading_ten i.at m.below) c.test.ensures ∙ ap p (ap decode_one m.is)) c.if-not-test.true

pub loop-entry-preserved : goal.loop-entry-preserved
loop-entry-preserved g c p k =
    let i = c.loop-entry.invariant p k in
    let m = chunk c.as_chunks.ensures.front c.as_chunks.ensures.front_len c.loop-entry-test.true in
    tested-more i m.below (k _ _ (ap length m.is ∙ reading_ten i.at m.below) c.test.ensures ∙ ap p (ap decode_one m.is)) c.if-not-test.false

pub returns : goal.returns
returns g c p k = tested-all (c.loop-entry.invariant p k) (omega (arith, c.as_chunks.ensures.front_len, c.loop-entry-test.false))
