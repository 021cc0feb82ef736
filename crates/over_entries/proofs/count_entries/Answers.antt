use mathlib.Core.Path.{sym, ap, ◌∙◌}
use native.Mathlib.Omega.{arith}
use lib.ListN.{length}
use Rattle.definitions.specs.Record.{decode_one}
use Rattle.over_entries.proofs.Chunks.{chunk}
use Rattle.laws.proofs.Loops.Reading.{reading_ten}
use Rattle.laws.proofs.Loops.Counted.{counted_none, counted_yes, counted-no, counted-all}
use Rattle.over_entries.proofs.count_entries.Goals as goal

pub loop-entry-init : goal.loop-entry-init
loop-entry-init g c = (omega arith, λ p k. counted_none p c.requires.registry_len)

pub overflow_add-count : goal.overflow_add-count
overflow_add-count g c = record { fits = omega (arith, c.loop-entry.invariant.0, c.loop-entry-test.true, c.loop-entry.auto.entry-index-end) }

pub loop-entry-preserved-then-not-test : goal.loop-entry-preserved-then-not-test
loop-entry-preserved-then-not-test g c = (
  omega (arith, c.loop-entry.invariant.0),
  λ p k.
      let i = c.loop-entry.invariant.1 p k in
      let m = chunk c.as_chunks.ensures.front c.as_chunks.ensures.front_len c.loop-entry-test.true in
      counted-no i m.below (k _ _ (ap length m.is ∙ reading_ten i.at m.below) c.test.ensures ∙ ap p (ap decode_one m.is)) c.if-not-test.true,
)

pub loop-entry-preserved : goal.loop-entry-preserved
loop-entry-preserved g c = (
  omega (arith, c.loop-entry.invariant.0),
  λ p k.
      let i = c.loop-entry.invariant.1 p k in
      let m = chunk c.as_chunks.ensures.front c.as_chunks.ensures.front_len c.loop-entry-test.true in
      counted_yes i m.below (k _ _ (ap length m.is ∙ reading_ten i.at m.below) c.test.ensures ∙ ap p (ap decode_one m.is)) c.if-not-test.false,
)

pub returns : goal.returns
returns g c p k = counted-all (c.loop-entry.invariant.1 p k) (omega (arith, c.as_chunks.ensures.front_len, c.loop-entry-test.false))
