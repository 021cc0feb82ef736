use mathlib.Core.Path.{◌≡◌, sym, ap, ◌∙◌}
use native.Mathlib.Omega.{arith}
use lib.ListN.{length, get_or}
use Rattle.definitions.specs.Record.{decode_one, decode, nobody}
use Rattle.definitions.specs.Refusals.{good_validator, good_registry}
use Rattle.over_entries.proofs.Chunks.{Chunk, chunk}
use Rattle.refusals.proofs.All.{passed_none, passed-more, passed-stop, passed-all}
use Rattle.refusals.proofs.Part.{length-decoded, part_length, part-decoded}
use Rattle.refusals.proofs.good_registry.Goals.{After-good_entry}
use Rattle.refusals.proofs.good_registry.Goals as goal

pub loop-entry-init : goal.loop-entry-init
loop-entry-init c = passed_none _ _

pub good_entry-requires : goal.good_entry-requires
good_entry-requires c =
    let k = chunk c.as_chunks.ensures.front c.as_chunks.ensures.front_len c.loop-entry-test.true in
    ap length k.is ∙ part_length _ _ k.below

-- the entry's test is that of the validator
seen : (c : After-good_entry) → c.good_entry.result ≡ good_validator (get_or (decode c.args.registry.now) c.loop-entry.entry-index nobody)
seen c =
    let k = chunk c.as_chunks.ensures.front c.as_chunks.ensures.front_len c.loop-entry-test.true in
    c.good_entry.ensures ∙ ap good_validator (ap decode_one k.is ∙ part-decoded c.args.registry.now c.loop-entry.entry-index nobody k.below)

pub returns-then-not-good_entry : goal.returns-then-not-good_entry
unfolding good_registry
returns-then-not-good_entry c =
    let xs = c.args.registry.now in
    let k = chunk c.as_chunks.ensures.front c.as_chunks.ensures.front_len c.loop-entry-test.true in
    sym (passed-stop c.loop-entry.invariant (omega (arith, length-decoded xs, k.below)) nobody (sym (seen ((goal.at.returns-then-not-good_entry c).After-good_entry)) ∙ c.if-not-good_entry.true))

pub loop-entry-preserved : goal.loop-entry-preserved
loop-entry-preserved c =
    let xs = c.args.registry.now in
    let k = chunk c.as_chunks.ensures.front c.as_chunks.ensures.front_len c.loop-entry-test.true in
    passed-more c.loop-entry.invariant (omega (arith, length-decoded xs, k.below)) nobody (sym (seen ((goal.at.loop-entry-preserved c).After-good_entry)) ∙ c.if-not-good_entry.false)

pub returns : goal.returns
unfolding good_registry
returns c = sym (passed-all c.loop-entry.invariant (omega (arith, length-decoded c.args.registry.now, c.as_chunks.ensures.front_len, c.loop-entry-test.false)))
