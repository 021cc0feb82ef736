use Rattle.std.proofs.Common.{◌+◌, ◌*◌, ◌<◌, arith}
use Rattle.laws.proofs.Loops.Reading.{reading_ten}
use Rattle.selection.proofs.Kept.{kept_same}
use Rattle.survey.proofs.Found.{seeing_none, room-active, room-queue, seeing_more, seeing_all}
use Rattle.survey.proofs.survey_registry.Goals.{In-loop-i}
use Rattle.survey.proofs.survey_registry.Goals as goal

-- the registry is lent, so that it has no 2^60 numbers
fewer : (c : In-loop-i) → 10 * c.loop-i.i + 10 < 1152921504606846976
fewer c =
    omega (arith, c.loop-i-test.true, c.type_inv.registry)

pub loop-i-init : goal.loop-i-init
loop-i-init c = rw (c.no_sums.ensures, c.no_overs.ensures) (seeing_none _ _ _ c.requires.registry_len c.requires.kept_len.0 c.requires.kept_len.1)

pub survey_entry-found-requires : goal.survey_entry-found-requires
survey_entry-found-requires c =
    let g = c.loop-i.invariant in
    (reading_ten g.at c.loop-i-test.true, omega (arith, room-active g, fewer (goal.at.survey_entry-found-requires c).In-loop-i), omega (arith, room-queue g, fewer (goal.at.survey_entry-found-requires c).In-loop-i))

pub waiting_since-since-requires : goal.waiting_since-since-requires
waiting_since-since-requires c = (reading_ten c.loop-i.invariant.at c.loop-i-test.true, omega arith)

pub offset_bounds-kept-p : goal.offset_bounds-kept-p
offset_bounds-kept-p c = omega (arith, c.loop-i.invariant.kept.top.inside, c.loop-i.invariant.kept.places)

pub bounds-kept-p : goal.bounds-kept-p
bounds-kept-p c =
    c.loop-i.invariant.kept.top.inside

pub loop-i-preserved-then-kept-p : goal.loop-i-preserved-then-kept-p
loop-i-preserved-then-kept-p c =
    seeing_more c.loop-i.invariant c.loop-i-test.true c.survey_entry-found.ensures c.waiting_since-since.ensures (kept_same _ c.loop-i.invariant.kept.top c.if-kept-p.true)

pub keep-p-requires : goal.keep-p-requires
keep-p-requires c =
    c.loop-i.invariant.kept.top

pub loop-i-preserved : goal.loop-i-preserved
loop-i-preserved c =
    seeing_more c.loop-i.invariant c.loop-i-test.true c.survey_entry-found.ensures c.waiting_since-since.ensures c.keep-p.ensures

pub returns : goal.returns
returns c = seeing_all _ c.loop-i.invariant c.loop-i-test.false

pub offset_bounds-registry-a-in-loop-i : goal.offset_bounds-registry-a-in-loop-i
offset_bounds-registry-a-in-loop-i c = omega (arith, fewer (goal.at.offset_bounds-registry-a-in-loop-i c).In-loop-i)

pub overflow_step-i : goal.overflow_step-i
overflow_step-i c = omega (arith, fewer (goal.at.overflow_step-i c).In-loop-i)

pub overflow_step-i-in-loop-i : goal.overflow_step-i-in-loop-i
overflow_step-i-in-loop-i c = omega (arith, fewer (goal.at.overflow_step-i-in-loop-i c).In-loop-i)
