use Rattle.std.proofs.Common.{refl, arith}
use Rattle.arithmetic.proofs.Laws.{carried}
use Rattle.electra_consolidations.proofs.Consolidating.{source-placed, target-placed, going_none, going_left, going_stop, going_more, going_all}
use Rattle.electra_consolidations.proofs.Moves.{booking_none, booking_left, booking_stop, booking_more, booking_all}
use Rattle.electra_consolidations.proofs.consolidate_all.Goals as goal

pub loop-i-init : goal.loop-i-init
loop-i-init c = (refl, c.requires.pairs_value, going_none _ _ c.requires.registry_len.0, booking_none _ _ _ _ _)

pub stops_at-requires : goal.stops_at-requires
stops_at-requires c = (c.loop-i.invariant.2.long, source-placed _ _ _ (omega arith) c.loop-i.invariant.1)

pub returns-then-stops_at : goal.returns-then-stops_at
returns-then-stops_at c =
    let g = c.loop-i.invariant.2 in
    let stopped = c.stops_at.ensures in
    record { consolidates = going_left g (omega arith) refl refl stopped c.if-stops_at.true; moves_booked = booking_left g c.loop-i.invariant.3 (omega arith) refl refl stopped c.if-stops_at.true }

pub moved_from-moved-requires : goal.moved_from-moved-requires
moved_from-moved-requires c = (c.loop-i.invariant.2.long, source-placed _ _ _ (omega arith) c.loop-i.invariant.1)

pub book_move-requires : goal.book_move-requires
book_move-requires c =
    let p = c.loop-i.invariant.1 in
    (source-placed _ _ _ (omega arith) p, target-placed _ _ _ (omega arith) p, omega (arith, c.loop-i.invariant.2.long))

pub consolidation_turn-requires : goal.consolidation_turn-requires
consolidation_turn-requires c =
    let p = c.loop-i.invariant.1 in
    (c.loop-i.invariant.2.long, source-placed _ _ _ (omega arith) p, target-placed _ _ _ (omega arith) p)

pub returns-in_err-consolidation_turn : goal.returns-in_err-consolidation_turn
returns-in_err-consolidation_turn c =
    let g = c.loop-i.invariant.2 in
    let p = c.loop-i.invariant.1 in
    let stopped = c.stops_at.ensures in
    let ran = c.consolidation_turn.ensures in
    rw (carried _ c.from_residual.ensures) (record { consolidates = going_stop g (omega (arith, c.loop-i-test.true, c.loop-i.invariant.0)) refl refl stopped c.if-stops_at.false ran c.in_err-consolidation_turn.was; moves_booked = booking_stop g c.loop-i.invariant.3 (omega (arith, c.loop-i-test.true, c.loop-i.invariant.0)) refl refl stopped c.if-stops_at.false (source-placed _ _ _ (omega (arith, c.loop-i-test.true, c.loop-i.invariant.0)) p) (target-placed _ _ _ (omega (arith, c.loop-i-test.true, c.loop-i.invariant.0)) p) c.moved_from-moved.ensures c.book_move.ensures ran })

pub loop-i-preserved : goal.loop-i-preserved
loop-i-preserved c =
    let g = c.loop-i.invariant.2 in
    let p = c.loop-i.invariant.1 in
    let stopped = c.stops_at.ensures in
    let ran = c.consolidation_turn.ensures in
    let more = going_more g (omega (arith, c.loop-i-test.true, c.loop-i.invariant.0)) refl refl stopped c.if-stops_at.false ran c.in_ok-consolidation_turn.was c.consolidation_turn.auto.registry in
    let booked = booking_more g c.loop-i.invariant.3 (omega (arith, c.loop-i-test.true, c.loop-i.invariant.0)) refl refl stopped c.if-stops_at.false (source-placed _ _ _ (omega (arith, c.loop-i-test.true, c.loop-i.invariant.0)) p) (target-placed _ _ _ (omega (arith, c.loop-i-test.true, c.loop-i.invariant.0)) p) c.moved_from-moved.ensures c.book_move.ensures ran c.in_ok-consolidation_turn.was in
    (c.loop-i.invariant.0, p, more, booked)

pub returns : goal.returns
returns c =
    let g = c.loop-i.invariant.2 in
    record { consolidates = going_all g (omega arith); moves_booked = booking_all g c.loop-i.invariant.3 (omega arith) }
