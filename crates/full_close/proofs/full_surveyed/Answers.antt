use mathlib.Core.Path.{◌≡◌, refl, ap, ◌∙◌}
use Prim.Native.Nat.{ℕ}
use lib.ListN.{replicate}
use native.Mathlib.Omega.{arith}
use Rattle.refusals.proofs.Laws.{small, good-settings}
use Rattle.registry.proofs.Epochs.{Epochs, epochs}
use Rattle.full_close.proofs.Worked.{full-refused, booked-gave, full-accepted}
use Rattle.full_close.proofs.full_surveyed.Goals.{Else-answer-ne0, Start}
use Rattle.full_close.proofs.full_surveyed.Goals as goal

ep : (c : Start) → Epochs c.args.s c.args.finality.slot
ep c = let p = c.requires.tested.settings in epochs c.args.s c.args.finality.slot p.good (small _ p.small)

-- the steps were accepted
given : (c : Else-answer-ne0) → c.close_surveyed-stepped.result.answer.refusal ≡ 0
given c = omega (arith, c.if-answer-ne0.false)

pub close_surveyed-stepped-requires : goal.close_surveyed-stepped-requires
close_surveyed-stepped-requires c =
    record { tested = c.requires.tested; closing_registry_len = (c.requires.closing_registry_len.0, c.requires.closing_registry_len.1); finds = c.requires.finds }

pub returns-then-answer-ne0 : goal.returns-then-answer-ne0
returns-then-answer-ne0 c =
    full-refused c.close_surveyed-stepped.ensures.steps_closed c.if-answer-ne0.true refl refl refl refl refl (c.fill.ensures.after (λ y e. e) ∙ ap (λ (n : ℕ). replicate n 0) c.close_surveyed-stepped.auto.amounts)

pub finalizing_test-test-requires : goal.finalizing_test-test-requires
finalizing_test-test-requires c =
    ((good-settings _ c.requires.tested.settings.good).positive.slots_per_epoch, c.requires.tested.finality)

pub returns : goal.returns
returns c =
    let closed = c.close_surveyed-stepped.ensures in
    full-accepted closed.steps_closed (given (goal.at.returns c).Else-answer-ne0) refl refl (closed.pair_of.pair (given (goal.at.returns c).Else-answer-ne0)) refl c.finalizing_test-test.ensures
    (booked-gave closed.steps_closed (given (goal.at.returns c).Else-answer-ne0) (ep (goal.at.returns c).Start) c.args.registry.now refl c.requires.tested.registry (closed.books.booked (given (goal.at.returns c).Else-answer-ne0) c.requires.closing_registry_len.2))
