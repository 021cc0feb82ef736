use Rattle.refusals.proofs.Laws.{good-settings}
use Rattle.close_by_steps.proofs.close_steps.Done.{first-refused, first_goes}
use borrow.Author.Rules.{rules}
use Rattle.close_by_steps.proofs.close_steps.first_tested.Goals as goal

pub process_justification_and_finalization-justified-requires : goal.process_justification_and_finalization-justified-requires
process_justification_and_finalization-justified-requires c = search rules

pub returns-then-refusal-ne0 : goal.returns-then-refusal-ne0
returns-then-refusal-ne0 c = first-refused _ _ _ _ _ _ _ _ c.requires.justifies c.process_justification_and_finalization-justified.ensures c.copy.ensures c.copy-2.ensures (c.fill.ensures.after (λ y e. e)) c.if-refusal-ne0.true c.ended_by.ensures

pub finalizing_test-test-requires : goal.finalizing_test-test-requires
finalizing_test-test-requires c = ((good-settings _ c.requires.opening.settings.good).positive.slots_per_epoch, c.requires.opening.finality)

pub returns : goal.returns
returns c = first_goes _ _ _ _ _ _ _ _ c.requires.justifies c.process_justification_and_finalization-justified.ensures c.copy.ensures c.copy-2.ensures (c.fill.ensures.after (λ y e. e)) c.if-refusal-ne0.false c.finalizing_test-test.ensures
