use mathlib.Core.Bool.{not}
use mathlib.Core.Path.{sym, ap, ◌∙◌}
use borrow.Author.Tests.{not-true, not-false}
use Rattle.definitions.specs.Checked.{value}
use Rattle.arithmetic.proofs.Laws.{carried}
use Rattle.weighing.proofs.Tests.{test-over, test-failed, test-refused, test-passed}
use Rattle.weighing.proofs.test_epoch.Goals as goal

pub returns-in_err-passed : goal.returns-in_err-passed
returns-in_err-passed c = carried _ c.from_residual.ensures ∙ sym (test-over _ _ _ _ _ _ (sym c.is_justified.ensures ∙ c.in_err-passed.was))

pub returns-then-not-passed : goal.returns-then-not-passed
returns-then-not-passed c = sym (test-failed _ _ _ _ _ _ (sym c.is_justified.ensures ∙ c.in_ok-passed.was ∙ ap value (not-true _ (ap not c.if-not-passed.true))))

pub returns-in_err-root : goal.returns-in_err-root
returns-in_err-root c =
    let h = sym c.is_justified.ensures ∙ c.in_ok-passed.was ∙ ap value (not-false _ (ap not c.if-not-passed.false)) in
    carried _ c.from_residual-in_err-root.ensures ∙ sym (test-refused _ _ _ _ _ _ h (sym c.epoch_root.ensures ∙ c.in_err-root.was))

pub returns : goal.returns
returns c =
    let h = sym c.is_justified.ensures ∙ c.in_ok-passed.was ∙ ap value (not-false _ (ap not c.if-not-passed.false)) in
    sym (test-passed _ _ _ _ _ _ h (sym c.epoch_root.ensures ∙ c.in_ok-root.was))
