use mathlib.Core.Path.{sym, ◌∙◌}
use Rattle.definitions.specs.Document.Phase0.EpochProcessing.{rounded_balance}
use Rattle.laws.proofs.Encode.{ten}
use Rattle.arithmetic.proofs.Laws.{carried}
use Rattle.laws.proofs.Loops.Checking.{settles-value, settles-refused}
use Rattle.balances.proofs.effective_balances.Update.{low-refused, low-moved, high-refused, high-moved, kept}
use Rattle.balances.proofs.effective_balances.entry_update.Goals as goal

pub returns-in_err-low : goal.returns-in_err-low
returns-in_err-low c = rw (carried _ c.from_residual.ensures) (settles-refused _ c.requires.0 (low-refused _ _ _ _ (sym c.add64.ensures ∙ c.in_err-low.was)))

pub returns-then-low-effective : goal.returns-then-low-effective
unfolding rounded_balance
returns-then-low-effective c = settles-value _ (low-moved _ _ _ _ (sym c.add64.ensures ∙ c.in_ok-low.was) c.if-low-effective.true) (rw (c.rounded.ensures, ten c.args.entry.now c.requires.0))

pub returns-in_err-high : goal.returns-in_err-high
returns-in_err-high c = rw (carried _ c.from_residual-in_err-high.ensures) (settles-refused _ c.requires.0 (high-refused _ _ _ _ (sym c.add64.ensures ∙ c.in_ok-low.was) c.if-low-effective.false (sym c.add64-2.ensures ∙ c.in_err-high.was)))

pub returns-then-high-balance : goal.returns-then-high-balance
unfolding rounded_balance
returns-then-high-balance c = settles-value _ (high-moved _ _ _ _ (sym c.add64.ensures ∙ c.in_ok-low.was) c.if-low-effective.false (sym c.add64-2.ensures ∙ c.in_ok-high.was) c.if-high-balance.true) (rw (c.rounded-then-high-balance.ensures, ten c.args.entry.now c.requires.0))

pub returns : goal.returns
returns c = settles-value _ (kept _ _ _ _ (sym c.add64.ensures ∙ c.in_ok-low.was) c.if-low-effective.false (sym c.add64-2.ensures ∙ c.in_ok-high.was) c.if-high-balance.false) (ten _ c.requires.0)
