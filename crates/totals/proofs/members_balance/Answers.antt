use mathlib.Core.Path.{sym, ◌∙◌}
use borrow.Author.Rules.{rules}
use Rattle.laws.proofs.Loops.Filtered.{sum64-filter}
use Rattle.totals.proofs.members_balance.Goals as goal

pub returns : goal.returns
returns c = c.sum_entries.ensures _ (λ e r l p. search rules) ∙ sym (sum64-filter _ _ _)
