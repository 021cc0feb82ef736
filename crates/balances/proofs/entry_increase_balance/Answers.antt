use mathlib.Core.Path.{sym, ◌∙◌}
use Rattle.definitions.specs.Rust.Phase0.Helpers.{increase_balance}
use Rattle.laws.proofs.Encode.{ten}
use Rattle.arithmetic.proofs.Laws.{bind-value, bind-refused, carried}
use Rattle.laws.proofs.Loops.Checking.{settles-value, settles-refused}
use Rattle.balances.proofs.entry_increase_balance.Goals as goal

pub returns-in_err-balance : goal.returns-in_err-balance
unfolding increase_balance
returns-in_err-balance c = rw (carried _ c.from_residual.ensures) (settles-refused _ c.requires (bind-refused _ (sym c.add64.ensures ∙ c.in_err-balance.was)))

pub returns : goal.returns
unfolding increase_balance
returns c = settles-value _ (bind-value _ (sym c.add64.ensures ∙ c.in_ok-balance.was)) (rw (ten c.args.entry.now c.requires))
