use mathlib.Core.Path.{sym, ◌∙◌}
use Rattle.definitions.specs.Rust.Phase0.Helpers.{get_total_active_balance}
use Rattle.refusals.proofs.Laws.{good-settings}
use Rattle.arithmetic.proofs.Laws.{carried}
use Rattle.totals.proofs.Sums.{total-positive}
use Rattle.refusals.proofs.buffers.Chained.{ran-given, ran_over}
use Rattle.slashings.proofs.Adjusted.{slashings-by}
use Rattle.slashings.proofs.slashings_core.Goals as goal

pub current_epoch-epoch-requires : goal.current_epoch-epoch-requires
current_epoch-epoch-requires c = (good-settings c.args.s c.requires.1).positive.slots_per_epoch

pub returns-in_err-total : goal.returns-in_err-total
unfolding get_total_active_balance
returns-in_err-total c = rw (carried _ c.from_residual.ensures, slashings-by _ _ _ _ _, ← c.current_epoch-epoch.ensures) (ran_over _ c.total_active.ensures c.in_err-total.was)

pub returns-in_err-adjusted : goal.returns-in_err-adjusted
unfolding get_total_active_balance
returns-in_err-adjusted c = rw (carried _ c.from_residual-in_err-adjusted.ensures, slashings-by _ _ _ _ _, ← c.current_epoch-epoch.ensures) (ran-given _ c.total_active.ensures c.in_ok-total.was (ran_over _ c.adjusted_balance.ensures c.in_err-adjusted.was))

pub slash_all-requires : goal.slash_all-requires
slash_all-requires c =
    let p = (good-settings c.args.s c.requires.1).positive.effective_balance_increment in
    (c.requires.0, p, total-positive _ _ (sym c.total_active.ensures ∙ c.in_ok-total.was) p)

pub returns : goal.returns
unfolding get_total_active_balance
returns c = rw (slashings-by _ _ _ _ _, ← c.current_epoch-epoch.ensures) (ran-given _ c.total_active.ensures c.in_ok-total.was (ran-given _ c.adjusted_balance.ensures c.in_ok-adjusted.was c.slash_all.ensures))
