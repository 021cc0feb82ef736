use mathlib.Core.Path.{sym, ◌∙◌}
use Rattle.definitions.specs.Rust.Phase0.Helpers.{get_total_active_balance}
use Rattle.refusals.proofs.Laws.{good-settings}
use Rattle.arithmetic.proofs.Laws.{carried}
use Rattle.refusals.proofs.buffers.Chained.{ran-given, ran_over}
use Rattle.electra_slashings.specs.Slashed.{slashed_registry}
use Rattle.electra_slashings.proofs.Slashed.{some_increments}
use Rattle.electra_slashings.proofs.slashings_core.Goals as goal

pub current_epoch-epoch-requires : goal.current_epoch-epoch-requires
current_epoch-epoch-requires c = (good-settings c.args.s c.requires.1).positive.slots_per_epoch

pub returns-in_err-total : goal.returns-in_err-total
unfolding slashed_registry get_total_active_balance
returns-in_err-total c = rw (← c.current_epoch-epoch.ensures, carried _ c.from_residual.ensures) (ran_over _ c.total_active.ensures c.in_err-total.was)

pub returns-in_err-adjusted : goal.returns-in_err-adjusted
unfolding slashed_registry get_total_active_balance
returns-in_err-adjusted c = rw (← c.current_epoch-epoch.ensures, carried _ c.from_residual-in_err-adjusted.ensures) (ran-given _ c.total_active.ensures c.in_ok-total.was (ran_over _ c.adjusted_balance.ensures c.in_err-adjusted.was))

pub nonzero_div-increments : goal.nonzero_div-increments
nonzero_div-increments c = (good-settings c.args.s c.requires.1).positive.effective_balance_increment

pub nonzero_div-adjusted : goal.nonzero_div-adjusted
nonzero_div-adjusted c = some_increments _ _ (sym c.total_active.ensures ∙ c.in_ok-total.was) (good-settings c.args.s c.requires.1).positive.effective_balance_increment

pub slash_all-requires : goal.slash_all-requires
slash_all-requires c = (c.requires.0, (good-settings c.args.s c.requires.1).positive.effective_balance_increment)

pub returns : goal.returns
unfolding slashed_registry get_total_active_balance
returns c = rw (← c.current_epoch-epoch.ensures) (ran-given _ c.total_active.ensures c.in_ok-total.was (ran-given _ c.adjusted_balance.ensures c.in_ok-adjusted.was c.slash_all.ensures))
