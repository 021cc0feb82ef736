use Rattle.refusals.proofs.Laws.{good-settings}
use Rattle.definitions_electra.specs.Evaluated.Electra.Helpers.{get_balance_churn_limit}
use Rattle.electra_registry.proofs.Limits.{limit-told, limit-over}
use Rattle.electra_registry.proofs.balance_churn.Goals as goal

pub current_epoch-epoch-requires : goal.current_epoch-epoch-requires
current_epoch-epoch-requires c = (good-settings _ c.requires.1).positive.slots_per_epoch

pub returns-in_err-total : goal.returns-in_err-total
unfolding get_balance_churn_limit
returns-in_err-total c = limit-over _ _ _ _ c.current_epoch-epoch.ensures c.total_active.ensures c.in_err-total.was c.from_residual.ensures

pub balance_limit-limit-requires : goal.balance_limit-limit-requires
balance_limit-limit-requires c =
    let p = (good-settings _ c.requires.1).positive in
    (p.churn_limit_quotient, p.effective_balance_increment)

pub returns : goal.returns
unfolding get_balance_churn_limit
returns c = limit-told _ _ _ _ c.current_epoch-epoch.ensures c.total_active.ensures c.in_ok-total.was c.balance_limit-limit.ensures
