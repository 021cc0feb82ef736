use Rattle.electra_appended.proofs.Updated.{updated}
use Rattle.electra_appended.proofs.update_added.Goals as goal

pub returns : goal.returns
returns c =
    let a = c.args in
    updated a.rules a.n a.count a.compounding.now a.registry.now c.requires.registry_len.1 c.effective_balances_core.ensures
