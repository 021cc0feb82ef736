use Rattle.electra_deposits.proofs.step.Front.{front_long, fronted}
use Rattle.electra_deposits.proofs.step.run_alone.Goals as goal

pub apply_deposits-requires : goal.apply_deposits-requires
apply_deposits-requires c =
    let a = c.args in
    front_long a.q a.registry.now a.deposits.now a.closing_registry.now c.copy_front.ensures c.requires.0

pub returns : goal.returns
returns c =
    let a = c.args in
    fronted a.q a.registry.now a.deposits.now a.closing_registry.now c.copy_front.ensures c.apply_deposits.auto.registry c.apply_deposits.ensures
