use Rattle.electra_refusals.proofs.Passed.{good-electra}
use Rattle.registry.proofs.Epochs.{epochs}
use Rattle.electra_registry.proofs.Loop.{registry-text}
use Rattle.electra_registry.proofs.update_registry.Goals as goal

pub update_all-requires : goal.update_all-requires
update_all-requires c =
    let p = epochs _ _ (good-electra _ c.requires.1).settings c.requires.2 in
    (c.requires.0, rw c.registry_numbers-n.ensures p.small)

pub returns : goal.returns
returns c =
    let a = c.args in
    let p = epochs _ _ (good-electra _ c.requires.1).settings c.requires.2 in
    rw (registry-text a.rules a.state_slot a.finalized_epoch a.churn a.registry.now c.requires.1 p)
    (rw c.registry_numbers-n.ensures at c.update_all.ensures)
