use native.Mathlib.Omega.{arith}
use mathlib.Core.Path.{◌∙◌}
use Rattle.electra_appended.proofs.Appended.{writes-added}
use Rattle.electra_appended.proofs.write_added.Goals as goal

pub update_added-requires : goal.update_added-requires
update_added-requires c =
    let h = c.requires.buffers in
    let kept = c.add_behind-count.auto in
    let within = c.add_behind-count.ensures.lower_bound in
    record { registry_len = (omega (arith, kept.closing_registry, kept.closing_compounding, h.room), within.0, omega (arith, kept.closing_compounding, within.1, h.room_too)); settings_value = c.requires.settings_value.0 }

pub returns : goal.returns
returns c =
    let a = c.args in
    let kept = c.add_behind-count.auto in
    let done = c.add_behind-count.ensures in
    writes-added a.rules a.n a.deposits.now a.compounding.now a.index a.closing_registry.now a.closing_compounding.now c.requires.buffers done.added done.lower_bound c.append_amounts.ensures c.update_added.ensures kept.closing_registry (c.update_added.auto.registry ∙ kept.closing_registry)
