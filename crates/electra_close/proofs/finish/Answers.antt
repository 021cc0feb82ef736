use mathlib.Core.Path.{refl}
use native.Mathlib.Omega.{arith}
use Rattle.electra_refusals.proofs.Passed.{good-electra}
use Rattle.electra_close.proofs.Ending.{finishes}
use Rattle.electra_close.proofs.finish.Goals as goal

pub queues_by_front-left-requires : goal.queues_by_front-left-requires
queues_by_front-left-requires c =
    let l = c.requires in
    record { n_in_bounds = (omega (arith, l.registry), l.fives); index_in_bounds = (l.few, l.queue); pairs_len = (l.twos, l.most); closing_pairs_len = l.rest }

pub write_added-count-requires : goal.write_added-count-requires
write_added-count-requires c =
    let l = c.requires in
    record { buffers = record { credentials = refl; keys = l.keys; room = omega (arith, l.registry, l.credentials); room_too = l.credentials; table = l.table }; settings_value = ((good-electra _ l.good).settings, l.few); amounts_len = omega (arith, l.rows, l.credentials) }

pub last_in_front-requires : goal.last_in_front-requires
last_in_front-requires c =
    let l = c.requires in
    record { slashings_len = (l.vector, l.passed); closing_slashings_len = (l.slashed, omega (arith, l.registry, c.write_added-count.auto.closing_registry, c.write_added-count.ensures.within)) }

pub returns : goal.returns
returns c =
    let a = c.args in
    finishes a.rules a.state_slot a.next_epoch a.index a.done a.compounding.now a.slashings.now a.deposits.now a.pairs.now c.requires c.queues_by_front-left.ensures c.write_added-count.ensures c.last_in_front.ensures.closing_slashings_after c.last_in_front.ensures.registry_after
