use Rattle.electra_queues.proofs.Written.{written}
use Rattle.electra_queues.proofs.write_queues.Goals as goal

pub returns : goal.returns
returns c =
    let a = c.args in
    written a.next_epoch a.registry.now a.deposits.now a.consolidations.now a.index a.done c.requires.consolidations_len.0 c.requires.consolidations_len.1 c.write_queue-left.ensures _ c.keep_rest.ensures
