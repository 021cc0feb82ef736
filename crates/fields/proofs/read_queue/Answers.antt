use Rattle.fields.proofs.read_queue.Goals as goal

pub returns : goal.returns
returns c = rw (c.read_number-last_epoch.ensures.0, c.read_number-number.ensures.0)
