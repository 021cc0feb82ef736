use Rattle.shelf_file.proofs.put_closed.Goals as goal

pub returns : goal.returns
returns c = rw c.queue_of-queue.ensures at c.put_record.ensures
