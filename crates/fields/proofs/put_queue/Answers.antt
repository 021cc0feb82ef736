use mathlib.Core.Path.{refl}
use Rattle.definitions_file.specs.File.{little_endian}
use Rattle.laws_file.proofs.Numbers.{length_little}
use Rattle.fields.proofs.Stores.{stored-first, stored_more}
use Rattle.fields.proofs.put_queue.Goals as goal

pub returns : goal.returns
returns c =
    let a = c.args in
    let q = a.q in
    let last = stored-first a.file.now a.at (little_endian 8 q.last_epoch) (length_little 8 q.last_epoch) c.put_number.ensures in
    (stored_more last (little_endian 8 q.number) (length_little 8 q.number) refl refl c.put_number-2.ensures).is
