use mathlib.Core.Path.{sym, ◌∙◌}
use Rattle.store.proofs.Passed.{no_room, in_room}
use Rattle.store.proofs.store_entries.Entries.{three}
use Rattle.store.proofs.store_entries.store_shaped.Goals as goal

pub returns-then-long-n : goal.returns-then-long-n
returns-then-long-n c = sym (no_room _ c.if-long-n.true)

pub returns : goal.returns
returns c = rw (c.entries_pass.ensures, c.in_sequence.ensures) (three _ _ _ ∙ sym (in_room _ c.if-long-n.false))
