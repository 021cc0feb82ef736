use Rattle.definitions.specs.Document.Altair.Helpers.{is_unslashed_participating}
use Rattle.entries.proofs.entry_is_participating.Goals as goal

pub returns : goal.returns
unfolding is_unslashed_participating
returns c = rw (← c.entry_is_active-active.ensures, ← c.flags_at-flags.ensures) c.participates.ensures
