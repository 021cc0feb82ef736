use borrow.Author.Rules.{rules}
use Rattle.definitions.specs.Document.Altair.EpochProcessing.{rotate_participation}
use Rattle.definitions.specs.Rust.Altair.EpochProcessing.{process_participation_flag_updates}
use Rattle.participation.proofs.participation_flags.participation_flags_core.Goals as goal

pub returns : goal.returns
unfolding process_participation_flag_updates
returns c = c.map_entries.ensures rotate_participation (λ e r e' l p. search rules)
