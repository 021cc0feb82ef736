use Rattle.definitions.specs.Document.Altair.EpochProcessing.{rotate_participation}
use Rattle.laws.proofs.Encode.{ten}
use Rattle.participation.proofs.participation_flags.entry_rotate.Goals as goal

pub returns : goal.returns
unfolding rotate_participation
returns c = rw (ten c.args.entry.now c.requires)
