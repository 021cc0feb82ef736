use mathlib.Core.Path.{ap}
use Rattle.definitions.specs.declared.Finality.{Finality}
use Rattle.definitions.specs.Document.Phase0.EpochProcessing.{weighed}
use Rattle.definitions_votes.specs.Votes.{finalized_after}
use Rattle.votes.proofs.vote_outcome.finalized_after.Goals as goal

pub returns : goal.returns
unfolding weighed finalized_after
returns c = ap (λ (f : Finality). f.finalized_checkpoint.epoch) c.weighed-after.ensures
