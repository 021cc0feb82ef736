use mathlib.Core.Path.{sym, ◌∙◌}
use Rattle.definitions_votes.specs.Filling.{none_set}
use Rattle.votes.proofs.vote_sums.Entry.{active-is}
use Rattle.votes.proofs.vote_sums.weight_in_active.Goals as goal

pub returns : goal.returns
returns c = c.active_weight.ensures ∙ rw c.entry_is_active.ensures (sym (active-is _ _ (none_set 0) _))
