use mathlib.Core.Path.{sym, ◌∙◌}
use Rattle.definitions_votes.specs.Filling.{uniform}
use Rattle.votes.proofs.vote_sums.Entry.{previous-is}
use Rattle.votes.proofs.vote_sums.weight_in_previous.Goals as goal

pub returns : goal.returns
returns c =
    let a = c.args in
    c.weight_where.ensures
    ∙ rw (c.filled_in-hit.ensures, c.flag_is_set.ensures, c.previous_unknown.ensures, c.entry_is_active-active.ensures) (sym (previous-is _ _ _ (uniform a.set a.set 0) _ c.requires.previous_epoch_lt_current_epoch))
