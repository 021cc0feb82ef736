use Rattle.votes.proofs.vote_outcome.Shown.{four_inserted, told-numbers}
use Rattle.definitions_votes.specs.Votes.{outcome_of}
use Rattle.votes.proofs.vote_outcome.told.Goals as goal

pub returns : goal.returns
unfolding outcome_of
returns c =
    let e = rw c.finalized_after.ensures at c.inserted-one.ensures.is in
    let f = rw c.finalized_after-2.ensures at c.inserted-two.ensures.is in
    let g = rw c.finalized_after-3.ensures at c.inserted-three.ensures.is in
    let h = rw c.finalized_after-4.ensures at c.inserted-list.ensures.is in
    told-numbers _ (four_inserted _ _ _ _ e f g h) c.verdict_number-previous_target.ensures c.verdict_number-current_target.ensures
