use Rattle.listing_lines.proofs.numbers.no_head.Goals as goal

pub returns : goal.returns
returns c = rw c.none_raised.ensures
