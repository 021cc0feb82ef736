use Rattle.file_refusals.proofs.file_header.header_of.Goals as goal

pub returns : goal.returns
returns c = rw c.validators_at-from.ensures
