use Rattle.fields.proofs.read_finality.Goals as goal

pub returns : goal.returns
returns c =
    let slot = c.read_number-slot.ensures in
    let bits = c.read_number-bits.ensures in
    rw (slot.0, bits.0, c.checkpoint_at-previous.ensures, c.checkpoint_at-current.ensures, c.checkpoint_at-finalized.ensures, bits.1, slot.1)
