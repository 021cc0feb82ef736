use Rattle.laws.proofs.Encode.{ten}
use Rattle.outage.proofs.outage_preparation.entry_flags.Goals as goal

pub returns : goal.returns
returns c = rw (ten c.args.entry.now c.requires)
