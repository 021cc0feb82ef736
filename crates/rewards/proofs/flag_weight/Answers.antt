use Rattle.rewards.proofs.Flags.{weight-other}
use Rattle.rewards.proofs.flag_weight.Goals as goal

pub returns : goal.returns
returns c = weight-other _ c.requires c.if-flag_index-eq1.false
