use Rattle.electra_refused.proofs.Refused.{front-cleared}
use Rattle.electra_refused.proofs.clear_front.Goals as goal

pub returns : goal.returns
returns c = front-cleared c.args.n c.args.list.now c.requires (c.fill.ensures.after (λ y e. e))
