use Rattle.close_by_steps.proofs.slashings_amounts.Taken.{ninth-put}
use Rattle.close_by_steps.proofs.slashings_amounts.put_ninth.Goals as goal

pub returns : goal.returns
returns c = ninth-put c.args.nine.now _ c.requires
