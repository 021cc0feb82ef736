use mathlib.Core.Path.{◌∙◌}
use Rattle.electra_refusals.proofs.Lent.{good-pair}
use Rattle.electra_refusals.proofs.good_pair.Goals as goal

pub returns : goal.returns
returns c = c.is_ok.ensures.value ∙ good-pair _ _ c.rules_refusal.ensures
