use Rattle.survey.specs.Found.{all_fit}
use Rattle.survey.proofs.all_fit.Goals as goal

pub returns : goal.returns
unfolding all_fit
returns c = cc
