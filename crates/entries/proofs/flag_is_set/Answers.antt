use mathlib.Core.Path.{refl}
use Rattle.definitions.specs.Document.Altair.Helpers.{has_flag}
use Rattle.entries.proofs.flag_is_set.Goals as goal

pub returns : goal.returns
unfolding has_flag
returns c = refl
