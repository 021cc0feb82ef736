use Rattle.laws.proofs.Loops.Entry.{entry-back}
use mathlib.Core.Path.{refl}
use Rattle.electra_deposits.proofs.adding.append.Goals as goal

pub returns : goal.returns
returns c = record { registry_after = entry-back _ _ _ c.requires.0 c.requires.1 _ c.write_validator.ensures; compounding_after = refl; places_after = refl }
