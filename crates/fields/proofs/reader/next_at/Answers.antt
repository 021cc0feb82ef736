use mathlib.Core.Path.{refl}
use Rattle.fields.proofs.reader.next_at.Goals as goal

pub returns : goal.returns
returns c = (c.number_at.ensures, refl)
