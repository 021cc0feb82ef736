use mathlib.Core.Path.{◌≡◌, refl}
use mathlib.Core.Bool.{Bool, true, false, cond}
use mir.Val.{bool_byte}
use Rattle.definitions.specs.Plain.{plain_truth}
use Rattle.plain.proofs.plain_truth.Goals as goal

as_number : (b : Bool) → bool_byte b ≡ cond b 1 0
as_number true = refl
as_number false = refl

pub returns-in-Ok : goal.returns-in-Ok
unfolding plain_truth
returns-in-Ok c = rw (c.in-Ok.is, as_number)

pub returns-in-Err : goal.returns-in-Err
unfolding plain_truth
returns-in-Err c = rw (c.in-Err.is, c.number-refusal.ensures)
