-- What the number of a struct says of the answer whose code it is.
use mathlib.Core.Path.{◌≡◌, refl}
use Rattle.definitions.specs.Checked.{Checked, value, refused, code_of, done, settle}
use Rattle.laws.proofs.Checked.{number_not_zero}
use Rattle.laws.proofs.Loops.Ran.{done-gave}

pub no-refusal : {A : Type 0} (m : Checked A) → code_of m ≡ 0 → done m ≡ value tt
no-refusal (value a) z = refl
no-refusal (refused r) z = absurd (number_not_zero r z)

pub code-value : {A : Type 0} (m : Checked A) (a : A) → code_of m ≡ 0 → m ≡ value (settle m a)
code-value m a z = done-gave m a (no-refusal m z)
