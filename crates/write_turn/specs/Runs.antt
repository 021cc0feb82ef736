-- A function on one entry whose caller puts the opening back where it is refused.
use Rattle.std.specs.Prelude.{◌≡◌, List, ℕ}
use Rattle.definitions.specs.Checked.{Checked, value, bind, done}
use Rattle.definitions.specs.Record.{Validator, decode_one, encode_one}

-- Whether f is refused, and the ten numbers where it is not
pub record Runs (f : Validator → Checked Validator) (before after : List ℕ) (r : Checked (Unit {0})) : Type 0 where
  pub is : r ≡ done (f (decode_one before))
  pub held : (v : Validator) → f (decode_one before) ≡ value v → after ≡ encode_one v

-- f, and g on what f left
abbrev pub both : (Validator → Checked Validator) → (Validator → Checked Validator) → Validator → Checked Validator
both f g v = bind (f v) g
