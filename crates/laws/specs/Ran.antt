-- What a function on one entry, and a step over the registry, promise their callers.
use Rattle.std.specs.Prelude.{◌≡◌, List, ℕ}
use Rattle.definitions.specs.Checked.{Checked, value, done, settle}
use Rattle.definitions.specs.Record.{Validator, decode_one, encode_one, encode}

-- a validator after f: f's value, or left as it was
abbrev pub settled : (Validator → Checked Validator) → Validator → Validator
settled f v = settle (f v) v

-- Whether f is refused, and the ten numbers, left as lent where it is
pub record Settles (f : Validator → Checked Validator) (before after : List ℕ) (r : Checked (Unit {0})) : Type 0 where
  pub is : r ≡ done (f (decode_one before))
  pub held : after ≡ encode_one (settled f (decode_one before))

-- Whether it is refused, and the registry where it is not. The caller puts the opening back where it is.
pub record Ran (m : Checked (List Validator)) (xs : List ℕ) (r : Checked (Unit {0})) : Type 0 where
  pub is : r ≡ done m
  pub held : (vs : List Validator) → m ≡ value vs → xs ≡ encode vs
