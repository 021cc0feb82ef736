-- What a function on one validator's ten numbers and a carried state, and a pass by it, promise their callers.
use Rattle.std.specs.Prelude.{◌≡◌, List, ℕ}
use Rattle.definitions.specs.Checked.{Checked, value, refused}
use Rattle.definitions.specs.Record.{Validator, decode_one, encode_one, encode}
use Rattle.write_turn.specs.Sweep.{Moved, Turning}

-- the state that a turn or a pass leaves, or its refusal
abbrev pub carry_of : {C A : Type 0} → Checked (Moved C A) → Checked C
carry_of (value m) = value m.carry
carry_of (refused p) = refused p

-- The state or the refusal, and, where f is not refused, the ten numbers. `before` is what f reads: the ten numbers as lent, or those of
-- another buffer.
pub record Steps {C : Type 0} (f : Turning C Validator) (c : C) (before after : List ℕ) (r : Checked C) : Type 0 where
  pub is : r ≡ carry_of (f c (decode_one before))
  pub held : (m : Moved C Validator) → f c (decode_one before) ≡ value m → after ≡ encode_one m.held

pub record Swept {C : Type 0} (m : Checked (Moved C (List Validator))) (xs : List ℕ) (r : Checked C) : Type 0 where
  pub is : r ≡ carry_of m
  pub held : (p : Moved C (List Validator)) → m ≡ value p → xs ≡ encode p.held
