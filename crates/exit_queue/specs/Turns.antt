-- What functions on one validator's ten numbers and the exit queue's pair promise their callers.
use Rattle.std.specs.Prelude.{◌≡◌, List, ℕ}
use Rattle.definitions.specs.Record.{Validator, decode_one, encode_one}
use Rattle.definitions.specs.Checked.{Checked, value, bind}
use Rattle.laws.specs.Ran.{settled}
use Rattle.definitions.specs.declared.ExitQueue.{ExitQueue}
use Rattle.exit_queue.specs.Queue.{moved}

-- the pair once v has become what f makes of it, or f's refusal
abbrev pub moved_by : (Validator → Checked Validator) → ExitQueue → Validator → Checked ExitQueue
moved_by f q v = bind (f v) (λ w. value (moved q v w))

-- The pair or the refusal, and the ten numbers, left as lent where f is refused
pub record Exits (f : Validator → Checked Validator) (q : ExitQueue) (before after : List ℕ) (r : Checked ExitQueue) : Type 0 where
  pub is : r ≡ moved_by f q (decode_one before)
  pub held : after ≡ encode_one (settled f (decode_one before))

-- The pair or the refusal, and, where it is not refused, the ten numbers. The caller puts the opening back where it is.
pub record Turns (f : Validator → Checked Validator) (q : ExitQueue) (before after : List ℕ) (r : Checked ExitQueue) : Type 0 where
  pub is : r ≡ moved_by f q (decode_one before)
  pub held : (w : Validator) → f (decode_one before) ≡ value w → after ≡ encode_one w
