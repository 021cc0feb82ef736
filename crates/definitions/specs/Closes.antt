-- What a call that tests, works and writes into a lent buffer promises its caller.
use Rattle.std.specs.Prelude.{◌≡◌, List, ℕ}
use Rattle.definitions.specs.Checked.{Checked, code_of}
use Rattle.definitions.specs.Refusals.{after_tests, closing_buffer}

-- 0 or the refusal's number, and all that the buffer holds `after`: untouched where a test refused, the opening's where the work did
pub record Closes {A : Type 0} (contents : A → List ℕ) (tests : Checked (Unit {0})) (work : Checked A) (opening closing after : List ℕ) (r : ℕ) : Type 0 where
  pub number : r ≡ code_of (after_tests tests work)
  pub buffer : after ≡ closing_buffer contents tests work opening closing
