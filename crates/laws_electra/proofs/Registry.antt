-- A step that changes the registry alone, by what it makes of the validators.
use mathlib.Core.List.{List}
use Prim.Native.Nat.{ℕ}
use Rattle.definitions.specs.Record.{Validator, encode}
use Rattle.definitions.specs.Checked.{Checked, value, refused, bind}
use Rattle.definitions.specs.Refusals.{after_tests, closing_buffer}
use Rattle.definitions.specs.Closes.{Closes}
use Rattle.definitions_electra.specs.Record.{ElectraState, with_vs}
use Rattle.definitions_electra.specs.Calls.{registry_in}

abbrev pub in_state : ElectraState → Checked (List Validator) → Checked ElectraState
in_state st m = bind m (λ vs. value (with_vs vs st))

pub closes_in : (st : ElectraState) (tests : Checked (Unit {0})) (m : Checked (List Validator)) {opening closing after : List ℕ} {r : ℕ} → Closes encode tests m opening closing after r → Closes registry_in tests (in_state st m) opening closing after r
unfolding after_tests closing_buffer bind
closes_in st (refused p) m h = record { number = h.number; buffer = h.buffer }
closes_in st (value u) (value vs) h = record { number = h.number; buffer = h.buffer }
closes_in st (value u) (refused p) h = record { number = h.number; buffer = h.buffer }
