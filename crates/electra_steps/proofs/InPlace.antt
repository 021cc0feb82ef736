-- The pair has no part in what a close tells of its totals and of its finality.
use mathlib.Core.Path.{◌≡◌, refl}
use mathlib.Core.List.{List}
use Prim.Native.Nat.{ℕ}
use Rattle.definitions.specs.declared.Settings.{Settings}
use Rattle.definitions.specs.declared.Bellatrix.{Bellatrix}
use Rattle.definitions.specs.declared.Finality.{Finality}
use Rattle.definitions.specs.Record.{Validator}
use Rattle.definitions.specs.Checked.{value}
use Rattle.definitions.specs.Rules.{in_place}
use Rattle.definitions.specs.Raised.{raised_totals, was_raised}
use Rattle.definitions.specs.Document.Phase0.Helpers.{get_current_epoch, get_previous_epoch, compute_epoch_at_slot}
use Rattle.definitions.specs.Rust.Altair.Helpers.{get_unslashed_participating_indices}
use Rattle.definitions_close.specs.FinalizingTest.{finalizing_test}

pub raised-same : (b : Bellatrix) (s : Settings) (slot : ℕ) (vs : List Validator) → raised_totals (in_place b s) slot vs ≡ raised_totals s slot vs
unfolding raised_totals was_raised get_current_epoch get_previous_epoch compute_epoch_at_slot get_unslashed_participating_indices
raised-same b s slot vs = refl

pub test-same : (b : Bellatrix) (s : Settings) (old after : Finality) → finalizing_test (in_place b s) old (value after) ≡ finalizing_test s old (value after)
unfolding finalizing_test get_current_epoch compute_epoch_at_slot
test-same b s old after = refl
