-- What the claim over runs has to know about one accepted call: its interface. Whatever has it joins the claim.
use mathlib.Core.Path.{◌≡◌}
use mathlib.Core.Logic.{◌⊎◌}
use mathlib.Core.List.{List, [], ◌∷◌, map}
use Prim.Native.Nat.{ℕ}
use lib.Dec.{T}
use Rattle.definitions.specs.declared.Settings.{Settings}
use Rattle.definitions.specs.Record.{Validator}
use Rattle.definitions.specs.Checked.{value}
use Rattle.definitions.specs.Rust.Phase0.Helpers.{get_validator_churn_limit, initiate_validator_exit}
use Rattle.history.specs.ExitEpochs.{Event, accepts}

abbrev pub exit_of : Validator → ℕ
exit_of v = v.exit_epoch

abbrev pub OneOf : ℕ → List ℕ → Type 0
OneOf l [] = ⊥
OneOf l (m ∷ ms) = (l ≡ m) ⊎ OneOf l ms

-- one register became the other by exits, one after the other, each by the definition on the register as it then stands and under one of the
-- limits; between them no exit epoch changed
pub data Exits (limits : List ℕ) : List Validator → List Validator → Type 0 where
  kept : {vs ws : List Validator} → map exit_of ws ≡ map exit_of vs → Exits limits vs ws
  exit : (s : Settings) (slot i : ℕ) {vs ws : List Validator} → initiate_validator_exit s slot vs i ≡ value ws → OneOf (get_validator_churn_limit s slot vs) limits → Exits limits vs ws
  then : {us vs ws : List Validator} → Exits limits us vs → Exits limits vs ws → Exits limits us ws

abbrev pub Shaped : Event → Type 0
Shaped e = T (accepts e) → Exits e.limits e.opening e.returned
