-- Demand 3 over lists of events. An event is a close as it was called and as it came back, by what the claim asks of it; Demand3.antt has the
-- instance that is owed. Words in quotation marks are demand 3's, or document 01's in "Leaves to close".
use Rattle.std.specs.Prelude.{◌≡◌, ◌≢◌, ◌⊎◌, Bool, cond, ◌&&◌, ◌||◌, ℕ, ◌+◌, ◌-◌, ◌/◌, ◌≤◌, ◌<◌, T, leb, ltb, eqb, length, get_or}
use mathlib.Core.List.{List, [], ◌∷◌, ◌++◌, foldl}
use Rattle.definitions.specs.Lists.{filter, range}
use Rattle.definitions.specs.Record.{BeaconState, nobody, FAR_FUTURE_EPOCH as FAR}
use Rattle.definitions.specs.Close.{finalized_epoch_of}

-- the "eligibility and activation epochs" of validator number i
abbrev pub eligibility : BeaconState → ℕ → ℕ
eligibility r i = (get_or r.validators i nobody).activation_eligibility_epoch

abbrev pub activation : BeaconState → ℕ → ℕ
activation r i = (get_or r.validators i nobody).activation_epoch

-- "waits for activation when its eligibility epoch is at most the finalized epoch and its activation epoch is FAR, which means none"
unfoldable pub waits : BeaconState → ℕ → Bool
waits r i = ltb i (length r.validators) && (leb (eligibility r i) (finalized_epoch_of r) && eqb (activation r i) FAR)

-- "Ahead of it are those waiting with a smaller eligibility epoch, or the same one and a smaller number"
unfoldable pub ahead : BeaconState → ℕ → ℕ → Bool
ahead r i j = waits r j && (ltb (eligibility r j) (eligibility r i) || (eqb (eligibility r j) (eligibility r i) && ltb j i))

-- "k others ahead of it"; "Waiting and k are read off the standing record"
unfoldable pub k : BeaconState → ℕ → ℕ
k r i = length (filter (ahead r i) (range 0 (length r.validators)))

pub record Event : Type 0 where
  -- the record handed in, the one returned, and 0 or the refusal's number
  pub opening : BeaconState
  pub returned : BeaconState
  pub refusal : ℕ
  -- "The epoch of a close"; of its settings, max_seed_lookahead and "the smallest activation churn limit the settings allow"
  pub epoch : ℕ
  pub lookahead : ℕ
  pub churn : ℕ
  -- "after a refused one, whatever the number, it is the one that stood before": with what others had done to it by then, or without
  pub others_stay : Bool

-- "A close that answers no refusal number is accepted"
abbrev pub accepts : Event → Bool
accepts e = eqb e.refusal 0

-- those of a list
abbrev pub accepted : List Event → List Event
accepted events = filter accepts events

-- "After it the standing record is the one it returned"
abbrev pub after : BeaconState → Event → BeaconState
after r e = cond (accepts e) e.returned (cond e.others_stay e.opening r)

-- the record that stands after some events
abbrev pub standing : BeaconState → List Event → BeaconState
standing start events = foldl after start events

-- r stood and o is handed in: "between closes nobody touches checkpoints, settings, numbering or a validator's two activation epochs, and new
-- validators carry neither". (Settings are no part of the record: see Demand3.antt.)
pub record Others (r o : BeaconState) : Type 0 where
  pub previous : o.finality.previous_justified_checkpoint ≡ r.finality.previous_justified_checkpoint
  pub current : o.finality.current_justified_checkpoint ≡ r.finality.current_justified_checkpoint
  pub final : o.finality.finalized_checkpoint ≡ r.finality.finalized_checkpoint
  -- "added validators at the end"
  pub more : length r.validators ≤ length o.validators
  pub old : (i : ℕ) → i < length r.validators → (eligibility o i ≡ eligibility r i) × (activation o i ≡ activation r i)
  -- "with both epochs FAR"
  pub new : (i : ℕ) → length r.validators ≤ i → i < length o.validators
      → (eligibility o i ≡ FAR) × (activation o i ≡ FAR)

pub record Premises (start : BeaconState) (events : List Event) : Type 0 where
  -- "each handed what the last one left, whatever others did to it meanwhile"
  pub handed : (before later : List Event) (e : Event) → events ≡ before ++ e ∷ later → Others (standing start before) e.opening
  -- "each accepted close is of a later epoch"
  pub rising : (before later : List Event) (e f : Event) → accepted events ≡ before ++ e ∷ f ∷ later → e.epoch < f.epoch
  -- "at the start the finalized, previous justified and current justified epochs and the first accepted close's previous epoch do not fall in that
  -- order"; the previous epoch "is one less, or 0 at epoch 0"
  pub ordered : (e : Event) (later : List Event) → accepted events ≡ e ∷ later → let f = start.finality in
      (f.finalized_checkpoint.epoch ≤ f.previous_justified_checkpoint.epoch)
      × (f.previous_justified_checkpoint.epoch ≤ f.current_justified_checkpoint.epoch)
      × (f.current_justified_checkpoint.epoch ≤ e.epoch - 1)

-- "m, at least 1": no accepted event has a smaller limit
pub record Least (m : ℕ) (events : List Event) : Type 0 where
  pub positive : 1 ≤ m
  pub smallest : (before later : List Event) (e : Event) → accepted events ≡ before ++ e ∷ later → m ≤ e.churn

-- "one claim about the whole list": `before`, `since`, `later` and `rest` are its parts, in this order
pub record Claim (m : ℕ) (start : BeaconState) (events : List Event) : Type 0 where
  -- "a validator that waits for activation at the start or after any close, with k others ahead of it, has its activation epoch once
  -- floor(k / m) + 1 further closes are accepted, and from then on": one of these closes gave it, and the validator is in the registry
  pub activated : (before since later rest : List Event) (i : ℕ) → events ≡ before ++ since ++ later ++ rest
      → T (waits (standing start before) i) → k (standing start before) i / m + 1 ≤ length (accepted since)
      → let x = activation (standing start (before ++ since)) i in let then = standing start (before ++ since ++ later) in
      (x ≢ FAR) × (filter (λ e. eqb (e.epoch + 1 + e.lookahead) x) (accepted since) ≢ [])
      × (i < length then.validators) × (activation then i ≡ x)
  -- "No close lowers the finalized epoch"
  pub kept : (before since later : List Event) → events ≡ before ++ since ++ later
      → finalized_epoch_of (standing start before) ≤ finalized_epoch_of (standing start (before ++ since))
  -- "where one changes the finalized checkpoint it becomes one of the two checkpoints justified before that close, one to three epochs back";
  -- "The two justified checkpoints are the previous and the current justified one that the close was handed; epochs back count from its epoch"
  pub changed : (before later : List Event) (e : Event) → events ≡ before ++ e ∷ later
      → let f = (standing start (before ++ e ∷ [])).finality.finalized_checkpoint in let was = e.opening.finality in
      f ≢ (standing start before).finality.finalized_checkpoint
      → ((f ≡ was.previous_justified_checkpoint) ⊎ (f ≡ was.current_justified_checkpoint))
      × (f.epoch + 1 ≤ e.epoch) × (e.epoch ≤ f.epoch + 3)
