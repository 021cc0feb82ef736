-- Document 01, "What is returned": what a close hands back and what the closing buffers hold, by the number that it answers.
use Rattle.std.specs.Prelude.{◌≡◌, List, [], ◌∷◌, ◌⊎◌, ℕ}
use Rattle.definitions.specs.Record.{BeaconState, encode, decode}
use Rattle.definitions.specs.Checked.{Checked, value, refused}
use Rattle.definitions.specs.declared.Refusal.{Refusal}
use Rattle.definitions.specs.Refusals.{closing_buffer}
use Rattle.definitions.specs.Raised.{none_raised, raised_totals}
use Rattle.definitions.specs.Close.{Call, close, closed}

abbrev pub OneOf : ℕ → List ℕ → Type 0
OneOf n [] = ⊥
OneOf n (x ∷ xs) = (n ≡ x) ⊎ OneOf n xs

-- 0
pub record Accepted (c : Call) : Type 0 where
  pub state : BeaconState
  pub gave : closed c ≡ value state
  pub finality : (close c).finality ≡ state.finality
  pub raised : (close c).raised ≡ raised_totals c.rules.settings c.finality.slot (decode c.registry)
  pub registry : (close c).closing_registry ≡ encode state.validators
  pub slashings : (close c).closing_slashings ≡ state.slashings

-- 1, 2 and 3: the closing buffers as they were lent
pub record Untouched (c : Call) : Type 0 where
  pub finality : (close c).finality ≡ c.finality
  pub raised : (close c).raised ≡ none_raised
  pub registry : (close c).closing_registry ≡ c.closing_registry
  pub slashings : (close c).closing_slashings ≡ c.closing_slashings

-- 4 and 5: the opening's
pub record Opening (c : Call) : Type 0 where
  pub finality : (close c).finality ≡ c.finality
  pub raised : (close c).raised ≡ none_raised
  pub registry : (close c).closing_registry ≡ c.registry
  pub slashings : (close c).closing_slashings ≡ c.slashings

pub record Restored (c : Call) : Type 0 where
  pub number : OneOf (close c).refusal (0 ∷ 1 ∷ 2 ∷ 3 ∷ 4 ∷ 5 ∷ [])
  pub accepted : (close c).refusal ≡ 0 → Accepted c
  pub untouched : OneOf (close c).refusal (1 ∷ 2 ∷ 3 ∷ []) → Untouched c
  pub opening : OneOf (close c).refusal (4 ∷ 5 ∷ []) → Opening c

-- the closing buffer of a step
pub record StepBuffer {A : Type 0} (contents : A → List ℕ) (tests : Checked (Unit {0})) (work : Checked A) (opening closing : List ℕ) : Type 0 where
  pub untouched : (r : Refusal) → tests ≡ refused r → closing_buffer contents tests work opening closing ≡ closing
  pub restored : (r : Refusal) → tests ≡ value tt → work ≡ refused r → closing_buffer contents tests work opening closing ≡ opening
  pub done : (a : A) → tests ≡ value tt → work ≡ value a → closing_buffer contents tests work opening closing ≡ contents a
