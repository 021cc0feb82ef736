-- What a full close hands back and what the lent lists hold, by the number that it answers: document 01's table, with what R-4 and R-8 add.
use Rattle.std.specs.Prelude.{◌≡◌, [], ◌∷◌, ℕ, ◌+◌, ◌*◌, ◌/◌, ◌<◌, length, replicate}
use Rattle.definitions.specs.declared.ActivationLimit.{ActivationLimit}
use Rattle.definitions.specs.declared.ActivationLimit.TheVariants.{Churn}
use Rattle.definitions.specs.Record.{BeaconState, encode, decode}
use Rattle.definitions.specs.Checked.{value}
use Rattle.definitions.specs.Raised.{none_raised}
use Rattle.definitions.specs.ExitQueue.{queue_of}
use Rattle.definitions.specs.Close.{state_of, Outcome, limited_tests, limited_epoch}
use Rattle.agreement.specs.Restored.{OneOf}
use Rattle.definitions_close.specs.Amounts.{limited_amounts}
use Rattle.definitions_close.specs.FinalizingTest.{finalizing_test}
use Rattle.laws_close.specs.Nine.{nine_of, rewards_in, taken_in, balance_at}
use Rattle.definitions_close.specs.FullClose.{FullCall, settings_of, FullOutcome, limited_full_close}
use Rattle.theorems.specs.Completeness.Calls.{outcome_by}

-- the outcome less the pair, the test and the amounts
abbrev pub plain_outcome : FullOutcome → Outcome
plain_outcome o =
    record {
      refusal = o.refusal;
      finality = o.finality;
      raised = o.raised;
      closing_registry = o.closing_registry;
      closing_slashings = o.closing_slashings;
    }

-- what a full close is lent besides: a list of amounts of its length, and the pair of its register
pub record Lent (c : FullCall) : Type 0 where
  pub long : length c.amounts ≡ 9 * (length c.call.registry / 10)
  pub queue : c.queue ≡ queue_of (decode c.call.registry)

-- 0
pub record LimitedAccepted (l : ActivationLimit) (c : FullCall) : Type 0 where
  -- R-8: "It is true of every record that a call accepts,
  pub lent : Lent c
  -- or hands back unrefused."
  pub queue : (limited_full_close l c).queue ≡ queue_of (decode (limited_full_close l c).closing_registry)
  pub state : BeaconState
  pub gave : limited_epoch l (settings_of c) (state_of c.call) ≡ value state
  pub finality : (limited_full_close l c).finality ≡ state.finality
  pub registry : (limited_full_close l c).closing_registry ≡ encode state.validators
  pub slashings : (limited_full_close l c).closing_slashings ≡ state.slashings
  pub test : (limited_full_close l c).test ≡ finalizing_test c.call.rules.settings c.call.finality (value (limited_full_close l c).finality)
  pub filled : limited_amounts l (settings_of c) (state_of c.call) ≡ value (limited_full_close l c).amounts
  -- R-4: "Opening balance plus rewards less amounts taken equals closing balance for each validator."
  pub equal : (i : ℕ) → i < length (decode c.call.registry) → let nine = nine_of (limited_full_close l c).amounts i in
      balance_at (decode c.call.registry) i + rewards_in nine ≡ balance_at (decode (limited_full_close l c).closing_registry) i + taken_in nine

-- 1, 2, 3 and 8: all that was lent stays
pub record LimitedUntouched (l : ActivationLimit) (c : FullCall) : Type 0 where
  pub finality : (limited_full_close l c).finality ≡ c.call.finality
  pub queue : (limited_full_close l c).queue ≡ c.queue
  pub raised : (limited_full_close l c).raised ≡ none_raised
  pub test : (limited_full_close l c).test ≡ 0
  pub registry : (limited_full_close l c).closing_registry ≡ c.call.closing_registry
  pub slashings : (limited_full_close l c).closing_slashings ≡ c.call.closing_slashings
  pub amounts : (limited_full_close l c).amounts ≡ c.amounts

-- 4 and 5: the opening's, and "zeros" in the list of amounts
pub record LimitedOpening (l : ActivationLimit) (c : FullCall) : Type 0 where
  pub lent : Lent c
  pub finality : (limited_full_close l c).finality ≡ c.call.finality
  pub queue : (limited_full_close l c).queue ≡ c.queue
  pub raised : (limited_full_close l c).raised ≡ none_raised
  pub test : (limited_full_close l c).test ≡ 0
  pub registry : (limited_full_close l c).closing_registry ≡ c.call.registry
  pub slashings : (limited_full_close l c).closing_slashings ≡ c.call.slashings
  pub amounts : (limited_full_close l c).amounts ≡ replicate (length c.amounts) 0

-- of every call
pub record LimitedByNumber (l : ActivationLimit) (c : FullCall) : Type 0 where
  pub number : OneOf (limited_full_close l c).refusal (0 ∷ 1 ∷ 2 ∷ 3 ∷ 8 ∷ 4 ∷ 5 ∷ [])
  pub accepted : (limited_full_close l c).refusal ≡ 0 → LimitedAccepted l c
  pub untouched : OneOf (limited_full_close l c).refusal (1 ∷ 2 ∷ 3 ∷ 8 ∷ []) → LimitedUntouched l c
  pub opening : OneOf (limited_full_close l c).refusal (4 ∷ 5 ∷ []) → LimitedOpening l c
  -- well lent, all but pair, test and amounts are by the tests without them, refused or not
  pub same : Lent c → plain_outcome (limited_full_close l c) ≡ outcome_by (limited_tests l c.call) c.call (limited_epoch l (settings_of c) (state_of c.call))

-- before Deneb
abbrev pub FullAccepted : FullCall → Type 0
FullAccepted = LimitedAccepted Churn

abbrev pub FullByNumber : FullCall → Type 0
FullByNumber = LimitedByNumber Churn
