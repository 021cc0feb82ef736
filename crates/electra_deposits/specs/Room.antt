-- Those whom the deposits add, behind the validators that stand in front: a registry buffer with room for every deposit's validator, and a table of
-- the new keys. proofs/Joined.antt: they are the text's.
use Rattle.std.specs.Prelude.{◌≡◌, Bool, false, cond, List, [], ◌∷◌, ◌++◌, ℕ, ◌+◌, ◌-◌, ◌/◌, ◌%◌, min, ltb, eqb, length, get_or, take, drop, set}
use Rattle.definitions.specs.Lists.{all, range}
use Rattle.definitions.specs.Record.{Validator, FAR_FUTURE_EPOCH, encode, decode, nobody}
use Rattle.definitions.specs.Checked.{Checked, value, bind}
use Rattle.definitions.specs.Refusals.{settings_from}
use Rattle.definitions.specs.Rust.Phase0.Helpers.{increase_balance}
use Rattle.definitions_electra.specs.declared.ElectraRules.{ElectraRules}
use Rattle.definitions_electra.specs.declared.PendingDeposit.{PendingDeposit}
use Rattle.definitions_electra.specs.Record.{Registry, decode_deposits}
use Rattle.definitions_electra.specs.Loops.{fold_until_checked}
use Rattle.definitions_electra.specs.Evaluated.Electra.EpochProcessing.{apply_pending_deposit}
use Rattle.electra_deposits.specs.declared.adding.NewNumbers.{NewNumbers}

-- N + D places, of which the first `count` are validators; and D numbers, for each key from N on: 0, or one more than its validator's place
pub record Room : Type 0 where
  pub buffer : List Validator
  pub compounding : List ℕ
  pub places : List ℕ
  pub count : ℕ

-- a new key's validator: 0 where there is none, else one more than its place. n is N, how many stand in front
abbrev pub place_by : ℕ → List ℕ → ℕ → ℕ
place_by n places key = get_or places (key - n) 0

-- a validator at the end; `new` makes it of its deposit
unfoldable pub appended : (PendingDeposit → Validator) → ℕ → Room → PendingDeposit → Room
appended new n m d =
    record {
      buffer = set m.buffer m.count (new d);
      compounding = set m.compounding m.count d.compounding;
      places = set m.places (d.pubkey - n) (m.count + 1);
      count = m.count + 1;
    }

abbrev pub with_buffer : List Validator → Room → Room
with_buffer vs m = record { buffer = vs; compounding = m.compounding; places = m.places; count = m.count }

-- apply_pending_deposit, by the key's place
unfoldable pub apply_at : (PendingDeposit → Validator) → ℕ → Room → ℕ → PendingDeposit → Checked Room
apply_at new n m place d =
    cond (eqb place 0) (value (cond (eqb d.valid 1) (appended new n m d) m))
    (bind (increase_balance (get_or m.buffer (place - 1) nobody) d.amount) (λ v. value (with_buffer (set m.buffer (place - 1) v) m)))

-- a key of those in front is done
unfoldable pub join_at : (PendingDeposit → Validator) → ℕ → Room → PendingDeposit → Checked Room
join_at new n m d = cond (ltb d.pubkey n) (value m) (apply_at new n m (place_by n m.places d.pubkey) d)

-- By numbers and lent lists

-- a new validator, by its effective balance and its balance
abbrev pub new_validator : ℕ → ℕ → Validator
new_validator effective amount =
    record {
      effective_balance = effective;
      slashed = 0;
      activation_eligibility_epoch = FAR_FUTURE_EPOCH;
      activation_epoch = FAR_FUTURE_EPOCH;
      exit_epoch = FAR_FUTURE_EPOCH;
      withdrawable_epoch = FAR_FUTURE_EPOCH;
      balance = amount;
      previous_epoch_participation = 0;
      current_epoch_participation = 0;
      inactivity_score = 0;
    }

-- the increment, and the largest effective balance of a plain and of a compounding validator
abbrev pub effective_by : NewNumbers → PendingDeposit → ℕ
effective_by k d = min (d.amount - d.amount % k.increment) (cond (eqb d.compounding 1) k.most_compounding k.most)

abbrev pub new_by : NewNumbers → PendingDeposit → Validator
new_by k d = new_validator (effective_by k d) d.amount

abbrev pub room_of : List ℕ → List ℕ → List ℕ → ℕ → Room
room_of xs cs ps count = record { buffer = decode xs; compounding = cs; places = ps; count = count }

pub record Held (m : Room) (xs cs ps : List ℕ) : Type 0 where
  pub buffer : xs ≡ encode m.buffer
  pub compounding : cs ≡ m.compounding
  pub places : ps ≡ m.places

-- how many there are, or why it is refused, and where it is not the lent lists
pub record Applies (m : Checked Room) (xs cs ps : List ℕ) (r : Checked ℕ) : Type 0 where
  pub is : r ≡ bind m (λ a. value a.count)
  pub held : (a : Room) → m ≡ value a → Held a xs cs ps

-- rules with the numbers that the loop reads, and zeros
abbrev pub rules_by : NewNumbers → ℕ → ElectraRules
rules_by k most =
    record {
      settings = settings_from (0 ∷ 0 ∷ 0 ∷ k.increment ∷ []);
      bellatrix = record { inactivity_penalty_quotient_bellatrix = 0; proportional_slashing_multiplier_bellatrix = 0 };
      electra = record {
        min_activation_balance = k.most;
        max_effective_balance_electra = k.most_compounding;
        min_per_epoch_churn_limit_electra = 0;
        max_per_epoch_activation_exit_churn_limit = 0;
        max_pending_deposits_per_epoch = most;
      };
    }

-- every key is below n and the number of deposits
unfoldable pub keyed : ℕ → List ℕ → Bool
keyed n deposits = all (λ d. ltb d.pubkey (n + length deposits / 5)) (decode_deposits deposits)

-- the registry that the buffers open with: the first n
abbrev pub opening : ℕ → List ℕ → List ℕ → Registry
opening n xs cs = record { validators = take n (decode xs); pubkeys = range 0 n; compounding = take n cs }

-- deposits with keys from n on, all applied
unfoldable pub joins : ElectraRules → ℕ → Registry → PendingDeposit → Checked Registry
joins r n reg d = cond (ltb d.pubkey n) (value reg) (apply_pending_deposit r reg d)

unfoldable pub joined : ElectraRules → ℕ → Registry → List PendingDeposit → Checked Registry
joined r n reg ds = fold_until_checked (λ b d. false) (joins r n) reg ds

-- what the buffers hold: a registry, and behind it what stood there
pub record Holds (xs₀ cs₀ : List ℕ) (reg : Registry) (xs cs : List ℕ) (many : ℕ) : Type 0 where
  pub registry : xs ≡ encode (reg.validators ++ drop many (decode xs₀))
  pub compounding : cs ≡ reg.compounding ++ drop many cs₀
  pub count : many ≡ length reg.pubkeys

-- where none of them is refused
pub record Added (m : Checked Registry) (xs₀ cs₀ xs cs : List ℕ) (many : ℕ) : Type 0 where
  pub holds : (reg : Registry) → m ≡ value reg → Holds xs₀ cs₀ reg xs cs many
