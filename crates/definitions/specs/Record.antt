-- The record that a close is handed and hands back. Document 01, "From BeaconState to lent columns".
use Rattle.std.specs.Prelude.{Bool, List, [], ◌∷◌, ◌++◌, ℕ, zero, suc, ◌/◌, eqb, length, get_or, drop}
use Rattle.definitions.specs.declared.Finality.{Finality}

-- phase0/validator.rs without keys and credentials, then the validator's place in the columns of altair/beacon_state.rs
pub record Validator : Type 0 where
  pub effective_balance : ℕ
  pub slashed : ℕ
  pub activation_eligibility_epoch : ℕ
  pub activation_epoch : ℕ
  pub exit_epoch : ℕ
  pub withdrawable_epoch : ℕ
  pub balance : ℕ
  pub previous_epoch_participation : ℕ
  pub current_epoch_participation : ℕ
  pub inactivity_score : ℕ

-- altair/beacon_state.rs, as far as the eight steps read or write it; 32 bytes a root in «block_roots»
pub record BeaconState : Type 0 where
  pub finality : Finality
  pub validators : List Validator
  pub slashings : List ℕ
  pub block_roots : List ℕ

-- FAR_FUTURE_EPOCH, 2^64 - 1, which means none
abbrev pub FAR_FUTURE_EPOCH : ℕ
FAR_FUTURE_EPOCH = 18446744073709551615

abbrev pub GENESIS_EPOCH : ℕ
GENESIS_EPOCH = 0

abbrev pub is_slashed : Validator → Bool
is_slashed v = eqb v.slashed 1

-- The registry: ten numbers a validator

abbrev pub decode_one : List ℕ → Validator
decode_one e =
    record {
      effective_balance = get_or e 0 0;
      slashed = get_or e 1 0;
      activation_eligibility_epoch = get_or e 2 0;
      activation_epoch = get_or e 3 0;
      exit_epoch = get_or e 4 0;
      withdrawable_epoch = get_or e 5 0;
      balance = get_or e 6 0;
      previous_epoch_participation = get_or e 7 0;
      current_epoch_participation = get_or e 8 0;
      inactivity_score = get_or e 9 0;
    }

abbrev pub encode_one : Validator → List ℕ
encode_one v =
    v.effective_balance ∷
    v.slashed ∷
    v.activation_eligibility_epoch ∷
    v.activation_epoch ∷
    v.exit_epoch ∷
    v.withdrawable_epoch ∷
    v.balance ∷
    v.previous_epoch_participation ∷
    v.current_epoch_participation ∷
    v.inactivity_score ∷
    []

unfoldable pub encode : List Validator → List ℕ
encode [] = []
encode (v ∷ vs) = encode_one v ++ encode vs

-- the first n
unfoldable pub decode_first : ℕ → List ℕ → List Validator
decode_first zero xs = []
decode_first (suc n) xs = decode_one xs ∷ decode_first n (drop 10 xs)

unfoldable pub decode : List ℕ → List Validator
decode xs = decode_first (length xs / 10) xs

-- what stands past the end of the registry
abbrev pub nobody : Validator
nobody = decode_one []
