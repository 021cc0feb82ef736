-- The five sums of a ballot: those active, and each target's weight with no unknown flag set and with all set.
use Rattle.std.specs.Prelude.{◌≡◌, Bool, cond, List, map, ℕ}
use Rattle.definitions.specs.Checked.{Checked, value, refused, bind, add64, sum64}
use Rattle.definitions.specs.declared.Refusal.{Refusal}
use Rattle.definitions.specs.declared.Refusal.TheVariants.{Overflow}
use Rattle.definitions.specs.Record.{Validator}
use Rattle.definitions.specs.Rust.Phase0.Helpers.{is_active_validator}
use Rattle.definitions.specs.Rust.Altair.Helpers.{is_unslashed_participating}
use Rattle.definitions_votes.specs.Filling.{Filling, none_set, all_set, filled_one, filled}
use Rattle.votes.specs.declared.vote_sums.VoteSums.{VoteSums}

-- a validator's weight where it passes a test
abbrev pub weight : (Validator → Bool) → Validator → ℕ
weight p v = cond (p v) v.effective_balance 0

abbrev pub active_at : ℕ → Validator → Bool
active_at epoch v = is_active_validator v epoch

abbrev pub hits_target : ℕ → ℕ → Validator → Bool
hits_target current epoch v = is_unslashed_participating current 1 epoch v

-- one validator's own part of each sum
abbrev pub vote_sums_of : ℕ → ℕ → ℕ → Validator → VoteSums
vote_sums_of current previous mark v =
    let least = filled_one mark (none_set 0) v in
    let full = filled_one mark (all_set 0) v in
    record {
      active = weight (active_at current) least;
      previous_fewest = weight (hits_target current previous) least;
      previous_most = weight (hits_target current previous) full;
      current_fewest = weight (hits_target current current) least;
      current_most = weight (hits_target current current) full;
    }

unfoldable pub added_to : VoteSums → VoteSums → Checked VoteSums
added_to t own =
    bind (add64 t.active own.active) (λ a.
    bind (add64 t.previous_fewest own.previous_fewest) (λ pf.
    bind (add64 t.previous_most own.previous_most) (λ pm.
    bind (add64 t.current_fewest own.current_fewest) (λ cf.
    bind (add64 t.current_most own.current_most) (λ cm.
    value (record { active = a; previous_fewest = pf; previous_most = pm; current_fewest = cf; current_most = cm }))))))

-- the plain sum of a weight over the registry that a filling makes
abbrev pub sum_in : (Validator → Bool) → List ℕ → Filling → List Validator → Checked ℕ
sum_in p marks f vs = sum64 (map (weight p) (filled marks f vs))

-- t holds the plain sums, none of which leaves 64 bits
pub record PlainSums (current previous : ℕ) (marks : List ℕ) (vs : List Validator) (t : VoteSums) : Type 0 where
  pub active : sum_in (active_at current) marks none_set vs ≡ value t.active
  pub previous_fewest : sum_in (hits_target current previous) marks none_set vs ≡ value t.previous_fewest
  pub previous_most : sum_in (hits_target current previous) marks all_set vs ≡ value t.previous_most
  pub current_fewest : sum_in (hits_target current current) marks none_set vs ≡ value t.current_fewest
  pub current_most : sum_in (hits_target current current) marks all_set vs ≡ value t.current_most

-- the answer of the pass: the sums, or refused where there are none
pub record Counted (current previous : ℕ) (marks : List ℕ) (vs : List Validator) (r : Checked VoteSums) : Type 0 where
  pub given : (t : VoteSums) → r ≡ value t → PlainSums current previous marks vs t
  pub why : (p : Refusal) → r ≡ refused p → p ≡ Overflow
  pub over : (p : Refusal) → r ≡ refused p → (t : VoteSums) → PlainSums current previous marks vs t → ⊥
