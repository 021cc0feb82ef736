-- process_rewards_and_penalties in the Rust's own order: four whole lists of deltas are worked out, then applied list by list. The
-- checked form of definitions goes validator by validator; `SameByLists` says that it is the same.
use Rattle.std.specs.Prelude.{◌≡◌, cond, List, [], ◌∷◌, ℕ, ◌<◌, eqb, length, get_or}
use Rattle.definitions.specs.declared.Settings.{Settings}
use Rattle.definitions.specs.declared.Deltas.{Deltas}
use Rattle.definitions.specs.Record.{Validator, GENESIS_EPOCH, nobody}
use Rattle.definitions.specs.Checked.{Checked, value, bind, map_checked, fold_checked}
use Rattle.definitions.specs.Rust.Phase0.Helpers.{get_current_epoch, get_previous_epoch}
use Rattle.definitions.specs.Rust.Altair.Helpers as OfOne
use Rattle.definitions.specs.Rust.Altair.Helpers.{TIMELY_SOURCE_FLAG_INDEX, TIMELY_TARGET_FLAG_INDEX, TIMELY_HEAD_FLAG_INDEX, no_deltas, flag_totals, flag_index_deltas}
use Rattle.definitions.specs.Rust.Altair.EpochProcessing as ByValidator
use Rattle.definitions.specs.Rust.Altair.EpochProcessing.{apply_delta}

-- A loop over two lists together that stops at the first refusal

unfoldable pub zip_checked : {A B : Type 0} → (A → B → Checked A) → List A → List B → Checked (List A)
zip_checked f [] ys = value []
zip_checked f (x ∷ xs) [] = value []
zip_checked f (x ∷ xs) (y ∷ ys) = bind (f x y) (λ z. bind (zip_checked f xs ys) (λ zs. value (z ∷ zs)))

-- altair/helpers.rs 265: rewards and penalties of a flag, of every validator
unfoldable pub get_flag_index_deltas : Settings → ℕ → ℕ → List Validator → ℕ → Checked (List Deltas)
get_flag_index_deltas s state_slot finalized_epoch vs flag_index =
    bind (flag_totals s state_slot finalized_epoch vs flag_index) (λ t.
    map_checked (flag_index_deltas s (get_current_epoch s state_slot) (get_previous_epoch s state_slot) flag_index t) vs)

-- altair/helpers.rs 316
unfoldable pub get_inactivity_penalty_deltas : Settings → ℕ → ℕ → List Validator → Checked (List Deltas)
get_inactivity_penalty_deltas s quotient state_slot vs = map_checked (OfOne.get_inactivity_penalty_deltas s quotient state_slot) vs

-- altair/epoch_processing.rs 157
unfoldable pub process_rewards_and_penalties : Settings → ℕ → ℕ → ℕ → List Validator → Checked (List Validator)
process_rewards_and_penalties s quotient state_slot finalized_epoch vs =
    let flag_deltas = get_flag_index_deltas s state_slot finalized_epoch vs in
    cond (eqb (get_current_epoch s state_slot) GENESIS_EPOCH) (value vs)
    (bind (flag_deltas TIMELY_SOURCE_FLAG_INDEX) (λ source.
    bind (flag_deltas TIMELY_TARGET_FLAG_INDEX) (λ target.
    bind (flag_deltas TIMELY_HEAD_FLAG_INDEX) (λ head.
    bind (get_inactivity_penalty_deltas s quotient state_slot vs) (λ inactivity.
    fold_checked (zip_checked apply_delta) vs (source ∷ target ∷ head ∷ inactivity ∷ []))))))

abbrev pub SameByLists : Type 0
SameByLists = (s : Settings) (quotient state_slot finalized_epoch : ℕ) (vs : List Validator) → process_rewards_and_penalties s quotient state_slot finalized_epoch vs ≡ ByValidator.process_rewards_and_penalties s quotient state_slot finalized_epoch vs

-- The two leaves answer for one validator: where the Rust's function gives its lists, what stands there for that validator
pub record LeavesOfOne (s : Settings) (vs : List Validator) : Type 0 where
  pub flag : (state_slot finalized_epoch flag_index : ℕ) (ds : List Deltas) → get_flag_index_deltas s state_slot finalized_epoch vs flag_index ≡ value ds → (i : ℕ) → i < length vs → OfOne.get_flag_index_deltas s state_slot finalized_epoch vs flag_index (get_or vs i nobody) ≡ value (get_or ds i no_deltas)
  pub inactivity : (quotient state_slot : ℕ) (ds : List Deltas) → get_inactivity_penalty_deltas s quotient state_slot vs ≡ value ds → (i : ℕ) → i < length vs → OfOne.get_inactivity_penalty_deltas s quotient state_slot (get_or vs i nobody) ≡ value (get_or ds i no_deltas)
