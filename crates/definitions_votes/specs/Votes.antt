-- The same answer, worked out: from the registry with no unknown flag set and with all set.
use Rattle.std.specs.Prelude.{Bool, cond, List, [], ◌∷◌, ℕ, ◌+◌, ◌/◌, leb, ltb, eqb, length}
use Rattle.definitions.specs.declared.Settings.{Settings}
use Rattle.definitions.specs.declared.Finality.{Finality}
use Rattle.definitions.specs.Lists.{all}
use Rattle.definitions.specs.Record.{GENESIS_EPOCH, decode}
use Rattle.definitions.specs.Checked.{Checked, value, refused, bind}
use Rattle.definitions.specs.declared.Refusal.TheVariants.{NoRoot}
use Rattle.definitions.specs.Refusals.{in_order, settings_shaped, roots_shaped, registry_shaped, length_is, good_settings, good_finality, good_registry}
use Rattle.definitions.specs.Document.Phase0.EpochProcessing.{justified_bits, finalized_by}
use Rattle.definitions_votes.specs.Filling.{good_mark, none_set, all_set}
use Rattle.definitions_votes.specs.Exact.{Ballot, current_of, previous_of, test_of, roots_found, Verdict, none, some, every, Outcome, nothing_open}

-- the finalized epoch after the step, from its two tests
unfoldable pub finalized_after : ℕ → Finality → Bool → Bool → ℕ
finalized_after epoch old previous current = (finalized_by epoch (justified_bits previous current old.justification_bits) old).epoch

-- with no unknown flag set the fewest tests pass, with all set the most
unfoldable pub verdict : Bool → Bool → Verdict
verdict fewest most = cond fewest every (cond most some none)

unfoldable pub insert_rising : ℕ → List ℕ → List ℕ
insert_rising e [] = e ∷ []
insert_rising e (x ∷ xs) = let later = insert_rising e xs in cond (ltb e x) (e ∷ x ∷ xs) (cond (eqb e x) (x ∷ xs) (x ∷ later))

unfoldable pub sorted_once : List ℕ → List ℕ
sorted_once [] = []
sorted_once (e ∷ es) = insert_rising e (sorted_once es)

-- the two epochs' fillings are independent: four pairs of tests, some of them alike
unfoldable pub outcome_of : (Bool → Bool → ℕ) → Bool → Bool → Bool → Bool → Outcome
outcome_of after previous_fewest previous_most current_fewest current_most =
    record {
      epochs =
          sorted_once
          (after previous_fewest current_fewest ∷ after previous_fewest current_most ∷ after previous_most current_fewest ∷ after previous_most current_most ∷ []);
      previous = verdict previous_fewest previous_most;
      current = verdict current_fewest current_most;
    }

-- four tests; only 5 can arise, so that their order does not show
unfoldable pub weighed_votes : Ballot → Checked Outcome
weighed_votes b =
    bind (test_of b (previous_of b) all_set) (λ previous_most.
    bind (test_of b (current_of b) all_set) (λ current_most.
    bind (test_of b (previous_of b) none_set) (λ previous_fewest.
    bind (test_of b (current_of b) none_set) (λ current_fewest.
    value (outcome_of (finalized_after (current_of b) b.finality) previous_fewest previous_most current_fewest current_most)))))

unfoldable pub votes : Ballot → Checked Outcome
votes b =
    cond (leb (current_of b) (GENESIS_EPOCH + 1)) (value (nothing_open b))
    (cond (roots_found b) (weighed_votes b) (refused NoRoot))

-- Tests 1, 2 and 3: justification's, one mark a validator, and no mark over 3
unfoldable pub votes_tests : Settings → List ℕ → Finality → List ℕ → List ℕ → Checked (Unit {0})
votes_tests s roots f registry marks =
    let shaped = settings_shaped s ∷ roots_shaped s roots ∷ registry_shaped registry ∷ length_is (length registry / 10) marks ∷ [] in
    in_order shaped (good_settings s ∷ []) (good_finality f ∷ good_registry registry ∷ all good_mark marks ∷ [])

abbrev pub ballot_of : Settings → List ℕ → Finality → List ℕ → List ℕ → Ballot
ballot_of s roots f registry marks = record { settings = s; roots = roots; finality = f; validators = decode registry; marks = marks }
