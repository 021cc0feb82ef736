-- How the call ends.
use mathlib.Core.Path.{◌≡◌, sym, ap, ◌∙◌}
use mathlib.Core.Bool.{Bool, true, ◌&&◌}
use mathlib.Core.List.{List, [], ◌∷◌}
use Prim.Native.Nat.{ℕ, ◌≤◌, ◌<◌}
use Rattle.definitions.specs.Checked.{Checked, value, refused, number_of, bind}
use Rattle.definitions.specs.declared.Refusal.{Refusal}
use Rattle.definitions.specs.Record.{Validator}
use Rattle.definitions.specs.Refusals.{after_tests}
use Rattle.definitions.specs.Rust.Phase0.Helpers.{get_block_root}
use Rattle.laws.proofs.Checked.{not_value, value_same, refused_same, bind-bind}
use Rattle.laws.proofs.Tests.{and_both, and_false}
use Rattle.arithmetic.proofs.Laws.{bind-value, bind-refused}
use Rattle.definitions_votes.specs.Exact.{Ballot, current_of, previous_of, is_found, root_found, roots_found, Outcome}
use Rattle.definitions_votes.specs.Votes.{votes}
use Rattle.definitions_votes.specs.declared.VotesAnswer.{VotesAnswer}
use Rattle.definitions_votes.specs.Answers.{verdict_number, first_three, turned_away, votes_answer_for}
use Rattle.votes.specs.declared.vote_sums.VoteSums.{VoteSums}
use Rattle.votes.specs.declared.vote_outcome.OutcomeNumbers.{OutcomeNumbers}
use Rattle.votes.specs.Epochs.{four, epochs_for, numbers_of, numbers_for}
use Rattle.votes.specs.Laws.{NoRootAlone}
use Rattle.votes.specs.Sums.{Counted}
use Rattle.votes.specs.Weighed.{weighed_numbers}
use Rattle.votes.proofs.Weighed.{votes-early, votes-missing, numbers_by_sums, votes-over}

abbrev pub lookup : Ballot → ℕ → Checked (List ℕ)
lookup b epoch = get_block_root b.settings b.roots b.finality.slot epoch

-- the pass's sums, where its two epochs are known by another name
pub counted-at : {current previous current' previous' : ℕ} {marks : List ℕ} {vs : List Validator} {r : Checked VoteSums} → current ≡ current' → previous ≡ previous' → Counted current previous marks vs r → Counted current' previous' marks vs r
counted-at e d h = rw (e, d) at h

module _ (b : Ballot) where
  ends : {p q : Refusal} → votes b ≡ refused q → p ≡ q → {r : Checked OutcomeNumbers} → r ≡ refused p → r ≡ numbers_for (votes b)
  ends e w h = h ∙ ap refused w ∙ sym (bind-refused _ e)

  pub ends-early : current_of b ≤ 1 → value (record { epochs = four 1 b.finality.finalized_checkpoint.epoch 0 0; previous_target = 0; current_target = 0 }) ≡ numbers_for (votes b)
  unfolding epochs_for verdict_number
  ends-early h = sym (bind-value _ (votes-early b h))

  module _ (l : 1 < current_of b) (n : NoRootAlone b.settings b.roots b.finality) where
    pub ends-lost : {p : Refusal} → lookup b (previous_of b) ≡ refused p → {r : Checked OutcomeNumbers} → r ≡ refused p → r ≡ numbers_for (votes b)
    ends-lost e =
        let f = ap is_found e in
        ends (votes-missing b l (ap (λ (t : Bool). t && root_found b (current_of b)) f)) (refused_same (sym e ∙ n.previous f))

    module _ {before : List ℕ} (e : lookup b (previous_of b) ≡ value before) where
      pub ends_lost_2 : {p : Refusal} → lookup b (current_of b) ≡ refused p → {r : Checked OutcomeNumbers} → r ≡ refused p → r ≡ numbers_for (votes b)
      ends_lost_2 f =
          let g = ap is_found f in
          ends (votes-missing b l (rw g (and_false (root_found b (previous_of b))))) (refused_same (sym f ∙ n.current g))

      module _ {now : List ℕ} (f : lookup b (current_of b) ≡ value now) {c : Checked VoteSums} (g : Counted (current_of b) (previous_of b) b.marks b.validators c) where
        both : roots_found b ≡ true
        both = and_both (ap is_found e) (ap is_found f)

        pub ends-over : {p : Refusal} → c ≡ refused p → {r : Checked OutcomeNumbers} → r ≡ refused p → r ≡ numbers_for (votes b)
        ends-over {p} k = ends (votes-over b l both (g.over p k)) (g.why p k)

        pub ends-told : {t : VoteSums} → c ≡ value t → {r : Checked OutcomeNumbers} → r ≡ weighed_numbers b.settings b.finality (current_of b) t → r ≡ numbers_for (votes b)
        ends-told {t} k h = h ∙ sym (numbers_by_sums b l both t (g.given t k))

-- The answer from the numbers

abbrev answer_of : OutcomeNumbers → VotesAnswer
answer_of o =
    record { refusal = 0; count = o.epochs.count; finalized_epochs = o.epochs.first ∷ o.epochs.second ∷ o.epochs.third ∷ []; previous_target = o.previous_target; current_target = o.current_target }

given : (m : Checked Outcome) {o : OutcomeNumbers} → numbers_for m ≡ value o → answer_of o ≡ votes_answer_for m
unfolding bind epochs_for first_three
given (value x) e = ap answer_of (sym (value_same e))
given (refused p) e = absurd (not_value e)

lost : (m : Checked Outcome) {p : Refusal} → numbers_for m ≡ refused p → turned_away (number_of p) ≡ votes_answer_for m
unfolding bind
lost (value x) e = absurd (not_value (sym e))
lost (refused q) e = ap (λ (r : Refusal). turned_away (number_of r)) (sym (refused_same e))

module _ (tests : Checked (Unit {0})) (work : Checked Outcome) {r : Checked OutcomeNumbers} (h : r ≡ after_tests tests (numbers_for work)) where
  numbers-after : numbers_for (after_tests tests work) ≡ r
  unfolding after_tests
  numbers-after = bind-bind tests (λ _. work) (λ o. value (numbers_of o)) ∙ sym h

  pub answer-given : {o : OutcomeNumbers} → r ≡ value o → answer_of o ≡ votes_answer_for (after_tests tests work)
  answer-given e = given (after_tests tests work) (numbers-after ∙ e)

  pub answer-lost : {p : Refusal} {x : ℕ} → r ≡ refused p → x ≡ number_of p → turned_away x ≡ votes_answer_for (after_tests tests work)
  answer-lost e n = ap turned_away n ∙ lost (after_tests tests work) (numbers-after ∙ e)
