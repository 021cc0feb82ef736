-- What the first call, and a later one, come to once their tests have passed.
use mathlib.Core.Path.{◌≡◌, refl, sym, ap, ◌∙◌}
use mathlib.Core.List.{List}
use Prim.Native.Nat.{ℕ, ◌+◌}
use lib.ListN.{length, replicate}
use Rattle.definitions.specs.declared.Settings.{Settings}
use Rattle.definitions.specs.declared.Finality.{Finality}
use Rattle.definitions.specs.declared.ExitQueue.{ExitQueue}
use Rattle.definitions.specs.declared.CloseAnswer.{CloseAnswer}
use Rattle.definitions.specs.declared.FullAnswer.{FullAnswer}
use Rattle.definitions.specs.Record.{BeaconState, encode, decode}
use Rattle.definitions.specs.declared.Refusal.{Refusal}
use Rattle.definitions.specs.Checked.{Checked, value, refused, number_of, bind, settle}
use Rattle.definitions.specs.Checked as checked
use Rattle.definitions.specs.ExitQueue.{queue_of}
use Rattle.definitions.specs.Raised.{raised_totals, raised_unless_refused, close_answer_for}
use Rattle.definitions.specs.Refusals.{after_tests}
use Rattle.definitions.specs.Close.{step}
use Rattle.definitions_close.specs.FinalizingTest.{finalizing_test}
use Rattle.definitions_close.specs.declared.RunningAnswer.{RunningAnswer}
use Rattle.definitions_close.specs.CloseBySteps.{StepOutcome, step_after, amounts_by}
use Rattle.laws.proofs.Checked.{number_not_zero, not_value, refused_same}
use Rattle.laws.proofs.Encode.{decode-encode}
use Rattle.close_by_steps.specs.Later.{LaterRan}
use Rattle.close_by_steps.specs.Called.{ended_answer, first_by, later_by, later_of}
use Rattle.registry_close.specs.Worked.{state_now}
use Rattle.definitions_close.specs.Calls.{step_outcome}

module _ (s : Settings) (f : Finality) (q : ExitQueue) (registry slashings lent : List ℕ) (tests : Checked (Unit {0})) (m : Checked Finality) (passed : tests ≡ value tt) {j : CloseAnswer}
    (e : j ≡ close_answer_for (after_tests tests m) f (raised_totals s f.slot (decode registry))) {closing closing_slashings amounts : List ℕ}
    (r : closing ≡ registry) (l : closing_slashings ≡ slashings) (z : amounts ≡ replicate (length lent) 0) where
  abbrev by : Checked Finality → CloseAnswer
  by w = close_answer_for w f (raised_totals s f.slot (decode registry))

  told : j ≡ by m
  unfolding after_tests bind
  told = e ∙ rw passed

  pub first-refused : (j.refusal ≡ 0 → ⊥) → {answer : RunningAnswer} → answer ≡ ended_answer j.refusal f q 0 → step_outcome answer closing closing_slashings amounts ≡ first_by s f q registry slashings lent m
  unfolding first_by raised_unless_refused
  first-refused n {answer} h = rw (h, r, l, z) (go m told)
    where
      go : (w : Checked Finality) → j ≡ by w → step_outcome (ended_answer j.refusal f q 0) registry slashings (replicate (length lent) 0) ≡ first_by s f q registry slashings lent w
      go (value g) k = absurd (n (ap (λ (a : CloseAnswer). a.refusal) k))
      go (refused p) k = ap (λ (x : ℕ). step_outcome (ended_answer x f q 0) registry slashings (replicate (length lent) 0)) (ap (λ (a : CloseAnswer). a.refusal) k)

  pub first_goes : j.refusal ≡ 0 → {test : ℕ} → test ≡ finalizing_test s f (value j.finality) → step_outcome (record { refusal = 0; ended = 0; running = record { done = 1; answer = record { refusal = 0; finality = j.finality; queue = q; raised = j.raised; test = test }; orders = 0 } }) closing closing_slashings amounts ≡ first_by s f q registry slashings lent m
  unfolding first_by raised_unless_refused
  first_goes n {test} h = rw (h, r, l, z) (go m told)
    where
      made : CloseAnswer → StepOutcome
      made a = step_outcome (record { refusal = 0; ended = 0; running = record { done = 1; answer = record { refusal = 0; finality = a.finality; queue = q; raised = a.raised; test = finalizing_test s f (value a.finality) }; orders = 0 } }) registry slashings (replicate (length lent) 0)

      go : (w : Checked Finality) → j ≡ by w → made j ≡ first_by s f q registry slashings lent w
      go (value g) k = ap made k
      go (refused p) k = absurd (number_not_zero p (sym (ap (λ (a : CloseAnswer). a.refusal) k) ∙ n))

-- a later one
module _ (done : ℕ) (s : Settings) (so_far : FullAnswer) (orders : ℕ) (f : Finality) (q : ExitQueue) (registry slashings roots before before_slashings lent : List ℕ) {closing closing_slashings amounts : List ℕ} {x : Checked (Unit {0})}
    (h : LaterRan done s (state_now so_far.finality before before_slashings roots) lent closing closing_slashings amounts x) where
  abbrev st : BeaconState
  st = state_now so_far.finality before before_slashings roots

  pub later-refused : {p : Refusal} → x ≡ refused p → {a b c : List ℕ} → a ≡ registry → b ≡ slashings → c ≡ replicate (length amounts) 0 → length amounts ≡ length lent → {number : ℕ} → number ≡ number_of p → {answer : RunningAnswer} → answer ≡ ended_answer number f q orders → step_outcome answer a b c ≡ later_of done s so_far orders f q registry slashings roots before before_slashings lent
  unfolding later_by
  later-refused {p} n {a} {b} {c} i j k l {number} told {answer} y = rw (y, i, j, k, l, told) (go (step s st (step_after done)) (sym n ∙ h.is))
    where
      go : (w : Checked BeaconState) → refused p ≡ checked.done w → step_outcome (ended_answer (number_of p) f q orders) registry slashings (replicate (length lent) 0) ≡ later_by done so_far orders f q registry slashings lent (settle (amounts_by (step_after done) s st lent) (replicate (length lent) 0)) w
      go (value after) e = absurd (not_value e)
      go (refused r) e = ap (λ (u : Refusal). step_outcome (ended_answer (number_of u) f q orders) registry slashings (replicate (length lent) 0)) (refused_same e)

  pub later-goes : x ≡ value tt → {after : ExitQueue} → after ≡ queue_of (decode closing) → step_outcome (record { refusal = 0; ended = 0; running = record { done = done + 1; answer = record { refusal = 0; finality = so_far.finality; queue = after; raised = so_far.raised; test = so_far.test }; orders = orders } }) closing closing_slashings amounts ≡ later_of done s so_far orders f q registry slashings roots before before_slashings lent
  unfolding later_by
  later-goes n {after} y = go (step s st (step_after done)) refl
    where
      made : Finality → ExitQueue → List ℕ → List ℕ → List ℕ → StepOutcome
      made g y a b c = step_outcome (record { refusal = 0; ended = 0; running = record { done = done + 1; answer = record { refusal = 0; finality = g; queue = y; raised = so_far.raised; test = so_far.test }; orders = orders } }) a b c

      go : (w : Checked BeaconState) → step s st (step_after done) ≡ w → step_outcome (record { refusal = 0; ended = 0; running = record { done = done + 1; answer = record { refusal = 0; finality = so_far.finality; queue = after; raised = so_far.raised; test = so_far.test }; orders = orders } }) closing closing_slashings amounts ≡ later_by done so_far orders f q registry slashings lent (settle (amounts_by (step_after done) s st lent) (replicate (length lent) 0)) w
      go (value next) e =
          let k = h.held next e in
          let pair = y ∙ ap (λ (xs : List ℕ). queue_of (decode xs)) k.0 ∙ ap queue_of (decode-encode next.validators) in
          ap (λ (g : Finality). made g after closing closing_slashings amounts) (sym k.2)
          ∙ ap (λ (y : ExitQueue). made next.finality y closing closing_slashings amounts) pair
          ∙ ap (λ (xs : List ℕ). made next.finality (queue_of next.validators) xs closing_slashings amounts) k.0
          ∙ ap (λ (xs : List ℕ). made next.finality (queue_of next.validators) (encode next.validators) xs amounts) k.1
          ∙ ap (made next.finality (queue_of next.validators) (encode next.validators) next.slashings) k.3
      go (refused p) e = absurd (not_value (sym (ap checked.done e) ∙ sym h.is ∙ n))
