-- What the close hands back and what the lent lists hold are the definition's.
use mathlib.Core.Path.{◌≡◌, refl, sym, ap, subst, ◌∙◌}
use mathlib.Core.List.{List}
use Prim.Native.Nat.{ℕ}
use Rattle.definitions.specs.declared.Settings.{Settings}
use Rattle.definitions.specs.declared.ActivationLimit.{ActivationLimit}
use Rattle.definitions.specs.declared.Rules.{Rules}
use Rattle.definitions.specs.declared.Finality.{Finality}
use Rattle.definitions.specs.declared.FullAnswer.{FullAnswer}
use Rattle.definitions.specs.declared.Refusal.{Refusal}
use Rattle.definitions.specs.Checked.{Checked, value, refused, number_of, bind}
use Rattle.definitions.specs.Refusals.{after_tests, closing_buffer}
use Rattle.definitions.specs.Raised.{raised_unless_refused}
use Rattle.definitions.specs.Record.{decode}
use Rattle.definitions.specs.Rules.{settings_under}
use Rattle.definitions.specs.Rust.Phase0.Helpers.{compute_epoch_at_slot, get_current_epoch}
use Rattle.definitions.specs.Close.{state_of, limited_epoch}
use Rattle.definitions_close.specs.Amounts.{limited_closing_amounts}
use Rattle.definitions_close.specs.FinalizingTest.{finalizing_test}
use Rattle.definitions_close.specs.FullClose.{FullCall, FullOutcome, limited_full_tests, limited_fully_closed, closing_queue, limited_full_close}
use Rattle.laws.proofs.Rules.{by-fork}
use Rattle.close.proofs.Outcome.{raised-under}
use Rattle.full_close.specs.Called.{unclosed}
use Rattle.definitions_close.specs.Calls.{full_outcome}
use Rattle.full_close.specs.Worked.{FullWorked}

same_outcome : {o p : FullOutcome} → o.refusal ≡ p.refusal → o.finality ≡ p.finality → o.queue ≡ p.queue → o.raised ≡ p.raised → o.test ≡ p.test → o.closing_registry ≡ p.closing_registry → o.closing_slashings ≡ p.closing_slashings → o.amounts ≡ p.amounts → o ≡ p
same_outcome a b q n t c d m =
    λ i. record { refusal = a i; finality = b i; queue = q i; raised = n i; test = t i; closing_registry = c i; closing_slashings = d i; amounts = m i }

-- the test's number is the same under either fork
test-under : (r : Rules) (old : Finality) (m : Checked Finality) → finalizing_test (settings_under r) old m ≡ finalizing_test r.settings old m
unfolding finalizing_test get_current_epoch compute_epoch_at_slot
test-under r old (value f) = by-fork r (λ t. finalizing_test t old (value f) ≡ finalizing_test r.settings old (value f)) refl refl
test-under r old (refused p) = refl

module _ (by : ActivationLimit) (c : FullCall) where
  -- a test refused
  pub full_tests-refused : {p : Refusal} → limited_full_tests by c ≡ refused p → {answer : FullAnswer} → answer ≡ unclosed (number_of p) c.call.finality c.queue → full_outcome answer c.call.closing_registry c.call.closing_slashings c.amounts ≡ limited_full_close by c
  unfolding limited_full_close limited_fully_closed after_tests bind closing_buffer limited_closing_amounts closing_queue finalizing_test raised_unless_refused
  full_tests-refused p {answer} is =
      same_outcome (rw p (ap (λ (a : FullAnswer). a.refusal) is)) (rw p (ap (λ (a : FullAnswer). a.finality) is)) (rw p (ap (λ (a : FullAnswer). a.queue) is)) (rw p (ap (λ (a : FullAnswer). a.raised) is)) (rw p (ap (λ (a : FullAnswer). a.test) is)) (rw p) (rw p) (rw p)

  -- none did
  pub full_steps_closed : limited_full_tests by c ≡ value tt → {s : Settings} → settings_under c.call.rules ≡ s → {registry slashings amounts : List ℕ} {r : FullAnswer} → FullWorked by s (state_of c.call) c.queue c.call.registry c.call.closing_registry c.call.closing_slashings c.amounts registry slashings amounts r → full_outcome r registry slashings amounts ≡ limited_full_close by c
  unfolding limited_full_close limited_fully_closed after_tests bind
  full_steps_closed t under {registry} {slashings} {amounts} {r} by-settings =
      let st = state_of c.call in
      let w = subst (λ u. FullWorked by u st c.queue c.call.registry c.call.closing_registry c.call.closing_slashings c.amounts registry slashings amounts r) (sym under) by-settings in
      let work = limited_epoch by (settings_under c.call.rules) st in
      same_outcome (rw t w.code) (rw t w.finality) (rw t w.queue)
      (rw t (w.raised ∙ ap (raised_unless_refused work) (raised-under c.call.rules c.call.finality.slot (decode c.call.registry))))
      (rw t (w.test ∙ test-under c.call.rules c.call.finality (bind work (λ after. value after.finality))))
      (rw t w.registry) (rw t w.slashings) (rw t w.filled)
