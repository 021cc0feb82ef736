-- What the close hands back and what its closing buffers hold are the definition's.
use mathlib.Core.Path.{◌≡◌, refl, sym, ap, ◌∙◌, subst}
use mathlib.Core.List.{List}
use Prim.Native.Nat.{ℕ}
use Rattle.definitions.specs.declared.Settings.{Settings}
use Rattle.definitions.specs.declared.ActivationLimit.TheVariants.{Churn}
use Rattle.definitions.specs.declared.Rules.{Rules}
use Rattle.definitions.specs.declared.Raised.{Raised}
use Rattle.definitions.specs.declared.CloseAnswer.{CloseAnswer}
use Rattle.definitions.specs.declared.Refusal.{Refusal}
use Rattle.definitions.specs.Checked.{value, refused, number_of, bind}
use Rattle.definitions.specs.Refusals.{after_tests, closing_buffer}
use Rattle.definitions.specs.Raised.{was_raised, none_raised, raised_totals, raised_unless_refused}
use Rattle.definitions.specs.Record.{Validator, decode}
use Rattle.definitions.specs.Rules.{settings_under}
use Rattle.definitions.specs.Rust.Phase0.Helpers.{compute_epoch_at_slot, get_current_epoch, get_previous_epoch}
use Rattle.definitions.specs.Rust.Altair.Helpers.{get_unslashed_participating_indices}
use Rattle.laws.proofs.Rules.{by-fork}
use Rattle.definitions.specs.Close.{Call, Outcome, state_of, close_tests, closed, close, process_epoch}
use Rattle.close.specs.Called.{outcome}
use Rattle.close.specs.Worked.{StepsClosed}

same_outcome : {o p : Outcome} → o.refusal ≡ p.refusal → o.finality ≡ p.finality → o.raised ≡ p.raised → o.closing_registry ≡ p.closing_registry → o.closing_slashings ≡ p.closing_slashings → o ≡ p
same_outcome a b n c d = λ i. record { refusal = a i; finality = b i; raised = n i; closing_registry = c i; closing_slashings = d i }

-- which totals were raised is the same under either fork
pub raised-under : (r : Rules) (state_slot : ℕ) (vs : List Validator) → raised_totals (settings_under r) state_slot vs ≡ raised_totals r.settings state_slot vs
unfolding raised_totals was_raised get_current_epoch get_previous_epoch compute_epoch_at_slot get_unslashed_participating_indices
raised-under r state_slot vs = by-fork r (λ t. raised_totals t state_slot vs ≡ raised_totals r.settings state_slot vs) refl refl

module _ (c : Call) where
  -- a test refused
  pub tests-refused : {p : Refusal} {n : ℕ} {none : Raised} → close_tests c ≡ refused p → n ≡ number_of p → none ≡ none_raised → outcome (record { refusal = n; finality = c.finality; raised = none }) c.closing_registry c.closing_slashings ≡ close c
  unfolding close closed after_tests bind closing_buffer raised_unless_refused
  tests-refused is number none = same_outcome (rw is number) (rw is) (rw is none) (rw is) (rw is)

  -- none did
  pub steps-closed : close_tests c ≡ value tt → {s : Settings} → settings_under c.rules ≡ s → {registry slashings : List ℕ} {r : CloseAnswer} → StepsClosed Churn s (state_of c) c.registry c.closing_registry c.closing_slashings registry slashings r → outcome r registry slashings ≡ close c
  unfolding close closed after_tests bind
  steps-closed t under {registry} {slashings} {r} by-settings =
      let w = subst (λ u. StepsClosed Churn u (state_of c) c.registry c.closing_registry c.closing_slashings registry slashings r) (sym under) by-settings in
      let work = process_epoch (settings_under c.rules) (state_of c) in
      same_outcome (rw t w.code) (rw t w.finality) (rw t (w.raised ∙ ap (raised_unless_refused work) (raised-under c.rules c.finality.slot (decode c.registry)))) (rw t w.registry) (rw t w.slashings)
