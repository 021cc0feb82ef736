-- A call with a store, from the answer that its rules were asked with.
use mathlib.Core.Bool.{Bool, true, false, cond, ◌&&◌}
use mathlib.Core.List.{List}
use mathlib.Core.Path.{◌≡◌, refl, sym, ap, ◌∙◌}
use Prim.Native.Nat.{ℕ, ◌+◌, ◌≤◌, ◌<◌}
use native.Mathlib.Omega.{arith}
use borrow.Author.Tests.{eq-eqb, ne_eqb, eqb-true, le-leb, lt-leb}
use lib.Dec.{leb, eqb}
use Rattle.definitions.specs.declared.Rules.{Rules}
use Rattle.definitions.specs.declared.Refusal.{Refusal}
use Rattle.definitions.specs.Checked.{Checked, value, refused, number_of}
use Rattle.definitions_close.specs.declared.RunningAnswer.{RunningAnswer}
use Rattle.definitions_close.specs.CloseBySteps.{in_turn, ended_by, unwritten, close_step}
use Rattle.definitions_close.specs.Orders.{carry_out}
use Rattle.definitions_close.specs.declared.RulesAnswer.{RulesAnswer}
use Rattle.definitions_close.specs.Store.{Store, entries, rules_answer_for}
use Rattle.definitions_close.specs.StoreClose.{rules_at_slot, rules_for}
use Rattle.definitions_close.specs.StoreSteps.{StoreStepCall, step_by, step_of, store_so_far, store_found, step_refused, store_step_by, store_step, StoreNinthCall, ninth_by, ninth_rules, carry_by, store_carry_out}
use Rattle.close_by_steps.specs.Called.{ended_answer}
use Rattle.definitions_close.specs.Calls.{step_outcome, ninth_outcome}
use Rattle.laws.proofs.Tests.{in_order-value}
use Rattle.refusals.proofs.Answers.{after-passed, after-refused}
use Rattle.store.specs.Answers.{turned_away}
use Rattle.store.proofs.Passed.{StorePassed, store-shaped}
use Rattle.store.proofs.store_rules.Given.{rules-given, rules-turned}
use Rattle.store_steps.specs.Called.{first_step, later_step, ninth_tests_with, ninth_rules_with}

-- the first eight calls

module _ (c : StoreStepCall) where
  by-rules : (m : Checked Rules) {a : RulesAnswer} → a ≡ rules_answer_for m → a.refusal ≡ 0 → close_step (step_by c a.rules) ≡ store_step_by c m
  unfolding store_step_by
  by-rules m e z = rw (rules-given m e z)

  module _ {a : RulesAnswer} (e : a ≡ rules_answer_for (rules_for c.whole)) where
    pub first_by : a.refusal ≡ 0 → close_step (step_by c a.rules) ≡ first_step c
    unfolding first_step
    first_by z = by-rules (rules_for c.whole) e z

    pub first-turned : c.running.done ≡ 0 → (a.refusal ≡ 0 → ⊥) → {answer : RunningAnswer} → answer ≡ ended_answer a.refusal c.whole.finality c.whole.queue 0 → step_outcome answer c.whole.closing_registry c.whole.closing_slashings c.whole.amounts ≡ first_step c
    unfolding first_step store_step_by step_refused unwritten ended_by
    first-turned d z h =
        let t = rules-turned (rules_for c.whole) e z in
        rw (h, t.is, eq-eqb c.running.done 0 d)
        (ap (λ (n : ℕ). step_outcome (ended_answer n c.whole.finality c.whole.queue 0) c.whole.closing_registry c.whole.closing_slashings c.whole.amounts) t.said)

  module _ {a : RulesAnswer} (e : a ≡ rules_answer_for (rules_for (store_so_far c.running c.whole))) where
    pub later-by : a.refusal ≡ 0 → close_step (step_by c a.rules) ≡ later_step c
    unfolding later_step
    later-by z = by-rules (rules_for (store_so_far c.running c.whole)) e z

    pub later-turned : 1 ≤ c.running.done → (a.refusal ≡ 0 → ⊥) → step_outcome (record { refusal = a.refusal; ended = 0; running = c.running }) c.whole.closing_registry c.whole.closing_slashings c.whole.amounts ≡ later_step c
    unfolding later_step store_step_by step_refused unwritten
    later-turned l z =
        let t = rules-turned (rules_for (store_so_far c.running c.whole)) e z in
        rw (t.is, ne_eqb c.running.done 0 (λ d. omega (arith, d, l)))
        (ap (λ (n : ℕ). step_outcome (record { refusal = n; ended = 0; running = c.running }) c.whole.closing_registry c.whole.closing_slashings c.whole.amounts) t.said)

pub late : (number done : ℕ) → 7 < done → (eqb number (done + 1) && leb number 8) ≡ false
late number done l = go (eqb number (done + 1)) refl
  where
    go : (t : Bool) → eqb number (done + 1) ≡ t → (t && leb number 8) ≡ false
    go true e = lt-leb number 8 (omega (arith, eqb-true number (done + 1) e, l))
    go false e = refl

pub timely : (number done : ℕ) → done ≤ 7 → eqb number (done + 1) ≡ (eqb number (done + 1) && leb number 8)
timely number done l = go (eqb number (done + 1)) refl
  where
    go : (t : Bool) → eqb number (done + 1) ≡ t → t ≡ (t && leb number 8)
    go true e = sym (le-leb number 8 (omega (arith, eqb-true number (done + 1) e, l)))
    go false e = refl

module _ (c : StoreStepCall) (n : c.running.done ≡ 9 → ⊥) where
  pub out_of_turn : in_turn (step_of c) ≡ false → step_outcome (record { refusal = 1; ended = 0; running = c.running }) c.whole.closing_registry c.whole.closing_slashings c.whole.amounts ≡ store_step c
  unfolding store_step unwritten
  out_of_turn t = rw (ne_eqb c.running.done 9 n, t)

  in_turn_lem : in_turn (step_of c) ≡ true → store_step_by c (rules_for (store_found c)) ≡ store_step c
  unfolding store_step
  in_turn_lem t = rw (ne_eqb c.running.done 9 n, t)

  pub first : in_turn (step_of c) ≡ true → c.running.done ≡ 0 → first_step c ≡ store_step c
  unfolding first_step store_found
  first t d = ap (λ (b : Bool). store_step_by c (rules_for (cond b c.whole (store_so_far c.running c.whole)))) (sym (eq-eqb c.running.done 0 d)) ∙ in_turn_lem t

  pub later : in_turn (step_of c) ≡ true → (c.running.done ≡ 0 → ⊥) → later_step c ≡ store_step c
  unfolding later_step store_found
  later t d = ap (λ (b : Bool). store_step_by c (rules_for (cond b c.whole (store_so_far c.running c.whole)))) (sym (ne_eqb c.running.done 0 d)) ∙ in_turn_lem t

-- the ninth

module _ (store : Store) (period count : ℕ) (registry orders answers : List ℕ) {x : Checked (Unit {0})} (e : x ≡ ninth_tests_with store period count registry orders answers) where
  pub with-passed : x ≡ value tt → StorePassed store
  unfolding ninth_tests_with
  with-passed z =
      let q = in_order-value _ _ _ (sym e ∙ z) in
      record { shape = store-shaped store (q.shaped 0); entries-good = q.settings 0 }

  module _ (slot : ℕ) where
    pub with-refused : {p : Refusal} → x ≡ refused p → {n : ℕ} → n ≡ number_of p → turned_away n ≡ rules_answer_for (ninth_rules_with store period slot count registry orders answers)
    unfolding ninth_rules_with
    with-refused z told = rw (after-refused (ninth_tests_with store period count registry orders answers) (rules_at_slot slot (entries store)) e z, told)

    pub with-rules : x ≡ value tt → ninth_rules_with store period slot count registry orders answers ≡ rules_at_slot slot (entries store)
    unfolding ninth_rules_with
    with-rules z = after-passed _ _ e z

pub ninth-with : (c : StoreNinthCall) → ninth_rules_with c.store c.period c.running.answer.finality.slot c.running.orders c.closing_registry c.orders c.answers ≡ ninth_rules c
unfolding ninth_rules_with ninth_tests_with ninth_rules
ninth-with c = refl

module _ (c : StoreNinthCall) {a : RulesAnswer} (e : a ≡ rules_answer_for (ninth_rules c)) (d : c.running.done ≡ 8) where
  not_ended : eqb c.running.done 9 ≡ false
  not_ended = ne_eqb c.running.done 9 (λ e. omega (arith, d, e))

  pub ninth-turned : (a.refusal ≡ 0 → ⊥) → ninth_outcome (record { refusal = a.refusal; ended = 0; running = c.running }) c.closing_registry c.answers ≡ store_carry_out c
  unfolding store_carry_out carry_by
  ninth-turned z =
      let t = rules-turned (ninth_rules c) e z in
      rw (not_ended, eq-eqb c.running.done 8 d, t.is) (ap (λ (n : ℕ). ninth_outcome (record { refusal = n; ended = 0; running = c.running }) c.closing_registry c.answers) t.said)

  pub ninth-by : a.refusal ≡ 0 → carry_out (ninth_by c a.rules) ≡ store_carry_out c
  unfolding store_carry_out carry_by
  ninth-by z = rw (not_ended, eq-eqb c.running.done 8 d, rules-given (ninth_rules c) e z)
