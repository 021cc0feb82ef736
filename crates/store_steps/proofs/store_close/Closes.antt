-- A close with a store, from the answer that its rules were asked with.
use mathlib.Core.Path.{◌≡◌, ap}
use Rattle.definitions.specs.declared.Raised.{Raised}
use Rattle.definitions.specs.Raised.{none_raised}
use Rattle.definitions_close.specs.FullClose.{full_close}
use Rattle.definitions_close.specs.declared.RulesAnswer.{RulesAnswer}
use Rattle.definitions_close.specs.Store.{rules_answer_for}
use Rattle.definitions_close.specs.StoreClose.{StoreCall, call_by, rules_for, turned_away, close_by, store_close}
use Rattle.definitions_close.specs.Calls.{full_outcome}
use Rattle.store.proofs.store_rules.Given.{rules-given, rules-turned}

module _ (c : StoreCall) {a : RulesAnswer} (e : a ≡ rules_answer_for (rules_for c)) where
  pub turned-away : {raised : Raised} → raised ≡ none_raised → (a.refusal ≡ 0 → ⊥) → full_outcome (record { refusal = a.refusal; finality = c.finality; queue = c.queue; raised = raised; test = 0 }) c.closing_registry c.closing_slashings c.amounts ≡ store_close c
  unfolding store_close close_by
  turned-away none z =
      let t = rules-turned (rules_for c) e z in
      rw (none, t.is) (ap (turned_away c) t.said)

  pub closed-by : a.refusal ≡ 0 → full_close (call_by c a.rules) ≡ store_close c
  unfolding store_close close_by
  closed-by z = rw (rules-given (rules_for c) e z)
