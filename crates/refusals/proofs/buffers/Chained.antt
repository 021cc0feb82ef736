-- Numbers that a step works out before its loop over the registry.
use mathlib.Core.Path.{◌≡◌, sym, ◌∙◌}
use mathlib.Core.List.{List}
use Prim.Native.Nat.{ℕ}
use Rattle.definitions.specs.Record.{Validator}
use Rattle.definitions.specs.Checked.{Checked, value, refused, bind}
use Rattle.definitions.specs.declared.Refusal.{Refusal}
use Rattle.arithmetic.proofs.Laws.{bind-value, bind-refused}
use Rattle.laws.specs.Ran.{Ran}
use Rattle.laws.proofs.Loops.Ran.{ran-refused}

module _ {A : Type 0} {m : Checked A} (k : A → Checked (List Validator)) {n : Checked A} {xs : List ℕ} where
  -- the number is x, and the step goes on with it
  pub ran-given : {x : A} {r : Checked (Unit {0})} → n ≡ m → n ≡ value x → Ran (k x) xs r → Ran (bind m k) xs r
  ran-given h e t = rw (bind-value k (sym h ∙ e)) t

  pub ran_over : {p : Refusal} → n ≡ m → n ≡ refused p → Ran (bind m k) xs (refused p)
  ran_over h e = ran-refused (bind-refused k (sym h ∙ e))

-- `search (rules, chained)`, under `unfolding` the step, proves what it returns
pub ruleset chained = (ran-given, ran_over)
