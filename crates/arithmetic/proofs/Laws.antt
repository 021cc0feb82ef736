-- A chain of calls that answer: how it goes on, and where it stops.
use mathlib.Core.Bool.{true≢false}
use mathlib.Core.Path.{◌≡◌, sym, ap, ◌∙◌}
use Rattle.std.specs.Prelude.{IsErr, IsErrAnd}
use Rattle.definitions.specs.Checked.{Checked, value, refused, bind}
use Rattle.definitions.specs.declared.Refusal.{Refusal}

-- `?` hands the refusal on: `carried _ c.from_residual.ensures`
pub carried : {A : Type 0} (r : Checked A) {p : Refusal} → IsErr r × IsErrAnd r (λ q. q ≡ p) → r ≡ refused p
carried (value a) h = absurd (true≢false (sym h.0))
carried (refused q) h = ap refused h.1

module _ {A B : Type 0} {m : Checked A} (k : A → Checked B) where
  pub bind-value : {x : A} → m ≡ value x → bind m k ≡ k x
  unfolding bind
  bind-value e = rw e

  pub bind-refused : {p : Refusal} → m ≡ refused p → bind m k ≡ refused p
  unfolding bind
  bind-refused e = rw e

  -- One step of a chain, which answered r: it gave a value, and the rest of the chain goes on from it
  pub next : {r : Checked A} {s : Checked B} {x : A} → r ≡ m → r ≡ value x → s ≡ k x → s ≡ bind m k
  next h e u = u ∙ sym (bind-value (sym h ∙ e))

  -- it was refused, and so is the chain
  pub stop : {r : Checked A} {s : Checked B} {p : Refusal} → r ≡ m → r ≡ refused p → s ≡ refused p → s ≡ bind m k
  stop h e u = u ∙ sym (bind-refused (sym h ∙ e))

  -- by `?`
  pub passes-on : {r : Checked A} {s : Checked B} {p : Refusal} → r ≡ m → r ≡ refused p → IsErr s × IsErrAnd s (λ q. q ≡ p) → s ≡ bind m k
  passes-on h e t = stop h e (carried _ t)

-- `search (rules, chain)`, under `unfolding` the definition, proves what a chain returns; `depth 9` for seven steps
pub ruleset chain = (next, stop, passes-on)
