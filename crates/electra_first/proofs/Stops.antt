-- A refusal on the way is the whole's.
use mathlib.Core.Path.{◌≡◌, sym, ap, ◌∙◌}
use Rattle.definitions.specs.Checked.{Checked, value, refused, bind}
use Rattle.definitions.specs.declared.Refusal.{Refusal}
use Rattle.laws.proofs.Checked.{not_value, refused_same}

-- what is worked out of a value is refused only where there is none
pub first-lost : {A B : Type 0} (m : Checked A) (g : A → B) {p : Refusal} → bind m (λ a. value (g a)) ≡ refused p → m ≡ refused p
unfolding bind
first-lost (value a) g e = absurd (not_value (sym e))
first-lost (refused q) g e = ap refused (refused_same e)

-- the chain's refusal is not a value
pub not_given : {A : Type 0} {m : Checked A} {p : Refusal} {a : A} → m ≡ refused p → m ≡ value a → ⊥
not_given e f = not_value (sym e ∙ f)
