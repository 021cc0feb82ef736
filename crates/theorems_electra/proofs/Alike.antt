-- Two checked values that both are values, which R relates, or both refused under one number.
use mathlib.Core.Path.{◌≡◌, refl}
use mathlib.Core.Bool.{Bool, true, false, cond}
use mathlib.Core.List.{List, [], ◌∷◌}
use Rattle.definitions.specs.Checked.{Checked, value, refused, bind, fold_checked}

abbrev Both : {A B : Type 0} → (A → B → Type 0) → Checked A → Checked B → Type 0
Both R (value a) (value b) = R a b
Both R (value a) (refused q) = ⊥
Both R (refused p) (value b) = ⊥
Both R (refused p) (refused q) = p ≡ q

pub record Alike {A B : Type 0} (R : A → B → Type 0) (m : Checked A) (n : Checked B) : Type 0 where
  pub both : Both R m n

module _ {A B C D : Type 0} {S : C → D → Type 0} where
  pub alike-bind : {R : A → B → Type 0} {k : A → Checked C} {l : B → Checked D} (m : Checked A) (n : Checked B) → Alike R m n → ((a : A) (b : B) → R a b → Alike S (k a) (l b)) → Alike S (bind m k) (bind n l)
  unfolding bind
  alike-bind (value a) (value b) h f = f a b h.both
  alike-bind (value a) (refused q) h f = absurd h.both
  alike-bind (refused p) (value b) h f = absurd h.both
  alike-bind (refused p) (refused q) h f = record { both = h.both }

-- after the same
pub alike_then : {A C D : Type 0} {S : C → D → Type 0} {k : A → Checked C} {l : A → Checked D} (m : Checked A) → ((a : A) → Alike S (k a) (l a)) → Alike S (bind m k) (bind m l)
unfolding bind
alike_then (value a) f = f a
alike_then (refused p) f = record { both = refl }

pub alike-cond : {A B : Type 0} {R : A → B → Type 0} (t : Bool) {m m' : Checked A} {n n' : Checked B} → Alike R m n → Alike R m' n' → Alike R (cond t m m') (cond t n n')
alike-cond true h k = h
alike-cond false h k = k

pub alike_fold : {A B X : Type 0} {R : A → B → Type 0} {f : A → X → Checked A} {g : B → X → Checked B} → ((a : A) (b : B) (x : X) → R a b → Alike R (f a x) (g b x)) → (a : A) (b : B) (xs : List X) → R a b → Alike R (fold_checked f a xs) (fold_checked g b xs)
unfolding fold_checked
alike_fold t a b [] h = record { both = h }
alike_fold t a b (x ∷ xs) h = alike-bind _ _ (t a b x h) (λ c d k. alike_fold t c d xs k)
