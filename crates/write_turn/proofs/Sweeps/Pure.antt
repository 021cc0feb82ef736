-- One pass with two functions gives what two passes give, where both refuse only by 5.
use mathlib.Core.Path.{◌≡◌, refl}
use mathlib.Core.List.{List, [], ◌∷◌, map}
use Rattle.definitions.specs.Checked.{Checked, value, refused, bind, map_checked}
use Rattle.definitions.specs.Record.{Validator}
use Rattle.arithmetic.proofs.Operations.{OnlyOverflow, only-value, only-bind, refused-after}
use Rattle.write_turn.specs.Runs.{both}

pub only-map : {A : Type 0} {f : A → Checked A} → ((x : A) → OnlyOverflow (f x)) → (xs : List A) → OnlyOverflow (map_checked f xs)
unfolding map_checked
only-map h [] = only-value []
only-map h (x ∷ xs) = only-bind (h x) (λ y. only-bind (only-map h xs) (λ ys. only-value (y ∷ ys)))

-- a plain map is a pass that is never refused
pub map-value : {A : Type 0} (g : A → A) (xs : List A) → map_checked (λ x. value (g x)) xs ≡ value (map g xs)
unfolding map_checked bind
map-value g [] = refl
map-value g (x ∷ xs) = rw (map-value g xs)

module _ {f g : Validator → Checked Validator} (of : (v : Validator) → OnlyOverflow (f v)) (og : (v : Validator) → OnlyOverflow (g v)) where
  pub fused : (vs : List Validator) → map_checked (both f g) vs ≡ bind (map_checked f vs) (map_checked g)
  unfolding map_checked bind
  fused [] = refl
  fused (x ∷ xs) = rw (fused xs) (first (f x) refl)
    where
      rest : (y : Validator) (m : Checked (List Validator)) → OnlyOverflow m → bind (g y) (λ z. bind (bind m (map_checked g)) (λ zs. value (z ∷ zs))) ≡ bind (bind m (λ ys. value (y ∷ ys))) (map_checked g)
      rest y (value ys) o = refl
      rest y (refused p) o = rw (o.why p refl) (refused-after (og y) (λ z. refl))

      first : (m : Checked Validator) → f x ≡ m → bind (bind m g) (λ z. bind (bind (map_checked f xs) (map_checked g)) (λ zs. value (z ∷ zs))) ≡ bind (bind m (λ y. bind (map_checked f xs) (λ ys. value (y ∷ ys)))) (map_checked g)
      first (value y) e = rest y (map_checked f xs) (only-map of xs)
      first (refused p) e = refl
