-- Two lists of tests one after the other.
use mathlib.Core.Bool.{Bool, true, false, ◌&&◌}
use mathlib.Core.Path.{◌≡◌, refl}
use mathlib.Core.List.{List, [], ◌∷◌, ◌++◌}
use Rattle.definitions.specs.Lists.{every}
use Rattle.definitions.specs.Refusals.{in_order}

every_append : (xs ys : List Bool) → every (every xs ∷ every ys ∷ []) ≡ every (xs ++ ys)
unfolding every
every_append [] ys = both (every ys)
  where
    both : (b : Bool) → (b && true) ≡ b
    both true = refl
    both false = refl
every_append (true ∷ xs) ys = every_append xs ys
every_append (false ∷ xs) ys = refl

pub in_halves : (xs ys settings recorded : List Bool) → in_order (every xs ∷ every ys ∷ []) settings recorded ≡ in_order (xs ++ ys) settings recorded
unfolding in_order
in_halves xs ys settings recorded = rw (every_append xs ys)
