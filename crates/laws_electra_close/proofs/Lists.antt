-- Places of lists.
use mathlib.Core.Path.{◌≡◌, refl}
use mathlib.Core.List.{List, [], ◌∷◌}
use Prim.Native.Nat.{ℕ, zero, suc, ◌≤◌, ◌<◌}
use native.Mathlib.Omega.{arith}
use lib.ListN.{length, get_or, set, replicate}

-- what the one put in the place keeps of the one that stood there, every place keeps
pub set_keeps : {A : Type 0} (R : A → A → Type 0) → ((x : A) → R x x) → (d : A) (xs : List A) (j : ℕ) (y : A) → R (get_or xs j d) y → (i : ℕ) → R (get_or xs i d) (get_or (set xs j y) i d)
set_keeps R same d [] j y h i = same d
set_keeps R same d (x ∷ xs) zero y h zero = h
set_keeps R same d (x ∷ xs) zero y h (suc i) = same (get_or xs i d)
set_keeps R same d (x ∷ xs) (suc j) y h zero = same x
set_keeps R same d (x ∷ xs) (suc j) y h (suc i) = set_keeps R same d xs j y h i

pub zeros : (n i : ℕ) → ◌≡◌ {A = ℕ} (get_or (replicate n 0) i 0) 0
zeros zero i = refl
zeros (suc n) zero = refl
zeros (suc n) (suc i) = zeros n i

-- the default does not matter
pub any_default : {A : Type 0} (xs : List A) (i : ℕ) (d e : A) → i < length xs → get_or xs i d ≡ get_or xs i e
any_default [] i d e l = absurd (omega arith)
any_default (x ∷ xs) zero d e l = refl
any_default (x ∷ xs) (suc i) d e l = any_default xs i d e (omega arith)

-- nobody stands behind the end
pub beyond : {A : Type 0} (xs : List A) (i : ℕ) (d : A) → length xs ≤ i → get_or xs i d ≡ d
beyond [] i d l = refl
beyond (x ∷ xs) zero d l = absurd (omega arith)
beyond (x ∷ xs) (suc i) d l = beyond xs i d (omega arith)

-- eight numbers each, and zeros behind them
pub eight-all : (es : List (List ℕ)) → ((i : ℕ) → i < length es → length (get_or es i []) ≡ 8) → (i : ℕ) → length (get_or es i (replicate 8 0)) ≡ 8
eight-all [] h i = refl
eight-all (e ∷ es) h zero = h 0 (omega arith)
eight-all (e ∷ es) h (suc i) = eight-all es (λ j l. h (suc j) (omega arith)) i
