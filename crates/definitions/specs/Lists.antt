-- Plain functions on lists that the library leaves out.
use Rattle.std.specs.Prelude.{Bool, true, cond, ◌&&◌, List, [], ◌∷◌, ℕ, zero, suc, ◌+◌, max}

-- those that pass a test, in their order
unfoldable pub filter : {A : Type 0} → (A → Bool) → List A → List A
filter p [] = []
filter p (x ∷ xs) = let rest = filter p xs in cond (p x) (x ∷ rest) rest

-- whether every one passes
unfoldable pub all : {A : Type 0} → (A → Bool) → List A → Bool
all p [] = true
all p (x ∷ xs) = p x && all p xs

-- whether each of them holds
unfoldable pub every : List Bool → Bool
every [] = true
every (t ∷ ts) = t && every ts

unfoldable pub sum : List ℕ → ℕ
sum [] = 0
sum (x ∷ xs) = x + sum xs

-- the largest of `least` and the list
unfoldable pub maximum : ℕ → List ℕ → ℕ
maximum least [] = least
maximum least (x ∷ xs) = max x (maximum least xs)

-- n numbers from k on: `range 0 n` is 0, 1, .. n - 1
unfoldable pub range : ℕ → ℕ → List ℕ
range k zero = []
range k (suc n) = k ∷ range (suc k) n

-- in the order of `before`, by insertion
unfoldable pub insert : (ℕ → ℕ → Bool) → ℕ → List ℕ → List ℕ
insert before x [] = x ∷ []
insert before x (y ∷ ys) = let later = insert before x ys in cond (before x y) (x ∷ y ∷ ys) (y ∷ later)

unfoldable pub sorted : (ℕ → ℕ → Bool) → List ℕ → List ℕ
sorted before [] = []
sorted before (x ∷ xs) = insert before x (sorted before xs)
