-- A value, or a refusal: the numbers of document 01, "What is returned", and of document 02; and 64-bit arithmetic that refuses.
use Rattle.std.specs.Prelude.{cond, List, [], ◌∷◌, ℕ, ◌+◌, ◌-◌, ◌*◌, ◌^◌, ltb, leb}
use Rattle.definitions.specs.Lists.{sum}
use Rattle.definitions.specs.declared.Refusal.{Refusal}
use Rattle.definitions.specs.declared.Refusal.TheVariants.{BadShape, BadSettings, BadRecord, NoRoot, Overflow, BadFile, SignedOverflow, WrongQueue, NoExit, TooEarly, FullList, LateStart, NoEntry, BeforeGenesis, NoSeconds}
pub use Rattle.std.specs.declared.result.Result.{Result}
pub use Rattle.std.specs.declared.result.Result.TheVariants.{Ok as value, Err as refused}

abbrev pub number_of : Refusal → ℕ
number_of BadShape = 1
number_of BadSettings = 2
number_of BadRecord = 3
number_of NoRoot = 4
number_of Overflow = 5
number_of BadFile = 6
number_of SignedOverflow = 7
number_of WrongQueue = 8
number_of NoExit = 9
number_of TooEarly = 10
number_of FullList = 11
number_of LateStart = 12
number_of NoEntry = 13
number_of BeforeGenesis = 14
number_of NoSeconds = 15

abbrev pub Checked : Type 0 → Type 0
Checked A = Result A Refusal

-- one after the other: the first refusal is the answer
unfoldable pub bind : {A B : Type 0} → Checked A → (A → Checked B) → Checked B
bind (value a) k = k a
bind (refused r) k = refused r

-- 0, or the refusal's number
abbrev pub code_of : {A : Type 0} → Checked A → ℕ
code_of (value a) = 0
code_of (refused r) = number_of r

-- whether it was refused, and by what: the value left out
abbrev pub done : {A : Type 0} → Checked A → Checked (Unit {0})
done (value a) = value tt
done (refused r) = refused r

-- the value, or what stood before
abbrev pub settle : {A : Type 0} → Checked A → A → A
settle (value a) before = a
settle (refused r) before = before

-- Refusal 5: "a sum, product or difference that is evaluated leaves 0 to 2^64 - 1"

unfoldable pub add64 : ℕ → ℕ → Checked ℕ
add64 a b = cond (ltb (a + b) (2 ^ 64)) (value (a + b)) (refused Overflow)

unfoldable pub sub64 : ℕ → ℕ → Checked ℕ
sub64 a b = cond (leb b a) (value (a - b)) (refused Overflow)

unfoldable pub mul64 : ℕ → ℕ → Checked ℕ
mul64 a b = cond (ltb (a * b) (2 ^ 64)) (value (a * b)) (refused Overflow)

-- A sum of many leaves 64 bits on the way exactly where it does at the end, in whatever order: agreement, Sums.antt.
unfoldable pub sum64 : List ℕ → Checked ℕ
sum64 xs = cond (ltb (sum xs) (2 ^ 64)) (value (sum xs)) (refused Overflow)

-- Loops that stop at the first refusal

unfoldable pub map_checked : {A B : Type 0} → (A → Checked B) → List A → Checked (List B)
map_checked f [] = value []
map_checked f (x ∷ xs) = bind (f x) (λ y. bind (map_checked f xs) (λ ys. value (y ∷ ys)))

unfoldable pub fold_checked : {A B : Type 0} → (B → A → Checked B) → B → List A → Checked B
fold_checked f b [] = value b
fold_checked f b (x ∷ xs) = bind (f b x) (λ c. fold_checked f c xs)
