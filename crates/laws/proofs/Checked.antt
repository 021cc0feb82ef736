-- What a value that came out of checked evaluation says of what went into it.
use mathlib.Core.Path.{◌≡◌, refl}
use mathlib.Core.Bool.{Bool, true, false, cond}
use mathlib.Core.List.{List, [], ◌∷◌, map, foldl}
use Prim.Native.Nat.{ℕ, ◌+◌, ◌-◌, ◌*◌, ◌^◌, ◌<◌}
use native.Mathlib.Omega.{arith}
use borrow.Author.Tests.{ltb-true}
use lib.Dec.{ltb}
use Rattle.definitions.specs.Lists.{sum}
use Rattle.definitions.specs.Checked.{number_of, Checked, value, refused, bind, add64, mul64, sum64, map_checked, fold_checked, settle}
use Rattle.definitions.specs.declared.Refusal.{Refusal}
use Rattle.definitions.specs.declared.Refusal.TheVariants.{BadShape, BadSettings, BadRecord, NoRoot, Overflow, BadFile, SignedOverflow, WrongQueue, NoExit, TooEarly, FullList, LateStart, NoEntry, BeforeGenesis, NoSeconds}
use Rattle.definitions.specs.Refusals.{closing_buffer}

-- 0 is no refusal's number: the one law that goes through them all
pub number_not_zero : (r : Refusal) → number_of r ≡ 0 → ⊥
number_not_zero BadShape e = omega arith
number_not_zero BadSettings e = omega arith
number_not_zero BadRecord e = omega arith
number_not_zero NoRoot e = omega arith
number_not_zero Overflow e = omega arith
number_not_zero BadFile e = omega arith
number_not_zero SignedOverflow e = omega arith
number_not_zero WrongQueue e = omega arith
number_not_zero NoExit e = omega arith
number_not_zero TooEarly e = omega arith
number_not_zero FullList e = omega arith
number_not_zero LateStart e = omega arith
number_not_zero NoEntry e = omega arith
number_not_zero BeforeGenesis e = omega arith
number_not_zero NoSeconds e = omega arith

pub not_value : {A : Type 0} {r : Refusal} {a : A} → refused r ≡ value a → ⊥
not_value p = let z : ◌≡◌ {A = ℕ} 0 1 = cc in omega arith

pub refused_same : {A : Type 0} {p q : Refusal} → ◌≡◌ {A = Checked A} (refused p) (refused q) → p ≡ q
refused_same p = cc

pub value_same : {A : Type 0} {a b : A} → ◌≡◌ {A = Checked A} (value a) (value b) → a ≡ b
value_same p = cc

-- both halves of a `bind` gave values
pub record Bound {A B : Type 0} (m : Checked A) (k : A → Checked B) (b : B) : Type 0 where
  pub first : A
  pub gave : m ≡ value first
  pub then : k first ≡ value b

pub bound : {A B : Type 0} (m : Checked A) (k : A → Checked B) {b : B} → bind m k ≡ value b → Bound m k b
unfolding bind
bound (value a) k p = record { first = a; gave = refl; then = p }
bound (refused r) k p = absurd (not_value p)

pub bind-bind : {A B C : Type 0} (m : Checked A) (k : A → Checked B) (l : B → Checked C) → bind (bind m k) l ≡ bind m (λ a. bind (k a) l)
unfolding bind
bind-bind (value a) k l = refl
bind-bind (refused r) k l = refl

-- a checked operation that gave a value gave the plain one
pub checked_value : {A : Type 0} {n x : A} (r : Refusal) (t : Bool) → cond t (value n) (refused r) ≡ value x → (t ≡ true) × (n ≡ x)
checked_value r true p = (refl, value_same p)
checked_value r false p = absurd (not_value p)

pub add64-value : (a b : ℕ) {x : ℕ} → add64 a b ≡ value x → a + b ≡ x
unfolding add64
add64-value a b p = (checked_value Overflow (ltb (a + b) (2 ^ 64)) p).1

pub add64-below : (a b : ℕ) {x : ℕ} → add64 a b ≡ value x → a + b < 2 ^ 64
unfolding add64
add64-below a b p = ltb-true (a + b) (2 ^ 64) (checked_value Overflow (ltb (a + b) (2 ^ 64)) p).0

pub mul64-value : (a b : ℕ) {x : ℕ} → mul64 a b ≡ value x → a * b ≡ x
unfolding mul64
mul64-value a b p = (checked_value Overflow (ltb (a * b) (2 ^ 64)) p).1

pub sum64-value : (xs : List ℕ) {x : ℕ} → sum64 xs ≡ value x → sum xs ≡ x
unfolding sum64
sum64-value xs p = (checked_value Overflow (ltb (sum xs) (2 ^ 64)) p).1

-- loops whose turns are alike
pub map-alike : {A B : Type 0} {f g : A → Checked B} → ((x : A) → f x ≡ g x) → (xs : List A) → map_checked f xs ≡ map_checked g xs
unfolding map_checked
map-alike h [] = refl
map-alike h (x ∷ xs) = rw (h x, map-alike h xs)

-- where each turn that gives a value gives g's, the loop gives g's
pub map_checked-value : {A : Type 0} (f : A → Checked A) (g : A → A) → ((x y : A) → f x ≡ value y → g x ≡ y) → (xs : List A) {ys : List A} → map_checked f xs ≡ value ys → map g xs ≡ ys
unfolding map_checked
map_checked-value f g h [] p = value_same p
map_checked-value f g h (x ∷ xs) p =
    let a = bound (f x) (λ y. bind (map_checked f xs) (λ ys. value (y ∷ ys))) p in
    let b = bound (map_checked f xs) (λ ys. value (a.first ∷ ys)) a.then in
    rw (h x a.first a.gave, map_checked-value f g h xs b.gave) (value_same b.then)

pub fold_checked-value : {A B : Type 0} (f : B → A → Checked B) (g : B → A → B) → ((b : B) (x : A) (c : B) → f b x ≡ value c → g b x ≡ c) → (b : B) (xs : List A) {c : B} → fold_checked f b xs ≡ value c → foldl g b xs ≡ c
unfolding fold_checked
fold_checked-value f g h b [] p = value_same p
fold_checked-value f g h b (x ∷ xs) p =
    let a = bound (f b x) (λ c. fold_checked f c xs) p in
    rw (h b x a.first a.gave) (fold_checked-value f g h a.first xs a.then)

-- the closing buffer of a call whose tests passed
pub settled-buffer : (xs : Checked (List ℕ)) (zeros lent : List ℕ) → closing_buffer (λ filled. filled) (value tt) xs zeros lent ≡ settle xs zeros
unfolding closing_buffer
settled-buffer (value ys) zeros lent = refl
settled-buffer (refused r) zeros lent = refl
