-- A checked form agrees with a plain one under P: where it gives a value, it is the plain one, and every refusal that it answers has P.
-- A law for each construct of the checked forms, so that a proof of agreement is read off the definition.
use mathlib.Core.Path.{◌≡◌, refl, sym, ◌∙◌, subst}
use mathlib.Core.Bool.{Bool, true, false, cond}
use mathlib.Core.List.{List, [], ◌∷◌, map, foldl}
use mathlib.Core.Logic.{◌⊎◌, inl}
use Prim.Native.Nat.{ℕ, ◌+◌, ◌-◌, ◌*◌, ◌^◌}
use lib.Dec.{ltb, leb}
use Rattle.definitions.specs.Lists.{sum}
use Rattle.definitions.specs.Checked.{Checked, value, refused, bind, add64, sub64, mul64, sum64, map_checked, fold_checked}
use Rattle.definitions.specs.declared.Refusal.{Refusal}
use Rattle.definitions.specs.declared.Refusal.TheVariants.{NoRoot, Overflow}
use Rattle.laws.proofs.Checked.{not_value, value_same}

pub record Agrees {A : Type 0} (P : Refusal → Type 0) (m : Checked A) (x : A) : Type 0 where
  pub same : (a : A) → m ≡ value a → x ≡ a
  pub only : (r : Refusal) → m ≡ refused r → P r

abbrev pub IsOverflow : Refusal → Type 0
IsOverflow r = r ≡ Overflow

abbrev pub IsOverflowOrNoRoot : Refusal → Type 0
IsOverflowOrNoRoot r = (r ≡ Overflow) ⊎ (r ≡ NoRoot)

pub weaken : {A : Type 0} {P Q : Refusal → Type 0} {m : Checked A} {x : A} → ((r : Refusal) → P r → Q r) → Agrees P m x → Agrees Q m x
weaken w h = record { same = h.same; only = λ r p. w r (h.only r p) }

pub or_more : {A : Type 0} {Q : Refusal → Type 0} {m : Checked A} {x : A} → Agrees IsOverflow m x → Agrees (λ r. (r ≡ Overflow) ⊎ Q r) m x
or_more h = weaken (λ r e. inl e) h

pub not_refused : {A : Type 0} {r : Refusal} {a : A} → value a ≡ refused r → ⊥
not_refused p = not_value (sym p)

pub equal-agrees : {A : Type 0} {P : Refusal → Type 0} {x y : A} → y ≡ x → Agrees P (value x) y
equal-agrees e = record { same = λ a p. e ∙ value_same p; only = λ r p. absurd (not_refused p) }

pub value-agrees : {A : Type 0} {P : Refusal → Type 0} {x : A} → Agrees P (value x) x
value-agrees = equal-agrees refl

pub refused-agrees : {A : Type 0} {P : Refusal → Type 0} {r : Refusal} {x : A} → P r → Agrees P (refused r) x
refused-agrees {P} {r} h = record { same = λ a p. absurd (not_value p); only = λ q p. let e : r ≡ q = cc in subst P e h }

-- what comes after is asked for only at the plain value
pub bind-agrees : {A B : Type 0} {P : Refusal → Type 0} {m : Checked A} {x : A} (k : A → Checked B) {y : B} → Agrees P m x → Agrees P (k x) y → Agrees P (bind m k) y
unfolding bind
bind-agrees {m = value a} k h g = rw (h.same a refl) at g
bind-agrees {m = refused r} k h g = refused-agrees (h.only r refl)

pub cond-agrees : {A : Type 0} {P : Refusal → Type 0} (t : Bool) {m n : Checked A} {x y : A} → Agrees P m x → Agrees P n y → Agrees P (cond t m n) (cond t x y)
cond-agrees true h g = h
cond-agrees false h g = g

-- of the same plain value in both cases
pub either-agrees : {A : Type 0} {P : Refusal → Type 0} (t : Bool) {m n : Checked A} {x : A} → Agrees P m x → Agrees P n x → Agrees P (cond t m n) x
either-agrees true h g = h
either-agrees false h g = g

-- Arithmetic

pub add64-agrees : (a b : ℕ) → Agrees IsOverflow (add64 a b) (a + b)
unfolding add64
add64-agrees a b = either-agrees (ltb (a + b) (2 ^ 64)) value-agrees (refused-agrees refl)

pub sub64-agrees : (a b : ℕ) → Agrees IsOverflow (sub64 a b) (a - b)
unfolding sub64
sub64-agrees a b = either-agrees (leb b a) value-agrees (refused-agrees refl)

pub mul64-agrees : (a b : ℕ) → Agrees IsOverflow (mul64 a b) (a * b)
unfolding mul64
mul64-agrees a b = either-agrees (ltb (a * b) (2 ^ 64)) value-agrees (refused-agrees refl)

pub sum64-agrees : (xs : List ℕ) → Agrees IsOverflow (sum64 xs) (sum xs)
unfolding sum64
sum64-agrees xs = either-agrees (ltb (sum xs) (2 ^ 64)) value-agrees (refused-agrees refl)

-- Loops

pub map-agrees : {A B : Type 0} {P : Refusal → Type 0} {f : A → Checked B} {g : A → B} → ((x : A) → Agrees P (f x) (g x)) → (xs : List A) → Agrees P (map_checked f xs) (map g xs)
unfolding map_checked
map-agrees h [] = value-agrees
map-agrees h (x ∷ xs) = bind-agrees _ (h x) (bind-agrees _ (map-agrees h xs) value-agrees)

pub fold_agrees : {A B : Type 0} {P : Refusal → Type 0} {f : B → A → Checked B} {g : B → A → B} → ((b : B) (x : A) → Agrees P (f b x) (g b x)) → (b : B) (xs : List A) → Agrees P (fold_checked f b xs) (foldl g b xs)
unfolding fold_checked
fold_agrees h b [] = value-agrees
fold_agrees h b (x ∷ xs) = bind-agrees _ (h b x) (fold_agrees h _ xs)
