-- Laws of checked evaluation that the proofs of completeness share.
use mathlib.Core.Path.{◌≡◌, refl, sym, ap, ◌∙◌}
use mathlib.Core.Bool.{Bool, true, false, cond}
use mathlib.Core.List.{List, [], ◌∷◌, foldl, zip_with}
use mathlib.Core.Logic.{◌⊎◌, inl, inr}
use Prim.Native.Nat.{ℕ}
use native.Mathlib.Omega.{arith}
use Rattle.definitions.specs.Lists.{filter}
use Rattle.definitions.specs.Checked.{Checked, value, refused, bind, map_checked, fold_checked}
use Rattle.definitions.specs.declared.Refusal.{Refusal}
use Rattle.definitions.specs.declared.Refusal.TheVariants.{Overflow}
use Rattle.laws.proofs.Checked.{not_value, bound}
use Rattle.agreement.proofs.Agrees.{Agrees, IsOverflow, value-agrees, bind-agrees}
use Rattle.theorems.specs.Completeness.ListByList.{zip_checked}

-- Two checked evaluations

pub bind-same : {A B : Type 0} (m : Checked A) {k l : A → Checked B} → ((a : A) → k a ≡ l a) → bind m k ≡ bind m l
unfolding bind
bind-same (value a) h = h a
bind-same (refused r) h = refl

pub bind-value : {A B : Type 0} (a : A) (k : A → Checked B) → bind (value a) k ≡ k a
unfolding bind
bind-value a k = refl

-- the same, where one of them hands on g of what the other does
pub bind-through : {A B C : Type 0} (m : Checked A) (g : A → B) (k : B → Checked C) {l : A → Checked C} → ((a : A) → k (g a) ≡ l a) → bind (bind m (λ a. value (g a))) k ≡ bind m l
unfolding bind
bind-through (value a) g k h = h a
bind-through (refused r) g k h = refl

-- a loop whose turns all give values
pub fold_gives : {A B : Type 0} {f : B → A → Checked B} {g : B → A → B} → ((b : B) (x : A) → f b x ≡ value (g b x)) → (b : B) (xs : List A) → fold_checked f b xs ≡ value (foldl g b xs)
unfolding fold_checked bind
fold_gives h b [] = refl
fold_gives h b (x ∷ xs) = rw (h b x) (fold_gives h _ xs)

-- A loop over two lists agrees with the plain one

pub zip_agrees : {A B : Type 0} {P : Refusal → Type 0} {f : A → B → Checked A} {g : A → B → A} → ((x : A) (y : B) → Agrees P (f x y) (g x y)) → (xs : List A) (ys : List B) → Agrees P (zip_checked f xs ys) (zip_with g xs ys)
unfolding zip_checked zip_with
zip_agrees h [] ys = value-agrees
zip_agrees h (x ∷ xs) [] = value-agrees
zip_agrees h (x ∷ xs) (y ∷ ys) = bind-agrees _ (h x y) (bind-agrees _ (zip_agrees h xs ys) value-agrees)

-- What never gives a value

pub record Never {A : Type 0} (m : Checked A) : Type 0 where
  pub never : (a : A) → m ≡ value a → ⊥

pub never-refused : {A : Type 0} {r : Refusal} → Never {A = A} (refused r)
never-refused = record { never = λ a e. not_value e }

pub never_first : {A B : Type 0} {m : Checked A} (k : A → Checked B) → Never m → Never (bind m k)
never_first k h = record { never = λ b e. h.never _ (bound _ k e).gave }

pub never-then : {A B : Type 0} (m : Checked A) {k : A → Checked B} → ((a : A) → Never (k a)) → Never (bind m k)
never-then m h = record { never = λ b e. (h _).never b (bound m _ e).then }

pub refuses : {A : Type 0} {m : Checked A} {x : A} → Agrees IsOverflow m x → Never m → m ≡ refused Overflow
refuses {m = value a} h n = absurd (n.never a refl)
refuses {m = refused r} h n = ap refused (h.only r refl)

-- a loop that gave a value met nobody at whom it never does
pub met-nobody : {A B : Type 0} {f : A → Checked B} (p : A → Bool) → ((x : A) → p x ≡ true → Never (f x)) → (xs : List A) {ys : List B} → map_checked f xs ≡ value ys → filter p xs ≡ []
unfolding map_checked filter
met-nobody p h [] e = refl
met-nobody {A} {B} {f} p h (x ∷ xs) e =
    let a = bound (f x) (λ y. bind (map_checked f xs) (λ ys. value (y ∷ ys))) e in
    let b = bound (map_checked f xs) (λ ys. value (a.first ∷ ys)) a.then in
    go (p x) refl a.gave (met-nobody p h xs b.gave)
  where
    go : (t : Bool) → p x ≡ t → {y : B} → f x ≡ value y → filter p xs ≡ [] → cond t (x ∷ filter p xs) (filter p xs) ≡ []
    go true q g l = absurd ((h x q).never _ g)
    go false q g l = l

-- and one that meets nobody changes nothing
pub passes-all : {A : Type 0} {f : A → Checked A} (p : A → Bool) → ((x : A) → p x ≡ false → f x ≡ value x) → (xs : List A) → filter p xs ≡ [] → map_checked f xs ≡ value xs
unfolding map_checked filter bind
passes-all p h [] e = refl
passes-all {f} p h (x ∷ xs) e = go (p x) refl e (passes-all p h xs)
  where
    go : (t : Bool) → p x ≡ t → cond t (x ∷ filter p xs) (filter p xs) ≡ [] → (filter p xs ≡ [] → map_checked f xs ≡ value xs) → map_checked f (x ∷ xs) ≡ value (x ∷ xs)
    go true q g rest = let z : ◌≡◌ {A = ℕ} 0 1 = cc in absurd (omega arith)
    go false q g rest = rw (h x q, rest g)

-- where one evaluation refuses, the other refuses too, or they part
pub refused_or_parted : {A L : Type 0} {m : Checked A} (d : Checked A) {x : A} → m ≡ refused Overflow → Agrees IsOverflow d x → ((a : A) → d ≡ value a → L) → (m ≡ d) ⊎ (L × (d ≡ value x))
refused_or_parted (value a) e h l = inr (l a refl, ap value (sym (h.same a refl)))
refused_or_parted (refused r) e h l = inl (e ∙ ap refused (sym (h.only r refl)))
