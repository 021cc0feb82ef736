-- The order of evaluation does not show where every refusal is 5: it is enough that the same evaluations give values.
use mathlib.Core.Path.{◌≡◌, refl, sym, ap, ap₂, ◌∙◌}
use mathlib.Core.Bool.{Bool, true, false, ◌&&◌, false≢true}
use mathlib.Core.List.{List, [], ◌∷◌, map, foldl}
use Rattle.definitions.specs.Lists.{all}
use Rattle.definitions.specs.Checked.{Checked, value, refused, bind, map_checked, fold_checked}
use Rattle.definitions.specs.declared.Refusal.{Refusal}
use Rattle.theorems.specs.Completeness.ListByList.{zip_checked}
use Rattle.agreement.proofs.Agrees.{Agrees, IsOverflow, value-agrees, bind-agrees}

-- whether it gives a value
abbrev pub gives : {A : Type 0} → Checked A → Bool
gives (value a) = true
gives (refused r) = false

pub same-value : {A : Type 0} (m d : Checked A) {x : A} → Agrees IsOverflow m x → Agrees IsOverflow d x → gives m ≡ gives d → m ≡ d
same-value (value a) (value b) h g e = ap value (sym (h.same a refl) ∙ g.same b refl)
same-value (refused r) (refused q) h g e = ap refused (h.only r refl ∙ sym (g.only q refl))
same-value (value a) (refused r) h g e = absurd (false≢true (sym e))
same-value (refused r) (value a) h g e = absurd (false≢true e)

-- One after the other

pub gives-bind : {A B : Type 0} {P : Refusal → Type 0} {m : Checked A} {x : A} (k : A → Checked B) → Agrees P m x → gives (bind m k) ≡ (gives m && gives (k x))
unfolding bind
gives-bind {m = value a} k h = rw (h.same a refl)
gives-bind {m = refused r} k h = refl

gives_both : {A B C : Type 0} (m : Checked A) (n : Checked B) (f : A → B → C) → gives (bind m (λ a. bind n (λ b. value (f a b)))) ≡ (gives m && gives n)
unfolding bind
gives_both (value a) (value b) f = refl
gives_both (value a) (refused r) f = refl
gives_both (refused r) n f = refl

-- Loops

pub gives-map : {A B : Type 0} (f : A → Checked B) (xs : List A) → gives (map_checked f xs) ≡ all (λ x. gives (f x)) xs
unfolding map_checked all
gives-map f [] = refl
gives-map f (x ∷ xs) = gives_both (f x) (map_checked f xs) _ ∙ ap (λ t. gives (f x) && t) (gives-map f xs)

gives_zip : {A B C : Type 0} (f : B → C → Checked B) (h : A → B) (g : A → C) (xs : List A) → gives (zip_checked f (map h xs) (map g xs)) ≡ all (λ x. gives (f (h x) (g x))) xs
unfolding zip_checked all
gives_zip f h g [] = refl
gives_zip f h g (x ∷ xs) =
    gives_both (f (h x) (g x)) (zip_checked f (map h xs) (map g xs)) _ ∙ ap (λ t. gives (f (h x) (g x)) && t) (gives_zip f h g xs)

zip_maps_agrees : {A B C : Type 0} {P : Refusal → Type 0} {f : B → C → Checked B} {p : B → C → B} → ((b : B) (c : C) → Agrees P (f b c) (p b c)) → (h : A → B) (g : A → C) (xs : List A) → Agrees P (zip_checked f (map h xs) (map g xs)) (map (λ x. p (h x) (g x)) xs)
unfolding zip_checked
zip_maps_agrees a h g [] = value-agrees
zip_maps_agrees a h g (x ∷ xs) = bind-agrees _ (a (h x) (g x)) (bind-agrees _ (zip_maps_agrees a h g xs) value-agrees)

-- list by list from h on agrees with element by element
pub fold_zip_agrees : {A B C : Type 0} {P : Refusal → Type 0} {f : B → C → Checked B} {p : B → C → B} → ((b : B) (c : C) → Agrees P (f b c) (p b c)) → (h : A → B) (gs : List (A → C)) (xs : List A) → Agrees P (fold_checked (zip_checked f) (map h xs) (map (λ g. map g xs) gs)) (map (λ x. foldl p (h x) (map (λ g. g x) gs)) xs)
unfolding fold_checked
fold_zip_agrees a h [] xs = value-agrees
fold_zip_agrees {p} a h (g ∷ gs) xs = bind-agrees _ (zip_maps_agrees a h g xs) (fold_zip_agrees a (λ x. p (h x) (g x)) gs xs)

-- All

pub all_alike : {A : Type 0} {p q : A → Bool} → ((x : A) → p x ≡ q x) → (xs : List A) → all p xs ≡ all q xs
unfolding all
all_alike h [] = refl
all_alike h (x ∷ xs) = ap₂ ◌&&◌ (h x) (all_alike h xs)

all_true : {A : Type 0} (xs : List A) → all (λ (x : A). true) xs ≡ true
unfolding all
all_true [] = refl
all_true (x ∷ xs) = all_true xs

and_and : (a b c d : Bool) → ((a && b) && (c && d)) ≡ ((a && c) && (b && d))
and_and true true c d = refl
and_and true false true d = refl
and_and true false false d = refl
and_and false b c d = refl

pub all_and : {A : Type 0} (p q : A → Bool) (xs : List A) → all (λ x. p x && q x) xs ≡ (all p xs && all q xs)
unfolding all
all_and p q [] = refl
all_and p q (x ∷ xs) = ap (λ t. (p x && q x) && t) (all_and p q xs) ∙ and_and (p x) (q x) (all p xs) (all q xs)

-- List by list gives a value where element by element does
pub gives_fold_zip : {A B C : Type 0} {P : Refusal → Type 0} {f : B → C → Checked B} {p : B → C → B} → ((b : B) (c : C) → Agrees P (f b c) (p b c)) → (h : A → B) (gs : List (A → C)) (xs : List A) → gives (fold_checked (zip_checked f) (map h xs) (map (λ g. map g xs) gs)) ≡ all (λ x. gives (fold_checked f (h x) (map (λ g. g x) gs))) xs
unfolding fold_checked
gives_fold_zip a h [] xs = sym (all_true xs)
gives_fold_zip {f} {p} a h (g ∷ gs) xs =
    gives-bind _ (zip_maps_agrees a h g xs)
    ∙ ap₂ ◌&&◌ (gives_zip f h g xs) (gives_fold_zip a (λ x. p (h x) (g x)) gs xs)
    ∙ sym (all_and _ _ xs)
    ∙ all_alike (λ x. sym (gives-bind _ (a (h x) (g x)))) xs
