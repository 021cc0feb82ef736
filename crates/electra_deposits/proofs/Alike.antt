-- Two computations that give values that are alike, or the same refusal.
use mathlib.Core.Path.{◌≡◌, refl, sym, ap, ◌∙◌}
use mathlib.Core.Bool.{Bool, true, false, cond}
use Prim.Native.Nat.{ℕ}
use native.Mathlib.Omega.{arith}
use Rattle.definitions.specs.Checked.{Checked, value, refused, bind}
use Rattle.definitions.specs.declared.Refusal.{Refusal}
use Rattle.laws.proofs.Checked.{not_value, value_same, refused_same}

abbrev AlikeBy : {A B : Type 0} → (A → B → Type 0) → Checked A → Checked B → Type 0
AlikeBy R (value a) (value b) = R a b
AlikeBy R (value a) (refused q) = ⊥
AlikeBy R (refused p) (value b) = ⊥
AlikeBy R (refused p) (refused q) = p ≡ q

pub record Alike {A B : Type 0} (R : A → B → Type 0) (m : Checked A) (n : Checked B) : Type 0 where
  pub is : AlikeBy R m n

pub alike-value : {A B : Type 0} {R : A → B → Type 0} {a : A} {b : B} → R a b → Alike R (value a) (value b)
alike-value h = record { is = h }

pub alike-bind : {A B C D : Type 0} {R : A → B → Type 0} {S : C → D → Type 0} {m : Checked A} {n : Checked B} (k : A → Checked C) (l : B → Checked D) → Alike R m n → ((a : A) (b : B) → R a b → Alike S (k a) (l b)) → Alike S (bind m k) (bind n l)
unfolding bind
alike-bind {m = value a} {n = value b} k l h g = g a b h.is
alike-bind {m = value a} {n = refused q} k l h g = absurd h.is
alike-bind {m = refused p} {n = value b} k l h g = absurd h.is
alike-bind {m = refused p} {n = refused q} k l h g = record { is = h.is }

-- the same computation first
pub alike-given : {A C D : Type 0} {S : C → D → Type 0} (m : Checked A) (k : A → Checked C) (l : A → Checked D) → ((a : A) → m ≡ value a → Alike S (k a) (l a)) → Alike S (bind m k) (bind m l)
unfolding bind
alike-given (value a) k l g = g a refl
alike-given (refused p) k l g = record { is = refl }

pub apart : true ≡ false → ⊥
apart e = let z : ◌≡◌ {A = ℕ} 0 1 = cc in omega arith

pub alike-cond : {C D : Type 0} {S : C → D → Type 0} (t u : Bool) {m m' : Checked C} {n n' : Checked D} → t ≡ u → Alike S m n → Alike S m' n' → Alike S (cond t m m') (cond u n n')
alike-cond true true e h g = h
alike-cond false false e h g = g
alike-cond true false e h g = absurd (apart e)
alike-cond false true e h g = absurd (apart (sym e))

-- the other's value, or the same refusal

pub record Met {A B : Type 0} (R : A → B → Type 0) (a : A) (n : Checked B) : Type 0 where
  pub other : B
  pub gave : n ≡ value other
  pub alike : R a other

pub met : {A B : Type 0} {R : A → B → Type 0} {m : Checked A} {n : Checked B} {a : A} → Alike R m n → m ≡ value a → Met R a n
met {m = value b} {n = value c} h e = let s = value_same e in rw (← s) (record { other = c; gave = refl; alike = h.is })
met {m = value b} {n = refused q} h e = absurd h.is
met {m = refused p} {n = n} h e = absurd (not_value e)

pub alike-refused : {A B : Type 0} {R : A → B → Type 0} {m : Checked A} {n : Checked B} {p : Refusal} → Alike R m n → m ≡ refused p → n ≡ refused p
alike-refused {m = value a} {n = n} h e = absurd (not_value (sym e))
alike-refused {m = refused q} {n = value b} h e = absurd h.is
alike-refused {m = refused q} {n = refused s} h e = ap refused (sym h.is ∙ refused_same e)

-- what was worked out of a value was refused, so the value was
pub first-refused : {A B : Type 0} (m : Checked A) (g : A → B) {p : Refusal} → bind m (λ a. value (g a)) ≡ refused p → m ≡ refused p
unfolding bind
first-refused (value a) g e = absurd (not_value (sym e))
first-refused (refused q) g e = ap refused (refused_same e)
