-- Two tests that rise with the filling: every outcome is one of the four between no unknown flag set and all set.
use mathlib.Core.Path.{◌≡◌, refl, sym, ap, ◌∙◌}
use mathlib.Core.Logic.{◌⊎◌, inl, inr}
use mathlib.Core.Bool.{Bool, true, false, cond, ◌||◌}
use mathlib.Core.List.{[], ◌∷◌}
use Prim.Native.Nat.{ℕ}
use native.Mathlib.Omega.{arith}
use borrow.Author.Tests.{eq-eqb, eqb-true}
use lib.Dec.{eqb}
use Rattle.definitions.specs.Checked.{Checked, value}
use Rattle.laws.proofs.Checked.{value_same}
use Rattle.definitions_votes.specs.Filling.{Vote, Filling, none_set, all_set}
use Rattle.definitions_votes.specs.Exact.{none, some, every, Holds, among}
use Rattle.definitions_votes.specs.Votes.{verdict}
use Rattle.definitions_votes.proofs.Tests.{Rises}

pub never : {A : Type 0} → false ≡ true → A
never e = absurd (let z : ◌≡◌ {A = ℕ} 0 1 = ap (λ (t : Bool). cond t 1 0) e in omega arith)

antisym : (a b : Bool) → (a ≡ true → b ≡ true) → (b ≡ true → a ≡ true) → a ≡ b
antisym true true f g = refl
antisym true false f g = never (f refl)
antisym false true f g = never (g refl)
antisym false false f g = refl

-- One test, by a flag of the votes
module _ (flag : Vote → Bool) (test : Filling → Checked Bool) (rises : (f g : Filling) → ((i : ℕ) → flag (f i) ≡ true → flag (g i) ≡ true) → Rises (test f) (test g)) where
  -- fillings that agree on this flag have the same test
  pub same_test : (f g : Filling) → ((i : ℕ) → flag (f i) ≡ flag (g i)) → {y : Bool} → test g ≡ value y → test f ≡ value y
  same_test f g h {y} e =
      let a = (rises f g (λ i p. sym (h i) ∙ p)).given y e in
      let b = (rises g f (λ i p. h i ∙ p)).given a.0 a.1 in
      let q : b.0 ≡ y = value_same (sym b.1 ∙ e) in
      a.1 ∙ ap value (antisym a.0 y a.2 (λ p. b.2 (q ∙ p)))

  module _ (bottom : (f : Filling) (i : ℕ) → flag (none_set i) ≡ true → flag (f i) ≡ true) (top : (f : Filling) (i : ℕ) → flag (f i) ≡ true → flag (all_set i) ≡ true) {fewest most : Bool} (lo : test none_set ≡ value fewest) (hi : test all_set ≡ value most) where
    -- each filling's test is given, and lies between
    pub between : (f : Filling) → (x : Bool) × (test f ≡ value x) × (fewest ≡ true → x ≡ true) × (x ≡ true → most ≡ true)
    between f =
        let a = (rises f all_set (top f)).given most hi in
        let b = (rises none_set f (bottom f)).given a.0 a.1 in
        let q : b.0 ≡ fewest = value_same (sym b.1 ∙ lo) in
        (a.0, a.1, (λ p. b.2 (q ∙ p)), a.2)

    -- so that it is the one or the other
    pub one_of : (x : Bool) → (fewest ≡ true → x ≡ true) → (x ≡ true → most ≡ true) → (x ≡ fewest) ⊎ (x ≡ most)
    one_of x f g = go fewest most x f g
      where
        go : (l m x : Bool) → (l ≡ true → x ≡ true) → (x ≡ true → m ≡ true) → (x ≡ l) ⊎ (x ≡ m)
        go true m x f g = inl (f refl)
        go false m true f g = inr (sym (g refl))
        go false m false f g = inl refl

    pub holds : Holds (verdict fewest most) test
    unfolding verdict
    holds = go fewest refl most refl
      where
        go : (l : Bool) → fewest ≡ l → (m : Bool) → most ≡ m → Holds (cond l every (cond m some none)) test
        go true p m q = λ f. let b = between f in b.1 ∙ ap value (b.2 p)
        go false p true q = ((all_set, hi ∙ ap value q), (none_set, lo ∙ ap value p))
        go false p false q = λ f. let b = between f in b.1 ∙ ap value (missed b.0 (λ t. sym q ∙ b.3 t))
          where
            missed : (x : Bool) → (x ≡ true → false ≡ true) → x ≡ false
            missed true h = never (h refl)
            missed false h = refl

-- One of four
pub among-four : (e a b c d : ℕ) → (e ≡ a) ⊎ ((e ≡ b) ⊎ ((e ≡ c) ⊎ (e ≡ d))) → among e (a ∷ b ∷ c ∷ d ∷ []) ≡ true
unfolding among
among-four e a b c d (inl p) = rw (eq-eqb e a p)
among-four e a b c d (inr (inl p)) = rw (eq-eqb e b p) (or_true (eqb e a))
  where
    or_true : (x : Bool) → (x || true) ≡ true
    or_true true = refl
    or_true false = refl
among-four e a b c d (inr (inr (inl p))) = rw (eq-eqb e c p) (go (eqb e a) (eqb e b))
  where
    go : (x y : Bool) → (x || (y || true)) ≡ true
    go true y = refl
    go false true = refl
    go false false = refl
among-four e a b c d (inr (inr (inr p))) = rw (eq-eqb e d p) (go (eqb e a) (eqb e b) (eqb e c))
  where
    go : (x y z : Bool) → (x || (y || (z || true))) ≡ true
    go true y z = refl
    go false true z = refl
    go false false true = refl
    go false false false = refl

pub four-among : (e a b c d : ℕ) → among e (a ∷ b ∷ c ∷ d ∷ []) ≡ true → (e ≡ a) ⊎ ((e ≡ b) ⊎ ((e ≡ c) ⊎ (e ≡ d)))
unfolding among
four-among e a b c d h = go (eqb e a) refl (eqb e b) refl (eqb e c) refl (eqb e d) refl h
  where
    go : (t : Bool) → eqb e a ≡ t → (u : Bool) → eqb e b ≡ u → (v : Bool) → eqb e c ≡ v → (w : Bool) → eqb e d ≡ w → (t || (u || (v || (w || false)))) ≡ true → (e ≡ a) ⊎ ((e ≡ b) ⊎ ((e ≡ c) ⊎ (e ≡ d)))
    go true p u q v r w s h = inl (eqb-true e a p)
    go false p true q v r w s h = inr (inl (eqb-true e b q))
    go false p false q true r w s h = inr (inr (inl (eqb-true e c r)))
    go false p false q false r true s h = inr (inr (inr (eqb-true e d s)))
    go false p false q false r false s h = never h
