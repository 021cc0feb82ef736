-- One pass that runs two functions on each entry gives what two passes give, where both refuse only by 5.
use mathlib.Core.Path.{◌≡◌, refl, sym, ap, ◌∙◌}
use mathlib.Core.List.{List, [], ◌∷◌}
use Rattle.definitions.specs.Checked.{Checked, value, refused, bind, map_checked}
use Rattle.definitions.specs.declared.Refusal.{Refusal}
use Rattle.arithmetic.proofs.Operations.{OnlyOverflow, only-value, only-bind}
use Rattle.write_turn.proofs.Sweeps.Pure.{only-map}
use Rattle.write_turn.specs.Sweep.{Moved, Turning, sweep, after, first, last, along}

pub only-sweep : {C A : Type 0} {f : Turning C A} → ((c : C) (x : A) → OnlyOverflow (f c x)) → (c : C) (xs : List A) → OnlyOverflow (sweep f c xs)
unfolding sweep
only-sweep h c [] = only-value _
only-sweep h c (x ∷ xs) = only-bind (h c x) (λ m. only-bind (only-sweep h m.carry xs) (λ r. only-value _))

-- two refusals by 5 are the same
both-over : {A B : Type 0} {m : Checked A} {n : Checked B} {p q : Refusal} → OnlyOverflow m → OnlyOverflow n → m ≡ refused p → n ≡ refused q → p ≡ q
both-over {A} {B} {m} {n} {p} {q} o k e h = o.why p e ∙ sym (k.why q h)

abbrev pub more : {C A : Type 0} → A → Moved C (List A) → Checked (Moved C (List A))
more y r = value (record { carry = r.carry; held = y ∷ r.held })

abbrev pub keeping : {C B : Type 0} → C → B → Checked (Moved C B)
keeping c y = value (record { carry = c; held = y })

abbrev pub paired : {C D A : Type 0} → C → Moved D A → Checked (Moved (C × D) A)
paired c p = value (record { carry = (c, p.carry); held = p.held })

module _ {C D A : Type 0} {f : Turning C A} {g : Turning D A} (of : (c : C) (x : A) → OnlyOverflow (f c x)) (og : (d : D) (x : A) → OnlyOverflow (g d x)) where
  ended : (a : C) (y : A) (n : Checked (Moved D (List A))) → bind (bind n (paired a)) (more y) ≡ bind (bind n (more y)) (paired a)
  unfolding bind
  ended a y (value p) = refl
  ended a y (refused p) = refl

  -- both carry
  pub swept_both : (c : C × D) (xs : List A) → sweep (after f g) c xs ≡ after (sweep f) (sweep g) c xs
  unfolding sweep bind
  swept_both c [] = refl
  swept_both c (x ∷ xs) = begun (λ e. swept_both e xs) (f c.0 x)
    where
      go : ((e : C × D) → sweep (after f g) e xs ≡ after (sweep f) (sweep g) e xs) → (m : Moved C A) (n : Checked (Moved D A)) → g c.1 m.held ≡ n → (k : Checked (Moved C (List A))) → sweep f m.carry xs ≡ k → bind (bind n (paired m.carry)) (λ q. bind (sweep (after f g) q.carry xs) (more q.held)) ≡ bind (bind k (more m.held)) (λ q. bind (sweep g c.1 q.held) (paired q.carry))
      go ih m (value p) e (value r) h = rw (ih (m.carry, p.carry), h, e) (ended r.carry p.held (sweep g p.carry r.held))
      go ih m (value p) e (refused q) h = rw (ih (m.carry, p.carry), h)
      go ih m (refused p) e (value r) h = rw e
      go ih m (refused p) e (refused q) h = ap refused (both-over (og c.1 m.held) (only-sweep of m.carry xs) e h)

      begun : ((e : C × D) → sweep (after f g) e xs ≡ after (sweep f) (sweep g) e xs) → (m : Checked (Moved C A)) → bind (bind m (λ m. bind (g c.1 m.held) (paired m.carry))) (λ q. bind (sweep (after f g) q.carry xs) (more q.held)) ≡ bind (bind m (λ m. bind (sweep f m.carry xs) (more m.held))) (λ q. bind (sweep g c.1 q.held) (paired q.carry))
      begun ih (refused p) = refl
      begun ih (value m) = go ih m (g c.1 m.held) refl (sweep f m.carry xs) refl

-- a pure pass first
module _ {D A : Type 0} {f : A → Checked A} {g : Turning D A} (of : (x : A) → OnlyOverflow (f x)) (og : (d : D) (x : A) → OnlyOverflow (g d x)) where
  pub swept_first : (d : D) (xs : List A) → sweep (first f g) d xs ≡ first (map_checked f) (sweep g) d xs
  unfolding sweep bind map_checked
  swept_first d [] = refl
  swept_first d (x ∷ xs) = begun (λ e. swept_first e xs) (f x)
    where
      go : ((e : D) → sweep (first f g) e xs ≡ first (map_checked f) (sweep g) e xs) → (y : A) (n : Checked (Moved D A)) → g d y ≡ n → (k : Checked (List A)) → map_checked f xs ≡ k → bind n (λ q. bind (sweep (first f g) q.carry xs) (more q.held)) ≡ bind (bind k (λ ys. value (y ∷ ys))) (sweep g d)
      go ih y (value p) e (value ys) h = rw (ih p.carry, h, e)
      go ih y (value p) e (refused q) h = rw (ih p.carry, h)
      go ih y (refused p) e (value ys) h = rw e
      go ih y (refused p) e (refused q) h = ap refused (both-over (og d y) (only-map of xs) e h)

      begun : ((e : D) → sweep (first f g) e xs ≡ first (map_checked f) (sweep g) e xs) → (m : Checked A) → bind (bind m (g d)) (λ q. bind (sweep (first f g) q.carry xs) (more q.held)) ≡ bind (bind m (λ y. bind (map_checked f xs) (λ ys. value (y ∷ ys)))) (sweep g d)
      begun ih (refused p) = refl
      begun ih (value y) = go ih y (g d y) refl (map_checked f xs) refl

-- a pure pass last
module _ {C A : Type 0} {f : Turning C A} {g : A → Checked A} (of : (c : C) (x : A) → OnlyOverflow (f c x)) (og : (x : A) → OnlyOverflow (g x)) where
  pub swept_last : (c : C) (xs : List A) → sweep (last f g) c xs ≡ last (sweep f) (map_checked g) c xs
  unfolding sweep bind map_checked
  swept_last c [] = refl
  swept_last c (x ∷ xs) = begun (λ e. swept_last e xs) (f c x)
    where
      after_it : (a : C) (z : A) (n : Checked (List A)) → bind (bind n (keeping a)) (more z) ≡ bind (bind n (λ zs. value (z ∷ zs))) (keeping a)
      after_it a z (value zs) = refl
      after_it a z (refused p) = refl

      go : ((e : C) → sweep (last f g) e xs ≡ last (sweep f) (map_checked g) e xs) → (m : Moved C A) (n : Checked A) → g m.held ≡ n → (k : Checked (Moved C (List A))) → sweep f m.carry xs ≡ k → bind (bind n (keeping m.carry)) (λ q. bind (sweep (last f g) q.carry xs) (more q.held)) ≡ bind (bind k (more m.held)) (λ q. bind (map_checked g q.held) (keeping q.carry))
      go ih m (value z) e (value r) h = rw (ih m.carry, h, e) (after_it r.carry z (map_checked g r.held))
      go ih m (value z) e (refused q) h = rw (ih m.carry, h)
      go ih m (refused p) e (value r) h = rw e
      go ih m (refused p) e (refused q) h = ap refused (both-over (og m.held) (only-sweep of m.carry xs) e h)

      begun : ((e : C) → sweep (last f g) e xs ≡ last (sweep f) (map_checked g) e xs) → (m : Checked (Moved C A)) → bind (bind m (λ m. bind (g m.held) (keeping m.carry))) (λ q. bind (sweep (last f g) q.carry xs) (more q.held)) ≡ bind (bind m (λ m. bind (sweep f m.carry xs) (more m.held))) (λ q. bind (map_checked g q.held) (keeping q.carry))
      begun ih (refused p) = refl
      begun ih (value m) = go ih m (g m.held) refl (sweep f m.carry xs) refl

-- a pass by a part of what is carried
module _ {C D A : Type 0} (part : C → D) (put : C → D → C) (back : (c : C) (d : D) → part (put c d) ≡ d) (over : (c : C) (d e : D) → put (put c d) e ≡ put c e) (none : (c : C) → c ≡ put c (part c)) (f : Turning D A) where
  abbrev putting : C → Moved D (List A) → Checked (Moved C (List A))
  putting c m = value (record { carry = put c m.carry; held = m.held })

  pub swept_along : (c : C) (xs : List A) → sweep (along part put f) c xs ≡ along part put (sweep f) c xs
  unfolding sweep bind
  swept_along c [] = ap (λ (a : C). keeping a []) (none c)
  swept_along c (x ∷ xs) = begun (λ e. swept_along e xs) (f (part c) x)
    where
      ended : (d : D) (y : A) (m : Checked (Moved D (List A))) → bind (bind m (putting (put c d))) (more y) ≡ bind (bind m (more y)) (putting c)
      ended d y (value r) = ap (λ (a : C). keeping a (y ∷ r.held)) (over c d r.carry)
      ended d y (refused p) = refl

      turned : Moved D A → Checked (Moved C A)
      turned m = value (record { carry = put c m.carry; held = m.held })

      begun : ((e : C) → sweep (along part put f) e xs ≡ along part put (sweep f) e xs) → (m : Checked (Moved D A)) → bind (bind m turned) (λ q. bind (sweep (along part put f) q.carry xs) (more q.held)) ≡ bind (bind m (λ m. bind (sweep f m.carry xs) (more m.held))) (putting c)
      begun ih (refused p) = refl
      begun ih (value m) = rw (ih (put c m.carry), back c m.carry) (ended m.carry m.held (sweep f m.carry xs))
