-- A pass by index whose turn at i may read the whole registry, and the same pass by a carried state, from which the turn at i has all that it
-- reads of the others.
use mathlib.Core.Path.{◌≡◌, refl, sym, ap, ◌∙◌}
use mathlib.Core.List.{List, [], ◌∷◌, ◌++◌}
use Prim.Native.Nat.{ℕ, suc, ◌<◌}
use native.Mathlib.Omega.{arith}
use lib.ListN.{length, get_or, set, length-append}
use Rattle.definitions.specs.Checked.{Checked, value, refused, bind, fold_checked}
use Rattle.definitions.specs.Lists.{range}
use Rattle.write_turn.specs.Sweep.{Moved, Turning, sweep, dropped}
use Rattle.write_turn.proofs.Sweeps.Fused.{more}

pub get_d_middle : {A : Type 0} (us : List A) (v : A) (vs : List A) (d : A) → get_or (us ++ (v ∷ vs)) (length us) d ≡ v
get_d_middle [] v vs d = refl
get_d_middle (u ∷ us) v vs d = get_d_middle us v vs d

pub set-middle : {A : Type 0} (us : List A) (v w : A) (vs : List A) → set (us ++ (v ∷ vs)) (length us) w ≡ us ++ (w ∷ vs)
set-middle [] v w vs = refl
set-middle {A} (u ∷ us) v w vs = ap (λ (t : List A). u ∷ t) (set-middle us v w vs)

pub snoc : {A : Type 0} (us : List A) (w : A) (vs : List A) → us ++ (w ∷ vs) ≡ (us ++ (w ∷ [])) ++ vs
snoc [] w vs = refl
snoc {A} (u ∷ us) w vs = ap (λ (t : List A). u ∷ t) (snoc us w vs)

-- F is f all through the loop: while the state stands to the registry as `Is` says, F's turn is f's, and leaves them so
pub record Follows {C A : Type 0} (d : A) (Is : List A → C → Type 0) (F : List A → ℕ → Checked (List A)) (f : Turning C A) : Type 0 where
  pub agrees : (xs : List A) (c : C) (i : ℕ) → Is xs c → i < length xs → F xs i ≡ bind (f c (get_or xs i d)) (λ m. value (set xs i m.held))
  pub keeps : (xs : List A) (c : C) (i : ℕ) (m : Moved C A) → Is xs c → i < length xs → f c (get_or xs i d) ≡ value m → Is (set xs i m.held) m.carry

module _ {C A : Type 0} {d : A} {Is : List A → C → Type 0} {F : List A → ℕ → Checked (List A)} {f : Turning C A} (h : Follows d Is F f) where
  abbrev after : List A → Moved C (List A) → Checked (List A)
  after us m = value (us ++ m.held)

  ended : (us : List A) (y : A) (k : Checked (Moved C (List A))) → bind k (after (us ++ (y ∷ []))) ≡ bind (bind k (more y)) (after us)
  unfolding bind
  ended us y (value p) = ap value (sym (snoc us y p.held))
  ended us y (refused p) = refl

  -- us are done, vs are not
  follows-from : (us vs : List A) (c : C) → Is (us ++ vs) c → fold_checked F (us ++ vs) (range (length us) (length vs)) ≡ bind (sweep f c vs) (after us)
  unfolding fold_checked sweep bind range
  follows-from us [] c t = refl
  follows-from us (v ∷ vs) c t =
      let l : length us < length (us ++ (v ∷ vs)) = omega (arith, length-append us (v ∷ vs)) in
      let at = get_d_middle us v vs d in
      rw (h.agrees (us ++ (v ∷ vs)) c (length us) t l, at)
      (go (f c v) refl (λ m e. h.keeps (us ++ (v ∷ vs)) c (length us) m t l (ap (f c) at ∙ e)) (λ w e k. follows-from (us ++ (w ∷ [])) vs e k))
    where
      go : (m : Checked (Moved C A)) → f c v ≡ m → ((m : Moved C A) → f c v ≡ value m → Is (set (us ++ (v ∷ vs)) (length us) m.held) m.carry) → ((w : A) (e : C) → Is ((us ++ (w ∷ [])) ++ vs) e → fold_checked F ((us ++ (w ∷ [])) ++ vs) (range (length (us ++ (w ∷ []))) (length vs)) ≡ bind (sweep f e vs) (after (us ++ (w ∷ [])))) → bind (bind m (λ m. value (set (us ++ (v ∷ vs)) (length us) m.held))) (λ xs. fold_checked F xs (range (suc (length us)) (length vs))) ≡ bind (bind m (λ m. bind (sweep f m.carry vs) (more m.held))) (after us)
      go (refused p) e k ih = refl
      go (value m) e k ih =
          let w = m.held in
          let put : set (us ++ (v ∷ vs)) (length us) w ≡ (us ++ (w ∷ [])) ++ vs = set-middle us v w vs ∙ snoc us w vs in
          let long : length (us ++ (w ∷ [])) ≡ suc (length us) = omega (arith, length-append us (w ∷ [])) in
          let kept : Is ((us ++ (w ∷ [])) ++ vs) m.carry = rw put at (k m e) in
          rw (put, ← long, ih w m.carry kept) (ended us w (sweep f m.carry vs))

  pub followed : (xs : List A) (c : C) → Is xs c → fold_checked F xs (range 0 (length xs)) ≡ dropped (sweep f c xs)
  followed xs c t = follows-from [] xs c t
