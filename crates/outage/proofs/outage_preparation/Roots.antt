-- The root at many slots: once every place has it, putting it again changes nothing.
use mathlib.Core.Bool.{Bool, true, false}
use mathlib.Core.List.{List, [], ◌∷◌}
use mathlib.Core.Path.{◌≡◌, refl, sym, ap, ◌∙◌}
use Prim.Native.Nat.{ℕ, zero, suc, ◌+◌, ◌-◌, ◌*◌, ◌/◌, ◌%◌, ◌≤◌, ◌<◌, min}
use native.Mathlib.Nat.{div-add-mod, mod-lt, mod-eq_of_lt, add-mul-mod_self_left, mul-add, min-eq_left, min-eq_right}
use native.Mathlib.Numerals.{add-one}
use native.Mathlib.Omega.{arith}
use borrow.Author.Tests.{ltb-true, ltb-false}
use lib.Dec.{ltb}
use lib.ListN.{length, set}
use lib.Seq.{sets, length-sets, set-set, set_comm}
use Rattle.definitions_file.specs.OutagePreparation.{put_root, put_roots}

-- Stores at different places

set_first : (xs : List ℕ) (i v j : ℕ) (ys : List ℕ) → i < j → sets (set xs i v) j ys ≡ set (sets xs j ys) i v
set_first xs i v j [] l = refl
set_first xs i v j (y ∷ ys) l =
    ap (λ (t : List ℕ). sets t (suc j) ys) (set_comm xs i j v y (λ e. absurd (omega arith))) ∙ set_first (set xs j y) i v (suc j) ys (omega arith)

sets-twice : (xs : List ℕ) (i : ℕ) (ys : List ℕ) → sets (sets xs i ys) i ys ≡ sets xs i ys
sets-twice xs i [] = refl
sets-twice xs i (y ∷ ys) =
    ap (λ (t : List ℕ). sets t (suc i) ys) (sym (set_first (set xs i y) i y (suc i) ys (omega arith)) ∙ ap (λ (t : List ℕ). sets t (suc i) ys) (set-set xs i y y))
    ∙ sets-twice (set xs i y) (suc i) ys

sets-apart : (xs : List ℕ) (i : ℕ) (ys : List ℕ) (j : ℕ) (zs : List ℕ) → i + length ys ≤ j → sets (sets xs i ys) j zs ≡ sets (sets xs j zs) i ys
sets-apart xs i [] j zs l = refl
sets-apart xs i (y ∷ ys) j zs l =
    sets-apart (set xs i y) (suc i) ys j zs (omega arith) ∙ ap (λ (t : List ℕ). sets t (suc i) ys) (set_first xs i y j zs (omega arith))

-- A slot at each place

record Reached (S slot k : ℕ) : Type 0 where
  pub later : ℕ
  pub soon : later < S
  pub there : (slot + later) % S ≡ k

reached : (S slot k : ℕ) → k < S → Reached S slot k
reached S slot k l = by (ltb k (slot % S)) refl
  where
    by : (t : Bool) → ltb k (slot % S) ≡ t → Reached S slot k
    by false q =
        let e = div-add-mod slot S in
        let h = ltb-false k (slot % S) q in
        let f : slot + (k - slot % S) ≡ k + S * (slot / S) = omega (arith, e, h) in
        record { later = k - slot % S; soon = omega arith; there = rw f (add-mul-mod_self_left k S (slot / S) ∙ mod-eq_of_lt l) }
    by true q =
        let e = div-add-mod slot S in
        let h = ltb-true k (slot % S) q in
        let m = mod-lt slot {m = S} (omega arith) in
        let d = mul-add S (slot / S) 1 in
        let f : slot + (S - slot % S + k) ≡ k + S * (slot / S + 1) = omega (arith, e, h, m, d) in
        record { later = S - slot % S + k; soon = omega (arith, h, m); there = rw f (add-mul-mod_self_left k S (slot / S + 1) ∙ mod-eq_of_lt l) }

module _ (S : ℕ) (root : List ℕ) where
  pub roots-more : (roots : List ℕ) (slot i : ℕ) → put_root S root (put_roots S root roots slot i) (slot + i) ≡ put_roots S root roots slot (suc i)
  unfolding put_roots
  roots-more roots slot zero = let e : slot + 0 ≡ slot = omega arith in rw e
  roots-more roots slot (suc i) = let e : slot + suc i ≡ suc slot + i = omega arith in rw e (roots-more (put_root S root roots slot) (suc slot) i)

  pub length-roots : (roots : List ℕ) (slot i : ℕ) → length (put_roots S root roots slot i) ≡ length roots
  unfolding put_roots
  length-roots roots slot zero = refl
  length-roots roots slot (suc i) = length-roots (put_root S root roots slot) (suc slot) i ∙ length-sets roots (32 * (slot % S)) root

  -- the place k has the root: putting it there changes nothing
  abbrev Has : List ℕ → ℕ → Type 0
  Has xs k = sets xs (32 * k) root ≡ xs

  module _ (long : length root ≡ 32) where
    has_kept : (xs : List ℕ) (j k : ℕ) → Has xs k → Has (sets xs (32 * j) root) k
    has_kept xs j k h = by (ltb j k) (ltb k j) refl refl
      where
        after : sets (sets xs (32 * k) root) (32 * j) root ≡ sets xs (32 * j) root
        after = ap (λ (t : List ℕ). sets t (32 * j) root) h

        by : (t u : Bool) → ltb j k ≡ t → ltb k j ≡ u → Has (sets xs (32 * j) root) k
        by true u p q = let l = ltb-true j k p in sets-apart xs (32 * j) root (32 * k) root (omega arith) ∙ after
        by false true p q = let l = ltb-true k j q in sym (sets-apart xs (32 * k) root (32 * j) root (omega arith)) ∙ after
        by false false p q =
            let l = ltb-false j k p in
            let m = ltb-false k j q in
            let e : j ≡ k = omega arith in
            rw e (sets-twice xs (32 * k) root)

    -- every slot's place has it
    has : (roots : List ℕ) (slot i j : ℕ) → j < i → Has (put_roots S root roots slot i) ((slot + j) % S)
    has roots slot zero j l = absurd (omega arith)
    has roots slot (suc i) j l = rw (← roots-more roots slot i) (by (has roots slot i j) (ltb j i) refl)
      where
        by : (j < i → Has (put_roots S root roots slot i) ((slot + j) % S)) → (t : Bool) → ltb j i ≡ t → Has (put_root S root (put_roots S root roots slot i) (slot + i)) ((slot + j) % S)
        by h true q = has_kept (put_roots S root roots slot i) ((slot + i) % S) ((slot + j) % S) (h (ltb-true j i q))
        by h false q =
            let m = ltb-false j i q in
            let e : j ≡ i = omega arith in
            rw e (sets-twice (put_roots S root roots slot i) (32 * ((slot + i) % S)) root)

    -- every place has it after as many slots as there are places
    has_all : (roots : List ℕ) (slot k : ℕ) → k < S → Has (put_roots S root roots slot S) k
    has_all roots slot k l =
        let r = reached S slot k l in
        rw r.there at (has roots slot S r.later r.soon)

    roots-again : (roots : List ℕ) (slot m : ℕ) → 0 < S → put_roots S root roots slot (S + m) ≡ put_roots S root roots slot S
    roots-again roots slot zero p = let e : S + 0 ≡ S = omega arith in rw e
    roots-again roots slot (suc m) p =
        let e : S + suc m ≡ suc (S + m) = omega arith in
        ap (put_roots S root roots slot) e
        ∙ sym (roots-more roots slot (S + m))
        ∙ ap (λ (t : List ℕ). put_root S root t (slot + (S + m))) (roots-again roots slot m p)
        ∙ has_all roots slot ((slot + (S + m)) % S) (mod-lt (slot + (S + m)) p)

    pub roots-full : (roots : List ℕ) (slot count : ℕ) → 0 < S → S ≤ count → put_roots S root roots slot S ≡ put_roots S root roots slot count
    roots-full roots slot count p l =
        let e : S + (count - S) ≡ count = omega arith in
        sym (roots-again roots slot (count - S) p) ∙ ap (put_roots S root roots slot) e

-- The loop: one slot a turn, for as many turns as there are slots or places, whichever is less
pub record Rooting (S : ℕ) (root before : List ℕ) (slot n i : ℕ) (roots : List ℕ) : Type 0 where
  pub below : i ≤ n
  pub as_long : length roots ≡ length before
  pub held : roots ≡ put_roots S root before slot i

pub rooting_none : (S : ℕ) (root before : List ℕ) (slot n : ℕ) → Rooting S root before slot n 0 before
unfolding put_roots
rooting_none S root before slot n = record { below = omega arith; as_long = refl; held = refl }

module _ {S : ℕ} {root before : List ℕ} {slot n i : ℕ} {roots : List ℕ} (r : Rooting S root before slot n i roots) where
  pub rooting_more : {after : List ℕ} → i < n → after ≡ put_root S root roots (slot + i) → Rooting S root before slot n (i + 1) after
  rooting_more l e =
      let h = e ∙ ap (λ (t : List ℕ). put_root S root t (slot + i)) r.held ∙ roots-more S root before slot i in
      record { below = omega arith; as_long = ap length h ∙ length-roots S root before slot (suc i); held = rw (add-one i) h }

  pub rooting_all : (count : ℕ) → length root ≡ 32 → 0 < S → n ≡ min count S → n ≤ i → roots ≡ put_roots S root before slot count
  rooting_all count long p e l = r.held ∙ by (ltb count S) refl
    where
      by : (t : Bool) → ltb count S ≡ t → put_roots S root before slot i ≡ put_roots S root before slot count
      by true q =
          let h = ltb-true count S q in
          let k : count ≤ S = omega arith in
          let f : i ≡ count = omega (arith, e, min-eq_left k, r.below) in
          rw f
      by false q =
          let h = ltb-false count S q in
          let f : i ≡ S = omega (arith, e, min-eq_right h, r.below) in
          rw f (roots-full S root long before slot count p h)
