-- The step finalizes the finalized epoch, the previous justified or the current justified one: no list is longer than three.
use mathlib.Core.Path.{◌≡◌, refl, sym, ap, ◌∙◌}
use mathlib.Core.Logic.{◌⊎◌, inl, inr}
use mathlib.Core.Bool.{Bool, true, false, cond, ◌&&◌}
use mathlib.Core.List.{List, [], ◌∷◌}
use Prim.Native.Nat.{ℕ, ◌+◌, ◌≤◌, ◌<◌}
use native.Mathlib.Omega.{arith}
use native.Mathlib.Decide.{dec_le}
use lib.Dec.{eqb}
use lib.ListN.{length}
use Rattle.definitions.specs.declared.Finality.{Finality}
use Rattle.definitions.specs.Document.Phase0.EpochProcessing.{bit, justified_bits, finalized_by}
use Rattle.laws.proofs.Checked.{not_value, value_same}
use Rattle.definitions_votes.specs.Exact.{current_of, roots_found, among, rising, nothing_open}
use Rattle.definitions_votes.specs.Votes.{finalized_after, sorted_once, outcome_of}
use Rattle.definitions_votes.specs.Laws.{AtMostThree}
use Rattle.definitions_votes.proofs.Core.{four-among}
use Rattle.definitions_votes.proofs.Listing.{sorted-rising, sorted-among}
use Rattle.definitions_votes.proofs.One.{among_first, among_later, above, rising-parts}
use Rattle.definitions_votes.proofs.Exact.{exact, Given, Over, either, work-is, later}

-- the three, by number
abbrev pick : Finality → ℕ → ℕ
pick old i = cond (eqb i 0) old.previous_justified_checkpoint.epoch (cond (eqb i 1) old.current_justified_checkpoint.epoch old.finalized_checkpoint.epoch)

record Picked (old : Finality) (e : ℕ) : Type 0 where
  pub i : ℕ
  pub below : i < 3
  pub is : e ≡ pick old i

finalized_picked : (epoch : ℕ) (old : Finality) (x y : Bool) → Picked old (finalized_after epoch old x y)
unfolding finalized_after finalized_by
finalized_picked epoch old x y =
    let bits = justified_bits x y old.justification_bits in
    let p = old.previous_justified_checkpoint in
    let c = old.current_justified_checkpoint in
    go
    (bit 1 bits && bit 2 bits && bit 3 bits && eqb (p.epoch + 3) epoch)
    (bit 1 bits && bit 2 bits && eqb (p.epoch + 2) epoch)
    (bit 0 bits && bit 1 bits && bit 2 bits && eqb (c.epoch + 2) epoch)
    (bit 0 bits && bit 1 bits && eqb (c.epoch + 1) epoch)
  where
    go : (a b c d : Bool) → Picked old (cond d old.current_justified_checkpoint (cond c old.current_justified_checkpoint (cond b old.previous_justified_checkpoint (cond a old.previous_justified_checkpoint old.finalized_checkpoint)))).epoch
    go a b c true = record { i = 1; below = omega arith; is = refl }
    go a b true false = record { i = 1; below = omega arith; is = refl }
    go a true false false = record { i = 0; below = omega arith; is = refl }
    go true false false false = record { i = 0; below = omega arith; is = refl }
    go false false false false = record { i = 2; below = omega arith; is = refl }

-- two of four picks are alike
few : (old : Finality) (xs : List ℕ) → rising xs ≡ true → ((e : ℕ) → among e xs ≡ true → Picked old e) → length xs ≤ 3
few old [] h f = omega arith
few old (x ∷ []) h f = omega arith
few old (x ∷ y ∷ []) h f = omega arith
few old (x ∷ y ∷ z ∷ []) h f = omega arith
few old (x ∷ y ∷ z ∷ w ∷ r) h f =
    let p = rising-parts x (y ∷ z ∷ w ∷ r) h in
    let q = rising-parts y (z ∷ w ∷ r) p.1 in
    let s = rising-parts z (w ∷ r) q.1 in
    let ay = among_first y (z ∷ w ∷ r) in
    let az = among_first z (w ∷ r) in
    let aw = among_first w r in
    let az' = among_later z y (z ∷ w ∷ r) az in
    let aw' = among_later w z (w ∷ r) aw in
    let aw'' = among_later w y (z ∷ w ∷ r) aw' in
    let X = f x (among_first x (y ∷ z ∷ w ∷ r)) in
    let Y = f y (among_later y x (y ∷ z ∷ w ∷ r) ay) in
    let Z = f z (among_later z x (y ∷ z ∷ w ∷ r) az') in
    let W = f w (among_later w x (y ∷ z ∷ w ∷ r) aw'') in
    let xy = apart X Y (above x y (y ∷ z ∷ w ∷ r) p.0 ay) in
    let xz = apart X Z (above x z (y ∷ z ∷ w ∷ r) p.0 az') in
    let xw = apart X W (above x w (y ∷ z ∷ w ∷ r) p.0 aw'') in
    let yz = apart Y Z (above y z (z ∷ w ∷ r) q.0 az) in
    let yw = apart Y W (above y w (z ∷ w ∷ r) q.0 aw') in
    let zw = apart Z W (above z w (w ∷ r) s.0 aw) in
    absurd (pigeons X.i Y.i Z.i W.i X.below Y.below Z.below W.below xy xz xw yz yw zw)
  where
    apart : {a b : ℕ} (A : Picked old a) (B : Picked old b) → a < b → A.i ≡ B.i → ⊥
    apart {a} {b} A B l e =
        let q : a ≡ b = A.is ∙ ap (pick old) e ∙ sym B.is in
        omega arith

    pigeons : (i j k l : ℕ) → i < 3 → j < 3 → k < 3 → l < 3 → (i ≡ j → ⊥) → (i ≡ k → ⊥) → (i ≡ l → ⊥) → (j ≡ k → ⊥) → (j ≡ l → ⊥) → (k ≡ l → ⊥) → ⊥
    pigeons i j k l a b c d e f g h m n = omega arith

outcome-few : (epoch : ℕ) (old : Finality) (x y z w : Bool) → length (outcome_of (finalized_after epoch old) x y z w).epochs ≤ 3
unfolding outcome_of
outcome-few epoch old x y z w = few old (sorted_once list) (sorted-rising list) (λ e a. each e (four-among e _ _ _ _ (sym (sorted-among e list) ∙ a)))
  where
    F : Bool → Bool → ℕ
    F = finalized_after epoch old

    list : List ℕ
    list = F x z ∷ F x w ∷ F y z ∷ F y w ∷ []

    moved : {e : ℕ} (u v : Bool) → e ≡ F u v → Picked old e
    moved u v q = let p = finalized_picked epoch old u v in record { i = p.i; below = p.below; is = q ∙ p.is }

    each : (e : ℕ) → (e ≡ F x z) ⊎ ((e ≡ F x w) ⊎ ((e ≡ F y z) ⊎ (e ≡ F y w))) → Picked old e
    each e (inl q) = moved x z q
    each e (inr (inl q)) = moved x w q
    each e (inr (inr (inl q))) = moved y z q
    each e (inr (inr (inr q))) = moved y w q

pub at_most-three : AtMostThree
at_most-three b o h = go (dec_le (current_of b) 1)
  where
    one-long : o ≡ nothing_open b → length o.epochs ≤ 3
    one-long e = rw e (omega arith)

    whole : 1 < current_of b → (t : Bool) → roots_found b ≡ t → length o.epochs ≤ 3
    whole l false r = absurd (not_value (sym ((exact b).missing l r) ∙ h))
    whole l true r = ends (either b l r)
      where
        ends : Given b l r ⊎ Over b l r → length o.epochs ≤ 3
        ends (inl g) = rw (value_same (sym h ∙ later b l r ∙ work-is b l r g)) (outcome-few (current_of b) b.finality g.previous_fewest g.previous_most g.current_fewest g.current_most)
        ends (inr v) = absurd (not_value (sym (later b l r ∙ v.work) ∙ h))

    go : Dec (current_of b ≤ 1) → length o.epochs ≤ 3
    go (yes l) = one-long (value_same (sym h ∙ (exact b).early l))
    go (no l) = whole (omega arith) (roots_found b) refl
