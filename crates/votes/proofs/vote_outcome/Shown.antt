-- At most four epochs in a rising list, on the numbers of a struct.
use mathlib.Core.Path.{◌≡◌, refl, ap, ◌∙◌}
use mathlib.Core.Bool.{Bool, true, false, cond}
use mathlib.Core.List.{List, [], ◌∷◌}
use Prim.Native.Nat.{ℕ, suc, ◌+◌, ◌≤◌}
use native.Mathlib.Omega.{arith}
use lib.Dec.{ltb, eqb}
use lib.ListN.{length}
use Rattle.definitions_votes.specs.Votes.{insert_rising, sorted_once}
use Rattle.votes.specs.declared.vote_outcome.Epochs.{Epochs}
use Rattle.votes.specs.declared.vote_outcome.OutcomeNumbers.{OutcomeNumbers}
use Rattle.votes.specs.Epochs.{four, epochs_for, insert_into}

length-insert : (e : ℕ) (xs : List ℕ) → length (insert_rising e xs) ≤ length xs + 1
unfolding insert_rising
length-insert e [] = omega arith
length-insert e (x ∷ xs) = go (ltb e x) (eqb e x) (length-insert e xs)
  where
    go : (t u : Bool) → length (insert_rising e xs) ≤ length xs + 1 → length (cond t (e ∷ x ∷ xs) (cond u (x ∷ xs) (x ∷ insert_rising e xs))) ≤ suc (length xs) + 1
    go true u h = omega arith
    go false true h = omega arith
    go false false h = omega arith

-- three places show the whole of a list of at most three
insert-into : (e : ℕ) (xs : List ℕ) → length xs ≤ 3 → insert_into e (epochs_for xs) ≡ epochs_for (insert_rising e xs)
unfolding insert_into epochs_for insert_rising
insert-into e [] h = refl
insert-into e (x ∷ []) h = go (ltb e x) (eqb e x)
  where
    go : (t u : Bool) → cond t (four 2 e x 0) (cond u (four 1 x 0 0) (four 2 x e 0)) ≡ epochs_for (cond t (e ∷ x ∷ []) (cond u (x ∷ []) (x ∷ e ∷ [])))
    go true u = refl
    go false true = refl
    go false false = refl
insert-into e (x ∷ y ∷ []) h = go (ltb e x) (eqb e x) (ltb e y) (eqb e y)
  where
    go : (t u t' u' : Bool) → cond t (four 3 e x y) (cond u (four 2 x y 0) (cond t' (four 3 x e y) (cond u' (four 2 x y 0) (four 3 x y e)))) ≡ epochs_for (cond t (e ∷ x ∷ y ∷ []) (cond u (x ∷ y ∷ []) (x ∷ cond t' (e ∷ y ∷ []) (cond u' (y ∷ []) (y ∷ e ∷ [])))))
    go true u t' u' = refl
    go false true t' u' = refl
    go false false true u' = refl
    go false false false true = refl
    go false false false false = refl
insert-into e (x ∷ y ∷ z ∷ []) h = go (ltb e x) (eqb e x) (ltb e y) (eqb e y) (ltb e z) (eqb e z)
  where
    go : (t u t' u' t'' u'' : Bool) → cond t (four 4 e x y) (cond u (four 3 x y z) (cond t' (four 4 x e y) (cond u' (four 3 x y z) (cond t'' (four 4 x y e) (cond u'' (four 3 x y z) (four 4 x y z)))))) ≡ epochs_for (cond t (e ∷ x ∷ y ∷ z ∷ []) (cond u (x ∷ y ∷ z ∷ []) (x ∷ cond t' (e ∷ y ∷ z ∷ []) (cond u' (y ∷ z ∷ []) (y ∷ cond t'' (e ∷ z ∷ []) (cond u'' (z ∷ []) (z ∷ e ∷ [])))))))
    go true u t' u' t'' u'' = refl
    go false true t' u' t'' u'' = refl
    go false false true u' t'' u'' = refl
    go false false false true t'' u'' = refl
    go false false false false true u'' = refl
    go false false false false false true = refl
    go false false false false false false = refl
insert-into e (x ∷ y ∷ z ∷ w ∷ r) h = absurd (omega arith)

no-epochs : four 0 0 0 0 ≡ epochs_for []
unfolding epochs_for
no-epochs = refl

-- four insertions, the last number first
pub four_inserted : (a b c d : ℕ) {n o p q : Epochs} → n ≡ insert_into d (four 0 0 0 0) → o ≡ insert_into c n → p ≡ insert_into b o → q ≡ insert_into a p → q ≡ epochs_for (sorted_once (a ∷ b ∷ c ∷ d ∷ []))
unfolding sorted_once
four_inserted a b c d {n} {o} {p} {q} e f g h =
    let xs = insert_rising d [] in
    let ys = insert_rising c xs in
    let zs = insert_rising b ys in
    let lx : length xs ≤ 1 = length-insert d [] in
    let ly : length ys ≤ 2 = omega (arith, length-insert c xs) in
    let lz : length zs ≤ 3 = omega (arith, length-insert b ys) in
    let n' : n ≡ epochs_for xs = e ∙ first in
    let o' : o ≡ epochs_for ys = f ∙ ap (insert_into c) n' ∙ insert-into c xs (omega arith) in
    let p' : p ≡ epochs_for zs = g ∙ ap (insert_into b) o' ∙ insert-into b ys (omega arith) in
    h ∙ ap (insert_into a) p' ∙ insert-into a zs lz
  where
    first : insert_into d (four 0 0 0 0) ≡ epochs_for (insert_rising d [])
    first = ap (insert_into d) no-epochs ∙ insert-into d [] (omega arith)

-- the numbers of an outcome
pub told-numbers : (xs : List ℕ) {l : Epochs} {a a' b b' : ℕ} → l ≡ epochs_for xs → a ≡ a' → b ≡ b' → ◌≡◌ {A = OutcomeNumbers} (record { epochs = l; previous_target = a; current_target = b }) (record { epochs = epochs_for xs; previous_target = a'; current_target = b' })
told-numbers xs p q r = λ i. record { epochs = p i; previous_target = q i; current_target = r i }
