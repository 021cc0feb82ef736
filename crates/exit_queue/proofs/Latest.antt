-- The latest exit epoch, and how many leave at an epoch, where one validator is added or set.
use mathlib.Core.Path.{◌≡◌, refl}
use mathlib.Core.Bool.{Bool, true, false, cond, not}
use mathlib.Core.List.{List, [], ◌∷◌, ◌++◌, map}
use Prim.Native.Nat.{ℕ, zero, suc, ◌+◌, max, ◌<◌}
use native.Mathlib.Omega.{arith}
use borrow.Author.Tests.{eq-eqb}
use lib.Dec.{eqb}
use lib.ListN.{length, get_or, set}
use Rattle.definitions.specs.Lists.{filter, maximum}
use Rattle.definitions.specs.Record.{Validator, FAR_FUTURE_EPOCH, nobody}
use Rattle.definitions.specs.Document.Phase0.Helpers.{exit_epochs}
use Rattle.exit_queue.specs.Queue.{last_after}

last_swapped : (m x y : ℕ) → last_after (last_after m x) y ≡ last_after (last_after m y) x
unfolding last_after
last_swapped m x y = go (eqb x FAR_FUTURE_EPOCH) (eqb y FAR_FUTURE_EPOCH)
  where
    go : (s t : Bool) → cond t (cond s m (max x m)) (max y (cond s m (max x m))) ≡ cond s (cond t m (max y m)) (max x (cond t m (max y m)))
    go true true = refl
    go true false = refl
    go false true = refl
    go false false = omega arith

last-far : (m x : ℕ) → x ≡ FAR_FUTURE_EPOCH → last_after m x ≡ m
unfolding last_after
last-far m x f = rw (eq-eqb x FAR_FUTURE_EPOCH f)

module _ (least : ℕ) where
  abbrev pub latest : List Validator → ℕ
  latest vs = maximum least (exit_epochs vs)

  pub latest_cons : (v : Validator) (vs : List Validator) → latest (v ∷ vs) ≡ last_after (latest vs) v.exit_epoch
  unfolding last_after maximum filter
  latest_cons v vs = go (eqb v.exit_epoch FAR_FUTURE_EPOCH)
    where
      rest : List Validator
      rest = filter (λ v. not (eqb v.exit_epoch FAR_FUTURE_EPOCH)) vs

      go : (t : Bool) → maximum least (map (λ v. v.exit_epoch) (cond (not t) (v ∷ rest) rest)) ≡ cond t (latest vs) (max v.exit_epoch (latest vs))
      go true = refl
      go false = refl

  pub latest-last : (us : List Validator) (w : Validator) → latest (us ++ (w ∷ [])) ≡ last_after (latest us) w.exit_epoch
  latest-last [] w = latest_cons w []
  latest-last (u ∷ us) w = rw (latest_cons u (us ++ (w ∷ [])), latest-last us w, latest_cons u us) (last_swapped (latest us) w.exit_epoch u.exit_epoch)

  -- v had no exit epoch
  pub latest-set : (vs : List Validator) (i : ℕ) (w : Validator) → i < length vs → (get_or vs i nobody).exit_epoch ≡ FAR_FUTURE_EPOCH → latest (set vs i w) ≡ last_after (latest vs) w.exit_epoch
  latest-set [] i w l f = absurd (omega arith)
  latest-set (v ∷ vs) zero w l f = rw (latest_cons w vs, latest_cons v vs, last-far (latest vs) v.exit_epoch f)
  latest-set (v ∷ vs) (suc i) w l f =
      rw (latest_cons v (set vs i w), latest-set vs i w (omega arith) f, latest_cons v vs) (last_swapped (latest vs) w.exit_epoch v.exit_epoch)

  pub latest-kept : (vs : List Validator) (i : ℕ) (w : Validator) → w.exit_epoch ≡ (get_or vs i nobody).exit_epoch → latest (set vs i w) ≡ latest vs
  latest-kept [] i w e = refl
  latest-kept (v ∷ vs) zero w e = rw (latest_cons w vs, latest_cons v vs, e)
  latest-kept (v ∷ vs) (suc i) w e = rw (latest_cons v (set vs i w), latest_cons v vs, latest-kept vs i w e)

pub count_set : {A : Type 0} (p : A → Bool) (vs : List A) (i : ℕ) (d u : A) → i < length vs → p (get_or vs i d) ≡ false → length (filter p (set vs i u)) ≡ length (filter p vs) + cond (p u) 1 0
unfolding filter
count_set p [] i d u l h = absurd (omega arith)
count_set p (v ∷ vs) zero d u l h = rw h (go (p u))
  where
    go : (t : Bool) → length (cond t (u ∷ filter p vs) (filter p vs)) ≡ length (filter p vs) + cond t 1 0
    go true = omega arith
    go false = omega arith
count_set p (v ∷ vs) (suc i) d u l h = go (p v) (count_set p vs i d u (omega arith) h)
  where
    go : (t : Bool) → length (filter p (set vs i u)) ≡ length (filter p vs) + cond (p u) 1 0 → length (cond t (v ∷ filter p (set vs i u)) (filter p (set vs i u))) ≡ length (cond t (v ∷ filter p vs) (filter p vs)) + cond (p u) 1 0
    go true h = omega arith
    go false h = h
