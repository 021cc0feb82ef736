-- How many leave at an epoch. An exit leaves each count as it was, or raises one to at most the churn limit.
use mathlib.Core.Logic.{◌⊎◌, inl, inr, ⊎_elim}
use mathlib.Core.Path.{◌≡◌, refl, sym, ap, ◌∙◌}
use mathlib.Core.Bool.{Bool, true, false, cond, not}
use mathlib.Core.List.{List, [], ◌∷◌, map}
use Prim.Native.Nat.{ℕ, zero, suc, ◌+◌, max, ◌≤◌, ◌<◌}
use native.Mathlib.Omega.{arith}
use borrow.Author.Tests.{eqb-true, ne_eqb, leb-false}
use lib.Dec.{leb, eqb}
use lib.ListN.{length, get_or, set}
use Rattle.definitions.specs.Lists.{filter, maximum}
use Rattle.definitions.specs.Record.{Validator, FAR_FUTURE_EPOCH, nobody}
use Rattle.definitions.specs.Updates.{with_exit}
use Rattle.definitions.specs.Checked.{value, bind, add64}
use Rattle.definitions.specs.Document.Phase0.Helpers.{exit_epochs, exit_queue_churn}
use Rattle.laws.proofs.Checked.{bound, value_same, add64-value}
use Rattle.exit_queue.specs.Exits.{queue_epoch, exit_at}

-- One element is set

pub count_kept : {A : Type 0} (p : A → Bool) (vs : List A) (i : ℕ) (d u : A) → p u ≡ p (get_or vs i d) → length (filter p (set vs i u)) ≡ length (filter p vs)
unfolding filter
count_kept p [] i d u h = refl
count_kept p (v ∷ vs) zero d u h = rw h (go (p v))
  where
    go : (t : Bool) → length (cond t (u ∷ filter p vs) (filter p vs)) ≡ length (cond t (v ∷ filter p vs) (filter p vs))
    go true = refl
    go false = refl
count_kept p (v ∷ vs) (suc i) d u h = go (p v) (count_kept p vs i d u h)
  where
    go : (t : Bool) → length (filter p (set vs i u)) ≡ length (filter p vs) → length (cond t (v ∷ filter p (set vs i u)) (filter p (set vs i u))) ≡ length (cond t (v ∷ filter p vs) (filter p vs))
    go true h = ap suc h
    go false h = h

count-raised : {A : Type 0} (p : A → Bool) (vs : List A) (i : ℕ) (u : A) → length (filter p (set vs i u)) ≤ length (filter p vs) + cond (p u) 1 0
unfolding filter
count-raised p [] i u = omega arith
count-raised p (v ∷ vs) zero u = go (p v) (p u)
  where
    go : (s t : Bool) → length (cond t (u ∷ filter p vs) (filter p vs)) ≤ length (cond s (v ∷ filter p vs) (filter p vs)) + cond t 1 0
    go true true = omega arith
    go true false = omega arith
    go false true = omega arith
    go false false = omega arith
count-raised p (v ∷ vs) (suc i) u = go (p v) (count-raised p vs i u)
  where
    go : (s : Bool) → length (filter p (set vs i u)) ≤ length (filter p vs) + cond (p u) 1 0 → length (cond s (v ∷ filter p (set vs i u)) (filter p (set vs i u))) ≤ length (cond s (v ∷ filter p vs) (filter p vs)) + cond (p u) 1 0
    go true h = omega arith
    go false h = omega arith

-- The latest exit epoch

maximum-least : (least : ℕ) (xs : List ℕ) → least ≤ maximum least xs
unfolding maximum
maximum-least least [] = omega arith
maximum-least least (x ∷ xs) = omega (arith, maximum-least least xs)

-- nobody leaves after it
pub none-later : (least x : ℕ) (vs : List Validator) → maximum least (exit_epochs vs) < x → (x ≡ FAR_FUTURE_EPOCH → ⊥) → exit_queue_churn x vs ≡ 0
unfolding maximum filter
none-later least x [] l far = refl
none-later least x (v ∷ vs) l far =
    let p = go (eqb v.exit_epoch FAR_FUTURE_EPOCH) refl l in
    rw (ne_eqb v.exit_epoch x p.0) (none-later least x vs p.1 far)
  where
    rest : List Validator
    rest = filter (λ v. not (eqb v.exit_epoch FAR_FUTURE_EPOCH)) vs

    go : (t : Bool) → eqb v.exit_epoch FAR_FUTURE_EPOCH ≡ t → maximum least (map (λ v. v.exit_epoch) (cond (not t) (v ∷ rest) rest)) < x → (v.exit_epoch ≡ x → ⊥) × (maximum least (exit_epochs vs) < x)
    go true e l = (λ q. far (sym q ∙ eqb-true _ FAR_FUTURE_EPOCH e), l)
    go false e l = (λ q. omega arith, omega arith)

module _ (least limit : ℕ) (vs : List Validator) {exit : ℕ} (q : queue_epoch least limit vs ≡ value exit) where
  latest : ℕ
  latest = maximum least (exit_epochs vs)

  pub queued-late : least ≤ exit
  unfolding queue_epoch latest
  queued-late = go (leb limit (exit_queue_churn latest vs)) q
    where
      go : (t : Bool) → cond t (add64 latest 1) (value latest) ≡ value exit → least ≤ exit
      go true e = omega (arith, maximum-least least (exit_epochs vs), add64-value latest 1 e)
      go false e = omega (arith, maximum-least least (exit_epochs vs), value_same e)

  queued-room : 0 < limit → (exit ≡ FAR_FUTURE_EPOCH → ⊥) → exit_queue_churn exit vs < limit
  unfolding queue_epoch latest
  queued-room pos far = go (leb limit (exit_queue_churn latest vs)) refl q
    where
      go : (t : Bool) → leb limit (exit_queue_churn latest vs) ≡ t → cond t (add64 latest 1) (value latest) ≡ value exit → exit_queue_churn exit vs < limit
      go true f e = omega (arith, none-later least exit vs (omega (arith, add64-value latest 1 e)) far)
      go false f e = rw (← value_same e) (leb-false limit (exit_queue_churn latest vs) f)

-- What an exit that is not refused has done: nothing, or written an epoch of the queue

pub record Exited (least limit : ℕ) (vs : List Validator) (i : ℕ) (ws : List Validator) : Type 0 where
  pub exit : ℕ
  pub withdrawable : ℕ
  pub far : (get_or vs i nobody).exit_epoch ≡ FAR_FUTURE_EPOCH
  pub queued : queue_epoch least limit vs ≡ value exit
  pub is : ws ≡ set vs i (with_exit exit withdrawable (get_or vs i nobody))

pub exit_gave : (least limit delay : ℕ) (vs : List Validator) (i : ℕ) {ws : List Validator} → exit_at least limit delay vs i ≡ value ws → (ws ≡ vs) ⊎ Exited least limit vs i ws
unfolding exit_at
exit_gave least limit delay vs i {ws} q = go (eqb v.exit_epoch FAR_FUTURE_EPOCH) refl q
  where
    v : Validator
    v = get_or vs i nobody

    go : (t : Bool) → eqb v.exit_epoch FAR_FUTURE_EPOCH ≡ t → cond t (bind (queue_epoch least limit vs) (λ exit. bind (add64 exit delay) (λ withdrawable. value (set vs i (with_exit exit withdrawable v))))) (value vs) ≡ value ws → (ws ≡ vs) ⊎ Exited least limit vs i ws
    go false f q = inl (sym (value_same q))
    go true f q =
        let a = bound (queue_epoch least limit vs) _ q in
        let b = bound (add64 a.first delay) _ a.then in
        inr (record { exit = a.first; withdrawable = b.first; far = eqb-true _ FAR_FUTURE_EPOCH f; queued = a.gave; is = sym (value_same b.then) })

pub exit-counts : (least limit delay : ℕ) (vs : List Validator) (i x : ℕ) {ws : List Validator} → 0 < limit → (x ≡ FAR_FUTURE_EPOCH → ⊥) → exit_at least limit delay vs i ≡ value ws → exit_queue_churn x ws ≤ max (exit_queue_churn x vs) limit
exit-counts least limit delay vs i x {ws} pos far q = ⊎_elim (λ e. omega (arith, ap count e)) written (exit_gave least limit delay vs i q)
  where
    count : List Validator → ℕ
    count us = exit_queue_churn x us

    written : Exited least limit vs i ws → count ws ≤ max (count vs) limit
    written w = rw w.is (go (eqb w.exit x) refl (count-raised (λ u. eqb u.exit_epoch x) vs i after))
      where
        after : Validator
        after = with_exit w.exit w.withdrawable (get_or vs i nobody)

        go : (t : Bool) → eqb w.exit x ≡ t → count (set vs i after) ≤ count vs + cond t 1 0 → count (set vs i after) ≤ max (count vs) limit
        go false f h = omega arith
        go true f h =
            let same = eqb-true w.exit x f in
            let room : count vs < limit = rw (← same) (queued-room least limit vs w.queued pos (λ z. far (sym same ∙ z))) in
            omega arith
