-- The pair follows the registry: one validator more, one whose exit epoch is written, and one whose exit epoch is kept.
use mathlib.Core.Path.{◌≡◌, refl, sym, ap, ◌∙◌}
use mathlib.Core.Bool.{Bool, true, false, cond}
use mathlib.Core.List.{List, [], ◌∷◌, ◌++◌}
use Prim.Native.Nat.{ℕ, ◌+◌, max, ◌≤◌, ◌<◌}
use native.Mathlib.Omega.{arith}
use borrow.Author.Tests.{ltb-true, ltb-false, eqb-true, eqb-false, eq-eqb, ne_eqb}
use lib.Dec.{ltb, eqb}
use lib.ListN.{length, get_or, set}
use Rattle.definitions.specs.Lists.{filter, maximum}
use Rattle.definitions.specs.Record.{Validator, FAR_FUTURE_EPOCH, nobody}
use Rattle.definitions.specs.Document.Phase0.Helpers.{exit_epochs, exit_queue_churn}
use Rattle.laws.proofs.Loops.Filtered.{filter-last, filter_le}
use Rattle.exit_queue.proofs.exits.Counts.{count_kept, none-later}
use Rattle.definitions.specs.declared.ExitQueue.{ExitQueue}
use Rattle.exit_queue.specs.Queue.{Tracks, last_after, number_after, joined, start_pair, moved}
use Rattle.exit_queue.proofs.Latest.{latest, latest-last, latest-set, latest-kept, count_set}

pub last-real : (m x : ℕ) → (m ≡ FAR_FUTURE_EPOCH → ⊥) → last_after m x ≡ FAR_FUTURE_EPOCH → ⊥
unfolding last_after
last-real m x f = go (eqb x FAR_FUTURE_EPOCH) refl (ltb m x) refl
  where
    go : (s : Bool) → eqb x FAR_FUTURE_EPOCH ≡ s → (t : Bool) → ltb m x ≡ t → cond s m (max x m) ≡ FAR_FUTURE_EPOCH → ⊥
    go true a t b e = f e
    go false a true b e = eqb-false x FAR_FUTURE_EPOCH a (omega (arith, ltb-true m x b))
    go false a false b e = f (omega (arith, ltb-false m x b))

-- how many leave at the last epoch once one more leaves at x, from how many do before
number_is : (least : ℕ) (us : List Validator) {m k : ℕ} (x : ℕ) → m ≡ latest least us → k ≡ exit_queue_churn m us → (m ≡ FAR_FUTURE_EPOCH → ⊥) → number_after m k x ≡ exit_queue_churn (last_after m x) us + cond (eqb x (last_after m x)) 1 0
unfolding last_after number_after
number_is least us {m} {k} x e f r = go (eqb x FAR_FUTURE_EPOCH) refl (ltb m x) refl (eqb x m) refl
  where
    count : ℕ → ℕ
    count y = exit_queue_churn y us

    go : (s : Bool) → eqb x FAR_FUTURE_EPOCH ≡ s → (t : Bool) → ltb m x ≡ t → (w : Bool) → eqb x m ≡ w → cond s k (cond t 1 (cond w (k + 1) k)) ≡ count (cond s m (max x m)) + cond (eqb x (cond s m (max x m))) 1 0
    go true a t b w c = rw (ne_eqb x m (λ z. r (sym z ∙ eqb-true x FAR_FUTURE_EPOCH a))) (omega (arith, f))
    go false a true b w c =
        let l : max x m ≡ x = omega (arith, ltb-true m x b) in
        let z : count x ≡ 0 = none-later least x us (omega (arith, e, ltb-true m x b)) (eqb-false x FAR_FUTURE_EPOCH a) in
        rw (l, eq-eqb x x refl, z)
    go false a false b true c =
        let l : max x m ≡ m = omega (arith, ltb-false m x b) in
        rw (l, c) (omega (arith, f))
    go false a false b false c =
        let l : max x m ≡ m = omega (arith, ltb-false m x b) in
        rw (l, c) (omega (arith, f))

module _ {least : ℕ} {vs : List Validator} {q : ExitQueue} (t : Tracks least vs q) where
  -- ws has one exit more than vs, at x, which is none where it is FAR
  joins : (ws : List Validator) (x : ℕ) → latest least ws ≡ last_after (latest least vs) x → ((y : ℕ) → (y ≡ FAR_FUTURE_EPOCH → ⊥) → exit_queue_churn y ws ≡ exit_queue_churn y vs + cond (eqb x y) 1 0) → Tracks least ws (joined q x)
  joins ws x e f =
      let real = last-real q.last_epoch x t.real in
      record {
        last = ap (λ (l : ℕ). last_after l x) t.last ∙ sym e;
        number = number_is least vs x t.last t.number t.real ∙ sym (f (last_after q.last_epoch x) real);
        real = real;
      }

  pub tracks-last : (w : Validator) → Tracks least (vs ++ (w ∷ [])) (joined q w.exit_epoch)
  tracks-last w = joins (vs ++ (w ∷ [])) w.exit_epoch (latest-last least vs w) (λ y r. filter-last (λ v. eqb v.exit_epoch y) vs w)

  pub tracks-kept : (i : ℕ) (w : Validator) → w.exit_epoch ≡ (get_or vs i nobody).exit_epoch → Tracks least (set vs i w) q
  tracks-kept i w e =
      record {
        last = t.last ∙ sym (latest-kept least vs i w e);
        number = t.number ∙ sym (count_kept (λ v. eqb v.exit_epoch q.last_epoch) vs i nobody w (ap (λ (x : ℕ). eqb x q.last_epoch) e));
        real = t.real;
      }

  -- the validator at i becomes w, and keeps its exit epoch where it has one
  pub tracks-set : (i : ℕ) (w : Validator) → i < length vs → (((get_or vs i nobody).exit_epoch ≡ FAR_FUTURE_EPOCH → ⊥) → w.exit_epoch ≡ (get_or vs i nobody).exit_epoch) → Tracks least (set vs i w) (moved q (get_or vs i nobody) w)
  unfolding moved
  tracks-set i w l keeps = go (eqb (get_or vs i nobody).exit_epoch FAR_FUTURE_EPOCH) refl
    where
      go : (s : Bool) → eqb (get_or vs i nobody).exit_epoch FAR_FUTURE_EPOCH ≡ s → Tracks least (set vs i w) (cond s (joined q w.exit_epoch) q)
      go true a =
          let far = eqb-true (get_or vs i nobody).exit_epoch FAR_FUTURE_EPOCH a in
          joins (set vs i w) w.exit_epoch (latest-set least vs i w l far) (λ y r. count_set (λ v. eqb v.exit_epoch y) vs i nobody w l (ne_eqb _ y (λ z. r (sym z ∙ far))))
      go false a = tracks-kept i w (keeps (eqb-false (get_or vs i nobody).exit_epoch FAR_FUTURE_EPOCH a))

  pub tracks-few : q.number ≤ length vs
  tracks-few = omega (arith, t.number, filter_le (λ v. eqb v.exit_epoch q.last_epoch) vs)

pub tracks-none : (least : ℕ) → least < FAR_FUTURE_EPOCH → Tracks least [] (record { last_epoch = least; number = 0 })
unfolding maximum filter
tracks-none least l = record { last = refl; number = refl; real = λ e. omega arith }

maximum-from : (least : ℕ) (xs : List ℕ) → maximum least xs ≡ max least (maximum 0 xs)
unfolding maximum
maximum-from least [] = omega arith
maximum-from least (x ∷ xs) = omega (arith, maximum-from least xs)

-- from the record's pair
pub tracks-start : {least : ℕ} {vs : List Validator} {q : ExitQueue} → least < FAR_FUTURE_EPOCH → Tracks 0 vs q → Tracks least vs (start_pair least q)
unfolding start_pair
tracks-start {least} {vs} {q} l t = go (ltb q.last_epoch least) refl
  where
    go : (b : Bool) → ltb q.last_epoch least ≡ b → Tracks least vs (cond b (record { last_epoch = least; number = 0 }) q)
    go true e =
        record {
          last = omega (arith, ltb-true q.last_epoch least e, t.last, maximum-from least (exit_epochs vs));
          number = sym (none-later 0 least vs (omega (arith, ltb-true q.last_epoch least e, t.last)) (λ f. omega arith));
          real = λ f. omega arith;
        }
    go false e =
        record {
          last = omega (arith, ltb-false q.last_epoch least e, t.last, maximum-from least (exit_epochs vs));
          number = t.number;
          real = t.real;
        }
