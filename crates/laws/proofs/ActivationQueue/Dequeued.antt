-- The document's sorted queue, decided one by one: its first `limit` are those with fewer than `limit` ahead.
use mathlib.Core.Path.{◌≡◌, refl, sym, ap, ◌∙◌, subst}
use mathlib.Core.Bool.{Bool, true, false, cond, ◌&&◌, ◌||◌}
use mathlib.Core.List.{List, [], ◌∷◌, foldl}
use Prim.Native.Nat.{ℕ, zero, suc, ◌≤◌, ◌<◌}
use native.Mathlib.Decide.{ℕ_discrete, dec_lt}
use native.Mathlib.Omega.{arith}
use borrow.Author.Tests.{eq-eqb, ne_eqb}
use lib.Dec.{T, ltb, eqb, ltb→lt, lt→ltb, eqb→eq, eqb_refl}
use lib.ListN.{length, get_or, take, length-set}
use lib.Seq.{get_or-set_same, get_or-set_other, ext_get_or}
use Rattle.definitions.specs.Record.{Validator, nobody}
use Rattle.definitions.specs.Updates.{with_activation}
use Rattle.definitions.specs.Document.Phase0.Helpers.{is_eligible_for_activation}
use Rattle.definitions.specs.Document.Phase0.EpochProcessing.{queues_before, activation_queue, activate_at, dequeued}
use Rattle.laws.specs.Queue.{ahead, map_below, activated_at, activated}
use Rattle.laws.proofs.ActivationQueue.Rank.{StrictTotal, among, rank}

-- The queue's order is strict and total

-- (a, i) before (b, j), as numbers
record Earlier (a i b j : ℕ) : Type 0 where
  low : a ≤ b
  tie : b ≤ a → i < j

abbrev earlier : ℕ → ℕ → ℕ → ℕ → Bool
earlier a i b j = ltb a b || (eqb a b && ltb i j)

from-earlier : (a i b j : ℕ) → T (earlier a i b j) → Earlier a i b j
from-earlier a i b j t = go (ltb a b) (ltb→lt a b) (eqb a b) (eqb→eq a b) t
  where
    go : (l : Bool) → (T l → a < b) → (m : Bool) → (T m → a ≡ b) → T (l || (m && ltb i j)) → Earlier a i b j
    go true p m q u = let h = p tt in record { low = omega arith; tie = λ k. absurd (omega arith) }
    go false p true q u = let e = q tt in record { low = omega arith; tie = λ k. ltb→lt i j u }
    go false p false q u = absurd u

to-earlier : (a i b j : ℕ) → Earlier a i b j → T (earlier a i b j)
to-earlier a i b j h = go (dec_lt a b)
  where
    left : (l : Bool) (m : Bool) → T l → T (l || m)
    left true m t = tt
    left false m t = absurd t

    right : (l : Bool) (m n : Bool) → T m → T n → T (l || (m && n))
    right true m n s t = tt
    right false true n s t = t
    right false false n s t = absurd s

    go : Dec (a < b) → T (earlier a i b j)
    go (yes l) = left (ltb a b) (eqb a b && ltb i j) (lt→ltb a b l)
    go (no n) =
        let e : a ≡ b = omega (arith, h.low) in
        right (ltb a b) (eqb a b) (ltb i j) (subst (λ (x : ℕ). T (eqb a x)) e (eqb_refl a)) (lt→ltb i j (h.tie (omega arith)))

abbrev since : List Validator → ℕ → ℕ
since vs i = (get_or vs i nobody).activation_eligibility_epoch

pub queue-order : (vs : List Validator) → StrictTotal (queues_before vs)
queue-order vs =
    record {
      irreflexive = λ i t. let h = from-earlier (since vs i) i (since vs i) i t in absurd (omega (arith, h.tie (omega arith)));
      transitive = λ i j k t u.
          let h = from-earlier (since vs i) i (since vs j) j t in
          let g = from-earlier (since vs j) j (since vs k) k u in
          to-earlier (since vs i) i (since vs k) k
          (record { low = omega (arith, h.low, g.low); tie = λ l. omega (arith, h.tie (omega (arith, h.low, g.low)), g.tie (omega (arith, h.low, g.low))) });
      total = λ i j d n. to-earlier (since vs j) j (since vs i) i (record { low = low i j n (dec_lt (since vs i) (since vs j)); tie = λ k. tie i j d n k (dec_lt i j) });
    }
  where
    low : (i j : ℕ) → (T (queues_before vs i j) → ⊥) → Dec (since vs i < since vs j) → since vs j ≤ since vs i
    low i j n (yes l) = absurd (n (to-earlier (since vs i) i (since vs j) j (record { low = omega arith; tie = λ k. absurd (omega arith) })))
    low i j n (no l) = omega arith

    tie : (i j : ℕ) → (i ≡ j → ⊥) → (T (queues_before vs i j) → ⊥) → since vs i ≤ since vs j → Dec (i < j) → j < i
    tie i j d n k (yes l) = absurd (n (to-earlier (since vs i) i (since vs j) j (record { low = k; tie = λ m. l })))
    tie i j d n k (no l) = omega arith

-- Activating each of a list of indices

length-each : (epoch : ℕ) (is : List ℕ) (vs : List Validator) → length (foldl (activate_at epoch) vs is) ≡ length vs
length-each epoch [] vs = refl
length-each epoch (i ∷ is) vs = length-each epoch is (activate_at epoch vs i) ∙ length-set vs i (with_activation epoch (get_or vs i nobody))

one_at : (epoch : ℕ) (vs : List Validator) (x i : ℕ) → i < length vs → get_or (activate_at epoch vs x) i nobody ≡ cond (eqb i x) (with_activation epoch (get_or vs i nobody)) (get_or vs i nobody)
one_at epoch vs x i l = go (ℕ_discrete i x)
  where
    go : Dec (i ≡ x) → get_or (activate_at epoch vs x) i nobody ≡ cond (eqb i x) (with_activation epoch (get_or vs i nobody)) (get_or vs i nobody)
    go (yes e) = rw (eq-eqb i x e) (subst (λ (y : ℕ). get_or (activate_at epoch vs y) i nobody ≡ with_activation epoch (get_or vs i nobody)) e (get_or-set_same vs i (with_activation epoch (get_or vs i nobody)) nobody l))
    go (no n) = rw (ne_eqb i x n) (get_or-set_other vs x i (with_activation epoch (get_or vs x nobody)) nobody n)

each_at : (epoch : ℕ) (is : List ℕ) (vs : List Validator) (i : ℕ) → i < length vs → get_or (foldl (activate_at epoch) vs is) i nobody ≡ cond (among i is) (with_activation epoch (get_or vs i nobody)) (get_or vs i nobody)
each_at epoch [] vs i l = refl
each_at epoch (x ∷ is) vs i l =
    each_at epoch is (activate_at epoch vs x) i (omega (arith, l, length-set vs x (with_activation epoch (get_or vs x nobody))))
    ∙ ap (λ (v : Validator). cond (among i is) (with_activation epoch v) v) (one_at epoch vs x i l)
    ∙ both (eqb i x) (among i is)
  where
    both : (a b : Bool) → cond b (with_activation epoch (cond a (with_activation epoch (get_or vs i nobody)) (get_or vs i nobody))) (cond a (with_activation epoch (get_or vs i nobody)) (get_or vs i nobody)) ≡ cond (a || b) (with_activation epoch (get_or vs i nobody)) (get_or vs i nobody)
    both true true = refl
    both true false = refl
    both false b = refl

-- The queue, one by one

pub length-dequeued : (epoch limit finalized_epoch : ℕ) (vs : List Validator) → length (dequeued epoch limit finalized_epoch vs) ≡ length vs
unfolding dequeued
length-dequeued epoch limit finalized_epoch vs = length-each epoch (take limit (activation_queue finalized_epoch vs)) vs

pub dequeued-at : (epoch limit finalized_epoch : ℕ) (vs : List Validator) (i : ℕ) → i < length vs → get_or (dequeued epoch limit finalized_epoch vs) i nobody ≡ cond (is_eligible_for_activation finalized_epoch (get_or vs i nobody) && ltb (ahead finalized_epoch vs i) limit) (with_activation epoch (get_or vs i nobody)) (get_or vs i nobody)
unfolding dequeued activation_queue ahead
dequeued-at epoch limit finalized_epoch vs i l =
    each_at epoch (take limit (activation_queue finalized_epoch vs)) vs i l
    ∙ ap (λ (b : Bool). cond b (with_activation epoch (get_or vs i nobody)) (get_or vs i nobody)) (rank (queues_before vs) (queue-order vs) (λ j. is_eligible_for_activation finalized_epoch (get_or vs j nobody)) (length vs) i limit l)

pub length-below : (stop : ℕ) (f : ℕ → Validator → Validator) (vs : List Validator) → length (map_below stop f vs) ≡ length vs
unfolding map_below
length-below zero f vs = refl
length-below (suc stop) f [] = refl
length-below (suc stop) f (v ∷ vs) = ap suc (length-below stop (λ i. f (suc i)) vs)

pub below_at : (stop : ℕ) (f : ℕ → Validator → Validator) (vs : List Validator) (i : ℕ) (d : Validator) → i < stop → i < length vs → get_or (map_below stop f vs) i d ≡ f i (get_or vs i d)
unfolding map_below
below_at zero f vs i d l m = absurd (omega arith)
below_at (suc stop) f [] i d l m = absurd (omega arith)
below_at (suc stop) f (v ∷ vs) zero d l m = refl
below_at (suc stop) f (v ∷ vs) (suc i) d l m = below_at stop (λ j. f (suc j)) vs i d (omega arith) (omega arith)

-- the whole registry
pub dequeued-is : (epoch limit finalized_epoch : ℕ) (vs : List Validator) → dequeued epoch limit finalized_epoch vs ≡ activated epoch limit finalized_epoch (length vs) vs
unfolding activated activated_at
dequeued-is epoch limit finalized_epoch vs =
    ext_get_or nobody (dequeued epoch limit finalized_epoch vs) (map_below (length vs) f vs) (n ∙ sym (length-below (length vs) f vs)) at
  where
    f : ℕ → Validator → Validator
    f = activated_at epoch limit finalized_epoch vs

    n : length (dequeued epoch limit finalized_epoch vs) ≡ length vs
    n = length-dequeued epoch limit finalized_epoch vs

    at : (i : ℕ) → i < length (dequeued epoch limit finalized_epoch vs) → get_or (dequeued epoch limit finalized_epoch vs) i nobody ≡ get_or (map_below (length vs) f vs) i nobody
    at i l =
        let k : i < length vs = omega (arith, n) in
        dequeued-at epoch limit finalized_epoch vs i k ∙ sym (below_at (length vs) f vs i nobody k k)
