-- The loop of pending deposits: how far it moves the queue on, what it postpones, and why it ends.
use mathlib.Core.Path.{◌≡◌, refl, sym, ap, ◌∙◌, subst}
use mathlib.Core.Logic.{◌⊎◌, inl, inr}
use mathlib.Core.Bool.{Bool, true, false, cond, ◌||◌}
use mathlib.Core.List.{[], ◌∷◌, ◌++◌, append-nil, append_assoc}
use Prim.Native.Nat.{ℕ, suc, ◌+◌, ◌≤◌, ◌<◌}
use native.Mathlib.Omega.{arith}
use borrow.Author.Tests.{ltb-true, leb-true, le-ltb}
use lib.Dec.{T, ltb}
use lib.ListN.{length, take, drop}
use Rattle.definitions.specs.Lists.{all, sum}
use Rattle.definitions.specs.Checked.{Checked, value, bind}
use Rattle.definitions_electra.specs.declared.ElectraRules.{ElectraRules}
use Rattle.definitions_electra.specs.declared.PendingDeposit.{PendingDeposit}
use Rattle.definitions_electra.specs.Record.{Registry}
use Rattle.definitions_electra.specs.Loops.{fold_until_checked}
use Rattle.definitions_electra.specs.Document.Electra.EpochProcessing.{Processing, Queueing, started, is_known, is_withdrawn, is_exited, moved_on, limit_reached, breaks_before, deposits_stop}
use Rattle.definitions_electra.specs.Evaluated.Electra.EpochProcessing.{apply_pending_deposit, process_deposit}
use Rattle.laws.proofs.Checked.{value_same, bound, add64-value}
use Rattle.laws.proofs.Tests.{either, and_false, T_left}
use Rattle.history_electra.specs.Events.{amounts, slots_at_most, Follows, Among}
use Rattle.history_electra.proofs.Known.{all_more, all-last, applied}
use Rattle.history_electra.proofs.Front.{Deposits, head_amount, slot-first, slots-rest}

module _ (r : ElectraRules) (q : Queueing) where
  -- One turn

  abbrev pub AllKnown : Processing → Type 0
  AllKnown p = T (all (is_known p.registry) p.deposits_to_postpone)

  -- it moves on, with no more of the churn used than the deposit's amount; or the limit is reached
  data Turn (p : Processing) (d : PendingDeposit) (c : Processing) : Type 0 where
    onward : c.next_deposit_index ≡ p.next_deposit_index + 1 → c.is_churn_limit_reached ≡ false
        → c.processed_amount ≤ p.processed_amount + d.amount
        → (c.deposits_to_postpone ≡ p.deposits_to_postpone) ⊎ (c.deposits_to_postpone ≡ p.deposits_to_postpone ++ (d ∷ []))
        → (AllKnown p → AllKnown c) → Turn p d c
    reached : c ≡ limit_reached p → q.available < p.processed_amount + d.amount → Turn p d c

  -- with the test that chose
  told : (P : Processing → Type 0) {a : Processing} (t : Bool) {m n : Checked Processing} → (t ≡ true → m ≡ value a → P a) → (n ≡ value a → P a)
      → cond t m n ≡ value a → P a
  told P true f g e = f refl e
  told P false f g e = g e

  turn : (p : Processing) (d : PendingDeposit) (c : Processing) → process_deposit r q p d ≡ value c → Turn p d c
  unfolding process_deposit
  turn p d c =
      either (Turn p d) (is_withdrawn q p.registry d)
      (λ e. let a = bound _ _ e in moved _ _ _ (omega arith) (inl refl) (put a.gave) (value_same a.then))
      (told (Turn p d) (is_exited p.registry d) (λ t e. moved _ _ _ (omega arith) (inr refl) (postponing (subst T (sym t) tt)) (value_same e))
      (λ e.
      let a = bound _ _ e in
      let x = add64-value _ _ a.gave in
      counted a.first x (ltb q.available a.first) refl _
      (λ g. let b = bound _ _ g in moved _ _ _ (omega (arith, x)) (inl refl) (put b.gave) (value_same b.then)) a.then))
    where
      moved : (reg : Registry) (x : ℕ) (postponed : Deposits) → x ≤ p.processed_amount + d.amount
          → (postponed ≡ p.deposits_to_postpone) ⊎ (postponed ≡ p.deposits_to_postpone ++ (d ∷ []))
          → (AllKnown p → T (all (is_known reg) postponed)) → moved_on reg x postponed p ≡ c → Turn p d c
      moved reg x postponed l k g e = subst (Turn p d) e (onward refl refl l k g)

      put : {reg : Registry} → apply_pending_deposit r p.registry d ≡ value reg → AllKnown p → T (all (is_known reg) p.deposits_to_postpone)
      put {reg} e = all_more (is_known p.registry) (is_known reg) (applied r p.registry d e).stays p.deposits_to_postpone

      postponing : T (is_exited p.registry d) → AllKnown p → T (all (is_known p.registry) (p.deposits_to_postpone ++ (d ∷ [])))
      postponing t = all-last (is_known p.registry) d (T_left (is_known p.registry d) _ t) p.deposits_to_postpone

      counted : (x : ℕ) → p.processed_amount + d.amount ≡ x → (b : Bool) → ltb q.available x ≡ b → (m : Checked Processing)
          → (m ≡ value c → Turn p d c) → cond b (value (limit_reached p)) m ≡ value c → Turn p d c
      counted x e true t m f g = reached (sym (value_same g)) (omega (arith, e, ltb-true q.available x t))
      counted x e false t m f g = f g

  abbrev pub ran : Processing → Deposits → Checked Processing
  ran p ds = fold_until_checked (deposits_stop r q) (process_deposit r q) p ds

  at_once : (c : Processing) (d : PendingDeposit) → c.is_churn_limit_reached ≡ true → deposits_stop r q c d ≡ true
  unfolding deposits_stop
  at_once c d t = ap (◌|| breaks_before r q c d) t

  -- the limit was reached: it is left
  stuck : (c : Processing) → c.is_churn_limit_reached ≡ true → (ds : Deposits) {p' : Processing} → ran c ds ≡ value p' → p' ≡ c
  unfolding fold_until_checked
  stuck c t [] e = sym (value_same e)
  stuck c t (d ∷ ds) {p'} e =
      sym (value_same (subst (λ (b : Bool). cond b (value c) (bind (process_deposit r q c d) (λ c'. ran c' ds)) ≡ value p') (at_once c d t) e))

  -- a turn and the rest, or the loop is left here
  data Turned (p : Processing) (d : PendingDeposit) (ds : Deposits) (p' : Processing) : Type 0 where
    left : deposits_stop r q p d ≡ true → p' ≡ p → Turned p d ds p'
    more : (c : Processing) → Turn p d c → ran c ds ≡ value p' → Turned p d ds p'

  turned : (p : Processing) (d : PendingDeposit) (ds : Deposits) {p' : Processing} → ran p (d ∷ ds) ≡ value p' → Turned p d ds p'
  unfolding fold_until_checked
  turned p d ds {p'} e = go (deposits_stop r q p d) refl e
    where
      go : (b : Bool) → deposits_stop r q p d ≡ b → cond b (value p) (bind (process_deposit r q p d) (λ c. ran c ds)) ≡ value p' → Turned p d ds p'
      go true t g = left t (sym (value_same g))
      go false t g = let a = bound _ _ g in more a.first (turn p d a.first a.gave) a.then

  -- How far, and what is postponed

  pub record Went (p : Processing) (ds : Deposits) (p' : Processing) : Type 0 where
    pub count : ℕ
    pub postponed : Deposits
    pub next : p'.next_deposit_index ≡ p.next_deposit_index + count
    pub within : count ≤ length ds
    pub some : Among postponed (take count ds)
    pub behind : p'.deposits_to_postpone ≡ p.deposits_to_postpone ++ postponed

  stayed : (p : Processing) (ds : Deposits) {p' : Processing} → p'.next_deposit_index ≡ p.next_deposit_index
      → p'.deposits_to_postpone ≡ p.deposits_to_postpone → Went p ds p'
  stayed p ds k e =
      record { count = 0; postponed = []; next = omega (arith, k); within = omega arith; some = tt; behind = e ∙ sym (append-nil p.deposits_to_postpone) }

  among-more : (d : PendingDeposit) (xs ds : Deposits) → Among xs ds → Among xs (d ∷ ds)
  among-more d [] ds a = tt
  among-more d (x ∷ xs) ds a = inr a

  pub went : (ds : Deposits) (p : Processing) {p' : Processing} → ran p ds ≡ value p' → Went p ds p'
  unfolding fold_until_checked
  went [] p e = let k = value_same e in stayed p [] (ap (λ (x : Processing). x.next_deposit_index) (sym k)) (ap (λ (x : Processing). x.deposits_to_postpone) (sym k))
  went (d ∷ ds) p {p'} e = go (turned p d ds e) (λ c f. went ds c f)
    where
      on : (c : Processing) → Turn p d c → ran c ds ≡ value p' → Went c ds p' → Went p (d ∷ ds) p'
      on c (onward k t l (inl m) z) f w =
          record {
            count = suc w.count;
            postponed = w.postponed;
            next = omega (arith, w.next, k);
            within = omega (arith, w.within);
            some = among-more d w.postponed (take w.count ds) w.some;
            behind = w.behind ∙ ap (◌++ w.postponed) m;
          }
      on c (onward k t l (inr m) z) f w =
          record {
            count = suc w.count;
            postponed = d ∷ w.postponed;
            next = omega (arith, w.next, k);
            within = omega (arith, w.within);
            some = inl (refl, w.some);
            behind = w.behind ∙ ap (◌++ w.postponed) m ∙ append_assoc p.deposits_to_postpone (d ∷ []) w.postponed;
          }
      on c (reached k l) f w =
          let s = stuck c (ap (λ (x : Processing). x.is_churn_limit_reached) k) ds f ∙ k in
          stayed p (d ∷ ds) (ap (λ (x : Processing). x.next_deposit_index) s) (ap (λ (x : Processing). x.deposits_to_postpone) s)

      go : Turned p d ds p' → ((c : Processing) → ran c ds ≡ value p' → Went c ds p') → Went p (d ∷ ds) p'
      go (left t k) h = stayed p (d ∷ ds) (ap (λ (x : Processing). x.next_deposit_index) k) (ap (λ (x : Processing). x.deposits_to_postpone) k)
      go (more c t f) h = on c t f (h c f)

  pub none-known : (reg : Registry) → AllKnown (started reg)
  unfolding all
  none-known reg = tt

  pub known : (ds : Deposits) (p : Processing) {p' : Processing} → ran p ds ≡ value p' → AllKnown p → AllKnown p'
  unfolding fold_until_checked
  known [] p e k = subst AllKnown (value_same e) k
  known (d ∷ ds) p {p'} e k = go (turned p d ds e) (λ c f g. known ds c f g)
    where
      on : (c : Processing) → Turn p d c → ran c ds ≡ value p' → (AllKnown c → AllKnown p') → AllKnown p'
      on c (onward a b l m z) f h = h (z k)
      on c (reached a l) f h = subst AllKnown (sym (stuck c (ap (λ (x : Processing). x.is_churn_limit_reached) a) ds f ∙ a)) k

      go : Turned p d ds p' → ((c : Processing) → ran c ds ≡ value p' → AllKnown c → AllKnown p') → AllKnown p'
      go (left t a) h = subst AllKnown (sym a) k
      go (more c t f) h = on c t f (h c f)

  -- Why it ends, where the queue begins with xs, whose slots are finalized, and the bridge's deposits are all there

  abbrev pub number : ℕ
  number = r.electra.max_pending_deposits_per_epoch

  pub data Stopped (p : Processing) (xs : Deposits) (p' : Processing) : Type 0 where
    beyond : p.next_deposit_index + length xs ≤ p'.next_deposit_index → Stopped p xs p'
    full : (n : ℕ) → n < length xs → p'.next_deposit_index ≡ p.next_deposit_index + n → number ≤ p'.next_deposit_index → Stopped p xs p'
    limited : (n : ℕ) → n < length xs → p'.next_deposit_index ≡ p.next_deposit_index + n → p'.is_churn_limit_reached ≡ true
        → p'.processed_amount ≤ p.processed_amount + amounts (take n xs) → q.available < p'.processed_amount + head_amount (drop n xs)
        → Stopped p xs p'

  module _ (bridge : q.bridge_open ≡ false) where
    -- of the three tests only the number's is left
    only-number : (p : Processing) (d : PendingDeposit) → p.is_churn_limit_reached ≡ false → d.slot ≤ q.finalized_slot → deposits_stop r q p d ≡ true
        → number ≤ p.next_deposit_index
    unfolding deposits_stop breaks_before
    only-number p d t l e = leb-true _ _ (rw (t, bridge, le-ltb q.finalized_slot d.slot l, and_false (ltb 0 d.slot)) at e)

    pub stopped : (xs ds : Deposits) → Follows xs ds → T (slots_at_most q.finalized_slot xs) → (p : Processing) → p.is_churn_limit_reached ≡ false
        → {p' : Processing} → ran p ds ≡ value p' → Stopped p xs p'
    unfolding sum
    stopped [] ds f t p k e = beyond (omega (arith, (went ds p e).next))
    stopped (x ∷ xs) [] f t p k e = absurd f
    stopped (x ∷ xs) (d ∷ ds) f t p k {p'} e = go (turned p d ds e) (λ c m g. stopped xs ds f.2 (slots-rest _ x xs t) c m g)
      where
        on : (c : Processing) → c.next_deposit_index ≡ p.next_deposit_index + 1 → c.processed_amount ≤ p.processed_amount + d.amount
            → Stopped c xs p' → Stopped p (x ∷ xs) p'
        on c a b (beyond l) = beyond (omega (arith, a, l))
        on c a b (full n l m u) = full (suc n) (omega (arith, l)) (omega (arith, a, m)) u
        on c a b (limited n l m u v w) = limited (suc n) (omega (arith, l)) (omega (arith, a, m)) u (omega (arith, v, b, f.0)) w

        turned_on : (c : Processing) → Turn p d c → ran c ds ≡ value p' → (c.is_churn_limit_reached ≡ false → Stopped c xs p') → Stopped p (x ∷ xs) p'
        turned_on c (onward a b l m z) g h = on c a l (h b)
        turned_on c (reached a l) g h =
            let s = stuck c (ap (λ (y : Processing). y.is_churn_limit_reached) a) ds g ∙ a in
            limited 0 (omega arith) (omega (arith, ap (λ (y : Processing). y.next_deposit_index) s)) (ap (λ (y : Processing). y.is_churn_limit_reached) s)
            (omega (arith, ap (λ (y : Processing). y.processed_amount) s)) (omega (arith, ap (λ (y : Processing). y.processed_amount) s, l, f.0))

        go : Turned p d ds p' → ((c : Processing) → c.is_churn_limit_reached ≡ false → ran c ds ≡ value p' → Stopped c xs p') → Stopped p (x ∷ xs) p'
        go (left a b) h =
            let s = ap (λ (y : Processing). y.next_deposit_index) b in
            full 0 (omega arith) (omega (arith, s)) (omega (arith, s, only-number p d k (omega (arith, slot-first _ x xs t, f.1)) a))
        go (more c a g) h = turned_on c a g (λ m. h c m g)
