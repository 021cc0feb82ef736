-- The claim over every list of events that have the interface.
use mathlib.Core.Path.{◌≡◌, refl, sym, ap, ◌∙◌, subst}
use mathlib.Core.Bool.{Bool, true, false}
use mathlib.Core.List.{List, [], ◌∷◌, ◌++◌, append_assoc}
use Prim.Native.Nat.{ℕ, suc, ◌+◌, ◌-◌, ◌*◌, ◌/◌, max, ◌≤◌, ◌<◌}
use native.Mathlib.Nat.{lt-div-mul-add, mul-le-mul_right, le-max_left, le-max_right}
use native.Mathlib.Omega.{arith}
use lib.Dec.{T}
use lib.ListN.{length, take, length-drop}
use Rattle.definitions.specs.Lists.{filter, sum}
use Rattle.definitions_electra.specs.Record.{ElectraState}
use Rattle.definitions_electra.specs.Document.Electra.EpochProcessing.{finalized_epoch_of}
use Rattle.history.proofs.Induction as induction
use Rattle.history.proofs.Induction.{All, all-through, all-met}
use Rattle.history_electra.specs.Events.{up_to, amounts, slots_at_most, ceil, Event, accepts, accepted, after, standing, all_moved, Others, Premises, Least, MovedOn, Claim}
use Rattle.history_electra.proofs.Front.{Deposits, length_upto, follows-take}
use Rattle.history_electra.proofs.Shape.{EventShape}
use Rattle.history_electra.proofs.OneClose.{Fair, Waiting, others-wait, Next, served, waits, one}

-- the accepted ones of a list that goes on
taken : (e : Event) (es : List Event) → accepts e ≡ true → accepted (e ∷ es) ≡ e ∷ accepted es
unfolding filter
taken e es t = rw t

skipped : (e : Event) (es : List Event) → accepts e ≡ false → accepted (e ∷ es) ≡ accepted es
unfolding filter
skipped e es t = rw t

-- P of each accepted one: by going through the list, and by where it stands
module _ (P : Event → Type 0) where
  abbrev pub Each : List Event → Type 0
  Each [] = Unit {0}
  Each (e ∷ es) = (accepts e ≡ true → P e) × Each es

  abbrev AllOf : List Event → Type 0
  AllOf es = All (λ (u : Unit {0}) (e : Event). P e) (λ u e. u) tt es

  pub each-through : (es : List Event) → ((before later : List Event) (e : Event) → accepted es ≡ before ++ e ∷ later → P e) → Each es
  each-through [] h = tt
  each-through (e ∷ es) h = (λ t. h [] (accepted es) e (taken e es t), each-through es (go (accepts e) refl))
    where
      go : (b : Bool) → accepts e ≡ b → (before later : List Event) (f : Event) → accepted es ≡ before ++ f ∷ later → P f
      go true t before later f q = h (e ∷ before) later f (taken e es t ∙ ap (e ∷◌) q)
      go false t before later f q = h before later f (skipped e es t ∙ q)

  all_of : (es : List Event) → Each es → AllOf (accepted es)
  unfolding filter
  all_of [] h = tt
  all_of (e ∷ es) h = go (accepts e) refl (all_of es h.1)
    where
      go : (b : Bool) → accepts e ≡ b → AllOf (accepted es) → AllOf (accepted (e ∷ es))
      go true t a = subst AllOf (sym (taken e es t)) (h.0 t, a)
      go false t a = subst AllOf (sym (skipped e es t)) a

  pub each-met : (es : List Event) → Each es → (before later : List Event) (e : Event) → accepted es ≡ before ++ e ∷ later → P e
  each-met es h = all-met (λ (u : Unit {0}) (e : Event). P e) (λ u e. u) (accepted es) tt (all_of es h)

module _ (s p c : ℕ) where
  -- an accepted event has the interface and meets the premises
  pub record Good (e : Event) : Type 0 where
    pub fair : Fair s p c e
    pub shape : EventShape e

  abbrev events : induction.Kind ElectraState Event
  events =
      record {
        Others = Others;
        opening = λ e. e.opening;
        returned = λ e. e.returned;
        accepts = accepts;
        others_stay = λ e. e.others_stay;
        Shape = Good;
      }

  module _ (some : 1 ≤ p) (since : List Event) (n : ℕ) where
    -- n deposits are to be moved past: that is done, or those still ahead wait
    data Moving (r : ElectraState) (es : List Event) : Type 0 where
      done : n + all_moved (accepted es) ≤ all_moved (accepted since) → Moving r es
      moving : {xs : Deposits} {x i j : ℕ} → Waiting s p c r xs x i j → i + j ≤ length (accepted es)
          → n + all_moved (accepted es) ≤ length xs + all_moved (accepted since) → Moving r es

    others-moving : (r o : ElectraState) (es : List Event) → Others r o → Moving r es → Moving o es
    others-moving r o es h (done l) = done l
    others-moving r o es h (moving w l m) = moving (others-wait s p c h w) l m

    refused-moving : (r : ElectraState) (e : Event) (es : List Event) → accepts e ≡ false → Moving r (e ∷ es) → Moving r es
    refused-moving r e es t (done l) = done (rw (skipped e es t) at l)
    refused-moving r e es t (moving w l m) = moving w (rw (skipped e es t) at l) (rw (skipped e es t) at m)

    taken-moved : (e : Event) (es : List Event) → accepts e ≡ true → all_moved (accepted (e ∷ es)) ≡ e.moved + all_moved (accepted es)
    unfolding sum
    taken-moved e es t = rw (taken e es t)

    accepted-moving : (e : Event) (es : List Event) → accepts e ≡ true → Good e → Moving e.opening (e ∷ es) → Moving e.returned es
    accepted-moving e es t g (done l) = done (omega (arith, l, taken-moved e es t))
    accepted-moving e es t g (moving {xs} {x} {i} {j} w l m) = go (one s p c some e xs g.fair g.shape i j w)
      where
        go : Next s p c e xs (i + j) → Moving e.returned es
        go (served k) = done (omega (arith, m, k, taken-moved e es t))
        go (waits k q v) = moving v (omega (arith, l, q, ap length (taken e es t))) (omega (arith, m, k, length-drop e.moved xs, taken-moved e es t))

    moves : induction.Invariant events Moving
    moves = record { others = others-moving; refused = refused-moving; accepted = accepted-moving }

  pub record Run (r : ElectraState) (es : List Event) : Type 0 where
    pub handed : induction.Handed events r es
    pub good : induction.Each events es

  along : (before rest : List Event) (r : ElectraState) → Run r (before ++ rest) → Run (standing r before) rest
  along [] rest r h = h
  along (e ∷ before) rest r h = along before rest (after r e) (record { handed = h.handed.1; good = h.good.1 })

  all_moved_lem : 1 ≤ p → (since rest : List Event) (r : ElectraState) (xs : Deposits) (x i j : ℕ) → Run r (since ++ rest) → Waiting s p c r xs x i j
      → i + j ≤ length (accepted since) → length xs ≤ all_moved (accepted since)
  unfolding filter sum
  all_moved_lem some since rest r xs x i j h w l =
      go (induction.every events (Moving some since (length xs)) (moves some since (length xs)) since rest r h.handed h.good (moving w l (omega arith))).holds
    where
      go : Moving some since (length xs) (standing r since) [] → length xs ≤ all_moved (accepted since)
      go (done m) = omega (arith, m)
      go (moving v m n) = absurd (omega (arith, m, v.more))

  -- the bound, at the start
  enough-limits : (K : ℕ) → 1 ≤ c → K ≤ max 1 (ceil K c) * c
  enough-limits K l =
      let m = lt-div-mul-add {a = K + c - 1} {b = c} l in
      let n = mul-le-mul_right c (le-max_right 1 (ceil K c)) in
      omega (arith, m, n)

  module _ (start : ElectraState) (es : List Event) (n : 1 ≤ p) (m : 1 ≤ c) (run : Run start es) where
    every-served : (before since later : List Event) (k : ℕ) → es ≡ before ++ since ++ later → k < length (standing start before).pending_deposits
        → T (slots_at_most (finalized_epoch_of (standing start before) * s) (up_to (standing start before) k))
        → k / p + max 1 (ceil (amounts (up_to (standing start before) k)) c) ≤ length (accepted since) → k < all_moved (accepted since)
    every-served before since later k e l t b = omega (arith, length_upto k ds l, moved)
      where
        r : ElectraState
        r = standing start before

        ds : Deposits
        ds = r.pending_deposits

        wait : Waiting s p c r (take (suc k) ds) 0 (k / p) (max 1 (ceil (amounts (take (suc k) ds)) c))
        wait =
            record {
              front = follows-take (suc k) ds;
              slots = t;
              rows = omega (arith, length_upto k ds l, lt-div-mul-add {a = k} {b = p} n);
              sums = omega (arith, enough-limits (amounts (take (suc k) ds)) m);
              counted = omega arith;
              small = omega arith;
              more = le-max_left 1 (ceil (amounts (take (suc k) ds)) c);
            }

        moved : length (take (suc k) ds) ≤ all_moved (accepted since)
        moved = all_moved_lem n since later r (take (suc k) ds) 0 (k / p) (max 1 (ceil (amounts (take (suc k) ds)) c)) (along before (since ++ later) start (subst (Run start) (e ∙ append_assoc before since later) run)) wait b

    pub every-claim : Claim s p c start es
    every-claim =
        record {
          served = λ before since later k e l t b. omega (arith, every-served before since later k e l t (omega (arith, b)));
          queue = each-met (λ e. MovedOn e.moved e.opening.pending_deposits e.returned) es (queues es run.good);
        }
      where
        queues : (es : List Event) → induction.Each events es → Each (λ e. MovedOn e.moved e.opening.pending_deposits e.returned) es
        queues [] h = tt
        queues (e ∷ es) h = (λ t. (h.0 t).shape.queue, queues es h.1)

-- For every list
pub every-list : (s p c : ℕ) (start : ElectraState) (es : List Event) → Each EventShape es → Premises start es → Least s p c es → Claim s p c start es
every-list s p c start es shaped h l =
    every-claim s p c start es l.some_number l.some_churn (record { handed = all-through (λ r e. Others r e.opening) after es start h.handed; good = good es shaped fair })
  where
    fair : Each (Fair s p c) es
    fair = each-through (Fair s p c) es (λ before later e q. record { kept = h.kept before later e q; bridge = h.bridge before later e q; least = l.smallest before later e q })

    good : (es : List Event) → Each EventShape es → Each (Fair s p c) es → Each (Good s p c) es
    good [] a b = tt
    good (e ∷ es) a b = (λ t. record { fair = b.0 t; shape = a.0 t }, good es a.1 b.1)
