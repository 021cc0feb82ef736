-- One accepted event, of a deposit that waits: it is moved past, or one close fewer is needed from then on.
use mathlib.Core.Path.{◌≡◌, sym, subst}
use Prim.Native.Nat.{ℕ, zero, suc, ◌+◌, ◌*◌, ◌≤◌, ◌<◌}
use native.Mathlib.Nat.{add-mul, mul-le-mul}
use native.Mathlib.Omega.{arith}
use lib.Dec.{T}
use lib.ListN.{length, take, drop, length-drop}
use Rattle.definitions_electra.specs.Record.{ElectraState}
use Rattle.definitions_electra.specs.Document.Electra.EpochProcessing.{finalized_epoch_of}
use Rattle.history_electra.specs.Events.{amounts, slots_at_most, Event, Others, Follows}
use Rattle.history_electra.proofs.Front.{Deposits, head_amount, head-least, amounts-split, head-taken, slots-drop, slots-later, follows_both, follows_on}
use Rattle.history_electra.proofs.Shape.{Ended, past, by_number, by_limit, EventShape}

pub times_suc : (n m : ℕ) → suc n * m ≡ n * m + m
times_suc n m = omega (arith, add-mul 1 n m)

module _ (s p c : ℕ) where
  -- an accepted event, with what the premises say of it
  pub record Fair (e : Event) : Type 0 where
    pub kept : finalized_epoch_of e.opening ≤ finalized_epoch_of e.returned
    pub bridge : e.opening.deposit_requests_start_index ≤ e.opening.eth1_deposit_index
    pub least : (s ≤ e.slots) × (p ≤ e.number) × (c ≤ e.churn)

  -- The queue begins with xs. Of what is carried, x counts towards the first of them. i closes that end by the number and j by the limit are
  -- enough for all but the last of the one or the other kind.
  pub record Waiting (r : ElectraState) (xs : Deposits) (x i j : ℕ) : Type 0 where
    pub front : Follows xs r.pending_deposits
    pub slots : T (slots_at_most (finalized_epoch_of r * s) xs)
    pub rows : length xs ≤ i * p + p
    pub sums : amounts xs ≤ j * c + x
    pub counted : x ≤ r.deposit_balance_to_consume
    pub small : x ≤ head_amount xs
    pub more : 1 ≤ j

  pub others-wait : {r o : ElectraState} {xs : Deposits} {x i j : ℕ} → Others r o → Waiting r xs x i j → Waiting o xs x i j
  others-wait {r} {o} {xs} h w =
      record {
        front = follows_both xs r.pending_deposits o.pending_deposits w.front h.queue;
        slots = slots-later _ _ (mul-le-mul h.final (omega arith)) xs w.slots;
        rows = w.rows;
        sums = w.sums;
        counted = omega (arith, w.counted, h.carried);
        small = w.small;
        more = w.more;
      }

  pub data Next (e : Event) (xs : Deposits) (n : ℕ) : Type 0 where
    served : length xs ≤ e.moved → Next e xs n
    waits : {x i j : ℕ} → e.moved < length xs → suc (i + j) ≡ n → Waiting e.returned (drop e.moved xs) x i j → Next e xs n

  module _ (some : 1 ≤ p) (e : Event) (xs : Deposits) (f : Fair e) (h : EventShape e) where
    abbrev rest : Deposits
    rest = drop e.moved xs

    slots-then : T (slots_at_most (finalized_epoch_of e.opening * s) xs) → T (slots_at_most (finalized_epoch_of e.returned * s) xs)
    slots-then t = slots-later _ _ (mul-le-mul f.kept (omega arith)) xs t

    slots-found : T (slots_at_most (finalized_epoch_of e.opening * s) xs) → T (slots_at_most (finalized_epoch_of e.returned * e.slots) xs)
    slots-found t = slots-later _ _ (mul-le-mul f.kept f.least.0) xs t

    front-then : Follows xs e.opening.pending_deposits → e.moved < length xs → Follows rest e.returned.pending_deposits
    front-then a l =
        subst (Follows rest) (sym h.queue.rest)
        (follows_on e.moved xs e.opening.pending_deposits h.queue.postponed a (omega (arith, l)))

    one_number : (i j : ℕ) {x : ℕ} → Waiting e.opening xs x i j → e.moved < length xs → e.number ≤ e.moved → Next e xs (i + j)
    one_number zero j w l m = absurd (omega (arith, w.rows, f.least.1))
    one_number (suc i) j {x} w l m =
        waits {x = 0} {i = i} {j = j} l (omega arith)
        (record {
          front = front-then w.front l;
          slots = slots-drop _ e.moved xs (slots-then w.slots);
          rows = omega (arith, length-drop e.moved xs, w.rows, times_suc i p, f.least.1);
          sums = omega (arith, amounts-split e.moved xs, head-taken e.moved xs (omega (arith, f.least.1, some)), w.sums, w.small);
          counted = omega arith;
          small = omega arith;
          more = w.more;
        })

    one-limit : (i j : ℕ) {x : ℕ} → Waiting e.opening xs x i j → e.moved < length xs
        → e.opening.deposit_balance_to_consume + e.churn ≤ e.returned.deposit_balance_to_consume + amounts (take e.moved xs)
        → e.returned.deposit_balance_to_consume < head_amount rest → Next e xs (i + j)
    one-limit i zero w l m n = absurd (omega (arith, w.more))
    one-limit i (suc zero) w l m n =
        absurd (omega (arith, w.sums, w.counted, f.least.2, amounts-split e.moved xs, head-least rest, times_suc 0 c))
    one-limit i (suc (suc j)) w l m n =
        waits {x = e.returned.deposit_balance_to_consume} {i = i} {j = suc j} l (omega arith)
        (record {
          front = front-then w.front l;
          slots = slots-drop _ e.moved xs (slots-then w.slots);
          rows = omega (arith, length-drop e.moved xs, w.rows);
          sums = omega (arith, amounts-split e.moved xs, w.sums, w.counted, f.least.2, times_suc (suc j) c);
          counted = omega arith;
          small = omega (arith, n);
          more = omega arith;
        })

    pub one : (i j : ℕ) {x : ℕ} → Waiting e.opening xs x i j → Next e xs (i + j)
    one i j w = go (h.ends xs w.front (slots-found w.slots) f.bridge)
      where
        go : Ended e xs → Next e xs (i + j)
        go (past l) = served l
        go (by_number l m) = one_number i j w l m
        go (by_limit l m n) = one-limit i j w l m n
