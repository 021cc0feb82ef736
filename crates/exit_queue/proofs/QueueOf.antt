-- The record's pair is what tracks the registry from 0, and a loop that reads the registry finds it.
use mathlib.Core.Path.{◌≡◌, refl, sym, ap, ◌∙◌}
use mathlib.Core.List.{List, [], ◌∷◌}
use Prim.Native.Nat.{ℕ, ◌+◌, ◌*◌, ◌≤◌, ◌<◌}
use native.Mathlib.Omega.{arith}
use lib.ListN.{length, get_or, take, length-take}
use Rattle.definitions.specs.Lists.{filter, maximum}
use Rattle.definitions.specs.Record.{Validator, FAR_FUTURE_EPOCH, decode}
use Rattle.definitions.specs.Document.Phase0.Helpers.{exit_queue_churn}
use Rattle.definitions.specs.ExitQueue.{queue_of}
use Rattle.laws.proofs.Loops.Entry.{number-at}
use Rattle.laws.proofs.Loops.Reading.{Reading, reading_none, reading_more, reading_is, prefix_all, prefix_more}
use Rattle.definitions.specs.declared.ExitQueue.{ExitQueue}
use Rattle.exit_queue.specs.Queue.{Tracks, joined}
use Rattle.exit_queue.proofs.Latest.{latest, latest_cons}
use Rattle.exit_queue.proofs.Tracks.{last-real, tracks-none, tracks-last, tracks-few}

pub tracks-is : {vs : List Validator} {q : ExitQueue} → Tracks 0 vs q → q ≡ queue_of vs
unfolding queue_of
tracks-is {vs} t = λ i. record { last_epoch = t.last i; number = (t.number ∙ ap (λ (last : ℕ). exit_queue_churn last vs) t.last) i }

never-far : (vs : List Validator) → latest 0 vs ≡ FAR_FUTURE_EPOCH → ⊥
unfolding maximum filter
never-far [] e = omega arith
never-far (v ∷ vs) e = last-real (latest 0 vs) v.exit_epoch (never-far vs) (sym (latest_cons 0 v vs) ∙ e)

pub tracks-queue : (vs : List Validator) → Tracks 0 vs (queue_of vs)
unfolding queue_of
tracks-queue vs = record { last = refl; number = refl; real = never-far vs }

-- The loop: the pair of the first i
pub record Tracking (n : ℕ) (xs : List ℕ) (i : ℕ) (q : ExitQueue) : Type 0 where
  pub at : Reading n xs i
  pub tracks : Tracks 0 (take i (decode xs)) q

pub tracking_none : {n : ℕ} {xs : List ℕ} → length xs ≡ 10 * n → Tracking n xs 0 (record { last_epoch = 0; number = 0 })
tracking_none h = record { at = reading_none h; tracks = tracks-none 0 (omega arith) }

module _ {n : ℕ} {xs : List ℕ} {i : ℕ} {q : ExitQueue} (g : Tracking n xs i q) where
  pub tracking_few : q.number ≤ i
  tracking_few = omega (arith, length-take i (decode xs), tracks-few g.tracks)

  pub tracking_more : i < n → {r : ExitQueue} → r ≡ joined q (get_or xs (10 * i + 4) 0) → Tracking n xs (i + 1) r
  tracking_more l e =
      record {
        at = reading_more g.at l;
        tracks = rw (e, number-at n xs i g.at.long l 4 (omega arith), ← reading_is g.at l, prefix_more g.at l) (tracks-last g.tracks _);
      }

  pub tracking_all : n ≤ i → q ≡ queue_of (decode xs)
  tracking_all l = tracks-is (rw (← prefix_all g.at l) g.tracks)
