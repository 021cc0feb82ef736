-- An accepted Electra close as an event of history's kind, with everybody who waits activated: its limit is as large as one likes.
use mathlib.Core.Path.{◌≡◌, refl, sym, ap, ◌∙◌}
use mathlib.Core.Bool.{Bool, true, false, cond, ◌&&◌}
use mathlib.Core.List.{List, [], ◌∷◌, zip_with}
use Prim.Native.Nat.{ℕ, zero, suc, ◌+◌, ◌≤◌, ◌<◌}
use native.Mathlib.Omega.{arith}
use borrow.Author.Tests.{lt-ltb}
use lib.Dec.{T, ltb}
use lib.ListN.{length, get_or, take}
use lib.Seq.{length-take-le, get_or-take}
use Rattle.definitions.specs.Lists.{range}
use Rattle.definitions.specs.Record.{Validator, nobody, FAR_FUTURE_EPOCH as FAR}
use Rattle.definitions.specs.Updates.{with_activation}
use Rattle.laws.proofs.Loops.Filtered.{filter_le}
use Rattle.history.specs.Events.{Event}
use Rattle.history.proofs.Waiting.{finalized, eligibility_at, activation_at, waits, ahead}
use Rattle.history.proofs.Order.{Waits, from-waits, to-waits}
use Rattle.history.proofs.Shape.{Marked, Registered}
use Rattle.history.proofs.OneClose.{close-order}
use Rattle.history_forks.proofs.Order.{Moves, Ordering}
use Rattle.history_forks.proofs.Grown.{Grown}
use Rattle.history_forks.proofs.Registry.{at, Became, marked, left, activated}

pub record Electra (e : Event) : Type 0 where
  pub fits : e.epoch + 1 + e.lookahead < FAR
  pub checkpoints : Moves e
  pub more : length e.opening.validators ≤ length e.returned.validators
  pub old : (i : ℕ) → i < length e.opening.validators
      → Became e.epoch (e.epoch + 1 + e.lookahead) (finalized e.returned).epoch (at e.opening.validators i) (at e.returned.validators i)
  pub new : (i : ℕ) → length e.opening.validators ≤ i → i < length e.returned.validators → at e.returned.validators i ≡ (FAR, FAR)

-- the registry with the eligibility epochs written and no activation yet
abbrev queue_of : List Validator → List Validator → List Validator
queue_of vs ws = zip_with (λ v w. with_activation v.activation_epoch w) vs ws

queue-number : (vs ws : List Validator) → length vs ≤ length ws → length (queue_of vs ws) ≡ length vs
unfolding zip_with
queue-number [] ws l = refl
queue-number (v ∷ vs) [] l = absurd (omega arith)
queue-number (v ∷ vs) (w ∷ ws) l = ap suc (queue-number vs ws (omega arith))

queue-at : (vs ws : List Validator) (i : ℕ) → i < length vs → length vs ≤ length ws → at (queue_of vs ws) i ≡ ((at ws i).0, (at vs i).1)
unfolding zip_with
queue-at [] ws i l m = absurd (omega arith)
queue-at (v ∷ vs) [] i l m = absurd (omega arith)
queue-at (v ∷ vs) (w ∷ ws) zero l m = refl
queue-at (v ∷ vs) (w ∷ ws) (suc i) l m = queue-at vs ws i (omega arith) (omega arith)

few-ahead : (f : ℕ) (vs : List Validator) (i : ℕ) → ahead f vs i ≤ length (range 0 (length vs))
unfolding ahead
few-ahead f vs i = filter_le _ (range 0 (length vs))

all-chosen : (b d : Bool) (to x : ℕ) → T b → d ≡ true → cond (b && d) to x ≡ to
all-chosen true d to x t q = rw q
all-chosen false d to x t q = absurd t

none-chosen : (b d : Bool) (to x : ℕ) → (T b → ⊥) → cond (b && d) to x ≡ x
none-chosen true d to x n = absurd (n tt)
none-chosen false d to x n = refl

module _ (e : Event) (h : Electra e) (g : Ordering e) where
  abbrev f : ℕ
  f = (finalized e.returned).epoch

  abbrev to : ℕ
  to = e.epoch + 1 + e.lookahead

  abbrev vs : List Validator
  vs = e.opening.validators

  abbrev ws : List Validator
  ws = e.returned.validators

  abbrev queue : List Validator
  queue = queue_of vs ws

  abbrev limit : ℕ
  limit = e.churn + suc (length (range 0 (length queue)))

  -- the finalized epoch is not above that of the close, so that who is marked is not yet eligible
  low : f ≤ e.epoch
  low = let o = (close-order g h.checkpoints).1 in omega (arith, o.low, o.middle, o.high)

  mark : (i : ℕ) → i < length vs → Marked e.epoch (eligibility_at vs i) (eligibility_at queue i)
  mark i l = go (h.old i l)
    where
      now : eligibility_at queue i ≡ eligibility_at ws i
      now = ap (λ (p : ℕ × ℕ). p.0) (queue-at vs ws i l h.more)

      go : Became e.epoch to f (at vs i) (at ws i) → Marked e.epoch (eligibility_at vs i) (eligibility_at queue i)
      go (marked p q s) = Marked.written p (now ∙ q)
      go (left n p) = Marked.same (now ∙ ap (λ (p : ℕ × ℕ). p.0) p)
      go (activated p q s t) = Marked.same (now ∙ s)

  activation : (i : ℕ) → i < length vs → activation_at ws i ≡ cond (waits f queue i && ltb (ahead f queue i) limit) to (activation_at queue i)
  activation i l = go (h.old i l)
    where
      was : at queue i ≡ ((at ws i).0, (at vs i).1)
      was = queue-at vs ws i l h.more

      eligible : eligibility_at queue i ≡ (at ws i).0
      eligible = ap (λ (p : ℕ × ℕ). p.0) was

      inactive : activation_at queue i ≡ (at vs i).1
      inactive = ap (λ (p : ℕ × ℕ). p.1) was

      -- who does not wait stays
      stays : (Waits f queue i → ⊥) → activation_at ws i ≡ (at vs i).1 → activation_at ws i ≡ cond (waits f queue i && ltb (ahead f queue i) limit) to (activation_at queue i)
      stays n p = p ∙ sym inactive ∙ sym (none-chosen (waits f queue i) (ltb (ahead f queue i) limit) to (activation_at queue i) (λ t. n (from-waits f queue i t)))

      go : Became e.epoch to f (at vs i) (at ws i) → activation_at ws i ≡ cond (waits f queue i && ltb (ahead f queue i) limit) to (activation_at queue i)
      go (marked p q s) = stays (λ w. absurd (omega (arith, low, w.eligible, eligible, q))) s
      go (left n p) = stays (λ w. n (omega (arith, w.eligible, eligible, ap (λ (p : ℕ × ℕ). p.0) p)) (sym inactive ∙ w.inactive)) (ap (λ (p : ℕ × ℕ). p.1) p)
      go (activated p q s t) =
          t ∙ sym (all-chosen (waits f queue i) (ltb (ahead f queue i) limit) to (activation_at queue i)
          (to-waits f queue i (record { there = omega (arith, l, queue-number vs ws h.more); eligible = omega (arith, eligible, s, p); inactive = inactive ∙ q }))
          (lt-ltb (ahead f queue i) limit (omega (arith, few-ahead f queue i))))

  front : (i : ℕ) → i < length vs → get_or (take (length vs) ws) i nobody ≡ get_or ws i nobody
  front i l = get_or-take (length vs) ws i nobody l

  registered : Registered e.epoch to limit f vs queue (take (length vs) ws)
  registered =
      record {
        queue-number = queue-number vs ws h.more;
        queue-eligibility = mark;
        queue-activation = λ i l. ap (λ (p : ℕ × ℕ). p.1) (queue-at vs ws i l h.more);
        number = length-take-le (length vs) ws h.more;
        eligibility = λ i l. ap (λ (v : Validator). v.activation_eligibility_epoch) (front i l) ∙ sym (ap (λ (p : ℕ × ℕ). p.0) (queue-at vs ws i l h.more));
        activation = λ i l. ap (λ (v : Validator). v.activation_epoch) (front i l) ∙ activation i l;
      }

  pub electra-grown : Grown e
  electra-grown =
      let n = length-take-le (length vs) ws h.more in
      record {
        shape = record { churn = limit; enough = omega arith; fits = h.fits; checkpoints = h.checkpoints; queue = queue; registry = registered };
        added = record {
          previous = refl;
          current = refl;
          final = refl;
          more = omega (arith, n, h.more);
          old = λ i l.
              let q = sym (front i (omega (arith, l, n))) in
              (ap (λ (v : Validator). v.activation_eligibility_epoch) q, ap (λ (v : Validator). v.activation_epoch) q);
          new = λ i l m. let q = h.new i (omega (arith, l, n)) m in (ap (λ (p : ℕ × ℕ). p.0) q, ap (λ (p : ℕ × ℕ). p.1) q);
        };
      }

  -- "whoever waits is activated"
  pub everybody : (i : ℕ) → T (waits (finalized e.opening).epoch vs i) → activation_at ws i ≡ to
  everybody i t = go (h.old i w.there)
    where
      w : Waits (finalized e.opening).epoch vs i
      w = from-waits (finalized e.opening).epoch vs i t

      up : (finalized e.opening).epoch ≤ f
      up = (close-order g h.checkpoints).0

      go : Became e.epoch to f (at vs i) (at ws i) → activation_at ws i ≡ to
      go (marked p q s) = absurd (omega (arith, w.eligible, up, low, p, h.fits))
      go (left n p) = absurd (n (omega (arith, w.eligible, up)) w.inactive)
      go (activated p q s t) = t
