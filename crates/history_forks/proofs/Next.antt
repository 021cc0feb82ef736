-- Whoever waits is activated by the next accepted Electra close, from what is known of one accepted close of any fork.
use mathlib.Core.Path.{◌≡◌, refl, sym, ap, ◌∙◌, subst, subst₂}
use mathlib.Core.Logic.{◌≢◌, ◌⊎◌, inl, inr}
use mathlib.Core.Bool.{Bool, true, false}
use mathlib.Core.List.{List, [], ◌∷◌, ◌++◌, map, foldl, append_assoc, cons-ne-nil}
use Prim.Native.Nat.{ℕ, ◌+◌, ◌≤◌, ◌<◌}
use native.Mathlib.Omega.{arith}
use borrow.Author.Tests.{eq-eqb}
use lib.Dec.{T, eqb}
use lib.ListN.{length}
use Rattle.definitions.specs.Lists.{filter}
use Rattle.definitions.specs.Record.{BeaconState, FAR_FUTURE_EPOCH as FAR}
use Rattle.laws.proofs.ActivationQueue.Filter.{flag, count-more}
use Rattle.history.specs.Events.{eligibility, activation, Others, Event, accepts, accepted, after, standing}
use Rattle.history.proofs.Waiting.{finalized, waits_in, waits-is}
use Rattle.history.proofs.Order.{Waits, from-waits, to-waits}
use Rattle.history.proofs.OneClose.{others-waits}
use Rattle.history.proofs.Induction as induction
use Rattle.history.proofs.Premises as premises
use Rattle.history.proofs.Premises.{taken, skipped}
use Rattle.history_forks.specs.Demand3.{NextElectra}

module _ {C : Type 0} (event : C → Event) (is_electra : C → Bool) where
  abbrev to : C → ℕ
  to c = (event c).epoch + 1 + (event c).lookahead

  -- an accepted close
  pub record Known (c : C) : Type 0 where
    pub fits : to c < FAR
    pub low : (finalized (event c).opening).epoch < FAR
    pub up : (finalized (event c).opening).epoch ≤ (finalized (event c).returned).epoch
    pub more : length (event c).opening.validators ≤ length (event c).returned.validators
    -- eligibility is kept, or written where there was none; activation is kept, or given where there was none
    pub eligible : (i : ℕ) → i < length (event c).opening.validators
        → (eligibility (event c).returned i ≡ eligibility (event c).opening i) ⊎ (eligibility (event c).opening i ≡ FAR)
    pub active : (i : ℕ) → i < length (event c).opening.validators
        → (activation (event c).returned i ≡ activation (event c).opening i) ⊎ ((activation (event c).opening i ≡ FAR) × (activation (event c).returned i ≡ to c))
    pub everybody : T (is_electra c) → (i : ℕ) → T (waits_in (event c).opening i) → activation (event c).returned i ≡ to c

  abbrev pub closes : induction.Kind BeaconState C
  closes =
      record {
        Others = Others;
        opening = λ c. (event c).opening;
        returned = λ c. (event c).returned;
        accepts = λ c. accepts (event c);
        others_stay = λ c. (event c).others_stay;
        Shape = Known;
      }

  -- over closes and over their events
  stands : (cs : List C) (r : BeaconState) → foldl (induction.next closes) r cs ≡ standing r (map event cs)
  stands [] r = refl
  stands (c ∷ cs) r = stands cs (after r (event c))

  pub handed : (cs : List C) (r : BeaconState) → premises.Handed r (map event cs) → induction.Handed closes r cs
  handed [] r h = tt
  handed (c ∷ cs) r h = (h.0, handed cs (after r (event c)) h.1)

  module _ (i : ℕ) where
    -- an activation epoch x, once there, stays
    abbrev Has : ℕ → BeaconState → List C → Type 0
    Has x r cs = (i < length r.validators) × (activation r i ≡ x)

    has-accepted : (x : ℕ) → x ≢ FAR → (c : C) → Known c → Has x (event c).opening [] → Has x (event c).returned []
    has-accepted x n c k p = (omega (arith, p.0, k.more), go (k.active i p.0))
      where
        go : (activation (event c).returned i ≡ activation (event c).opening i) ⊎ ((activation (event c).opening i ≡ FAR) × (activation (event c).returned i ≡ to c)) → activation (event c).returned i ≡ x
        go (inl q) = q ∙ p.1
        go (inr q) = absurd (n (sym p.1 ∙ q.0))

    has : (x : ℕ) → x ≢ FAR → induction.Invariant closes (Has x)
    has x n =
        record {
          others = λ r o cs h p. (omega (arith, p.0, h.more), (h.old i p.0).1 ∙ p.1);
          refused = λ r c cs a p. p;
          accepted = λ c cs a k p. has-accepted x n c k p;
        }

    -- how many accepted ones give the activation epoch x
    abbrev gives : ℕ → Event → Bool
    gives x e = eqb (e.epoch + 1 + e.lookahead) x

    abbrev givers : ℕ → List C → ℕ
    givers x cs = length (filter (gives x) (accepted (map event cs)))

    give_skipped : (x : ℕ) (c : C) (cs : List C) → accepts (event c) ≡ false → givers x (c ∷ cs) ≡ givers x cs
    give_skipped x c cs a = ap (λ (fs : List Event). length (filter (gives x) fs)) (skipped (event c) (map event cs) a)

    give_taken : (x : ℕ) (c : C) (cs : List C) → accepts (event c) ≡ true → givers x (c ∷ cs) ≡ flag (gives x (event c)) + givers x cs
    give_taken x c cs a = ap (λ (fs : List Event). length (filter (gives x) fs)) (taken (event c) (map event cs) a) ∙ count-more (gives x) (event c) (accepted (map event cs))

    module _ (only : (c : C) → accepts (event c) ≡ false → is_electra c ≡ false) (since : List C) where
      -- one who waits, while an Electra close is yet to be accepted, gets an activation epoch from one of `since`
      data Fair (r : BeaconState) (cs : List C) : Type 0 where
        done : (x : ℕ) → Has x r cs → x < FAR → givers x cs < givers x since → Fair r cs
        waiting : T (waits_in r i) → filter is_electra cs ≢ [] → ((x : ℕ) → givers x cs ≤ givers x since) → Fair r cs

      others-fair : (r o : BeaconState) (cs : List C) → Others r o → Fair r cs → Fair o cs
      others-fair r o cs h (done x p l g) = done x ((has x (λ q. absurd (omega (arith, q, l)))).others r o cs h p) l g
      others-fair r o cs h (waiting t n g) = waiting (others-waits h i t) n g

      -- those to come, without one that is none
      to_come : (c : C) (cs : List C) → is_electra c ≡ false → filter is_electra (c ∷ cs) ≡ filter is_electra cs
      unfolding filter
      to_come c cs q = rw q

      refused-fair : (r : BeaconState) (c : C) (cs : List C) → accepts (event c) ≡ false → Fair r (c ∷ cs) → Fair r cs
      refused-fair r c cs a (done x p l g) = done x p l (omega (arith, g, give_skipped x c cs a))
      refused-fair r c cs a (waiting t n g) = waiting t (subst (λ (ds : List C). ds ≢ []) (to_come c cs (only c a)) n) (λ x. omega (arith, g x, give_skipped x c cs a))

      accepted-fair : (c : C) (cs : List C) → accepts (event c) ≡ true → Known c → Fair (event c).opening (c ∷ cs) → Fair (event c).returned cs
      accepted-fair c cs a k (done x p l g) = done x (has-accepted x (λ q. absurd (omega (arith, q, l))) c k p) l (omega (arith, g, give_taken x c cs a))
      accepted-fair c cs a k (waiting t n g) = go (is_electra c) refl (k.active i w.there)
        where
          w : Waits (finalized (event c).opening).epoch (event c).opening.validators i
          w = from-waits (finalized (event c).opening).epoch (event c).opening.validators i t

          given : activation (event c).returned i ≡ to c → Fair (event c).returned cs
          given p = done (to c) (omega (arith, w.there, k.more), p) k.fits (omega (arith, g (to c), give_taken (to c) c cs a, ap flag (eq-eqb (to c) (to c) refl)))

          same : eligibility (event c).returned i ≡ eligibility (event c).opening i
          same = kept (k.eligible i w.there)
            where
              kept : (eligibility (event c).returned i ≡ eligibility (event c).opening i) ⊎ (eligibility (event c).opening i ≡ FAR) → eligibility (event c).returned i ≡ eligibility (event c).opening i
              kept (inl q) = q
              kept (inr q) = absurd (omega (arith, q, w.eligible, k.low))

          go : (b : Bool) → is_electra c ≡ b
              → (activation (event c).returned i ≡ activation (event c).opening i) ⊎ ((activation (event c).opening i ≡ FAR) × (activation (event c).returned i ≡ to c)) → Fair (event c).returned cs
          go true q x = given (k.everybody (subst T (sym q) tt) i t)
          go false q (inr x) = given x.1
          go false q (inl x) =
              waiting (to-waits (finalized (event c).returned).epoch (event c).returned.validators i
              (record { there = omega (arith, w.there, k.more); eligible = omega (arith, same, w.eligible, k.up); inactive = x ∙ w.inactive }))
              (subst (λ (ds : List C). ds ≢ []) (to_come c cs q) n) (λ x. omega (arith, g x, give_taken x c cs a))

      fair : induction.Invariant closes Fair
      fair = record { others = others-fair; refused = refused-fair; accepted = accepted-fair }

      some : {A : Type 0} (xs : List A) → 0 < length xs → xs ≢ []
      some [] l = absurd (omega arith)
      some (x ∷ xs) l = cons-ne-nil x xs

      abbrev Active : BeaconState → BeaconState → Type 0
      Active a b =
          (activation a i ≢ FAR)
          × (filter (gives (activation a i)) (accepted (map event since)) ≢ [])
          × (i < length b.validators)
          × (activation b i ≡ activation a i)

      along : (later rest : List C) (r : BeaconState) → induction.Handed closes r (since ++ (later ++ rest)) → induction.Each closes (since ++ (later ++ rest)) → T (waits_in r i)
          → filter is_electra since ≢ [] → Active (standing r (map event since)) (standing (standing r (map event since)) (map event later))
      unfolding filter
      along later rest r h k t n = rw (← stands since r) (go then.holds)
        where
          then : induction.Then closes Fair (foldl (induction.next closes) r since) (later ++ rest)
          then = induction.every closes Fair fair since (later ++ rest) r h k (waiting t n (λ x. omega arith))

          go : Fair (foldl (induction.next closes) r since) [] → Active (foldl (induction.next closes) r since) (standing (foldl (induction.next closes) r since) (map event later))
          go (waiting u m g) = absurd (m refl)
          go (done x p l g) =
              let s = (induction.every closes (Has x) (has x (λ q. absurd (omega (arith, q, l)))) later rest _ then.handed then.shaped p).holds in
              rw (← stands later (foldl (induction.next closes) r since))
              (λ q. absurd (omega (arith, q, p.1, l)), subst (λ (y : ℕ). filter (gives y) (accepted (map event since)) ≢ []) (sym p.1) (some _ (omega (arith, g))), s.0, s.1 ∙ sym p.1)

  stands-both : (xs ys : List C) (r : BeaconState) → standing r (map event (xs ++ ys)) ≡ standing (standing r (map event xs)) (map event ys)
  stands-both [] ys r = refl
  stands-both (c ∷ xs) ys r = stands-both xs ys (after r (event c))

  -- nothing, of a list's beginning
  nothing : induction.Invariant closes (λ r cs. Unit {0})
  nothing = record { others = λ r o cs h p. tt; refused = λ r c cs a p. tt; accepted = λ c cs a k p. tt }

  pub next-electra : (start : BeaconState) (cs : List C) → ((c : C) → accepts (event c) ≡ false → is_electra c ≡ false) → induction.Handed closes start cs → induction.Each closes cs
      → NextElectra event is_electra start cs
  next-electra start cs only h k before since later rest i q t n =
      let r = standing start (map event before) in
      let all = q ∙ append_assoc (before ++ since) later rest ∙ append_assoc before since (later ++ rest) in
      let s =
      induction.every closes (λ r cs. Unit {0}) nothing before (since ++ (later ++ rest)) start (subst (induction.Handed closes start) all h)
      (subst (induction.Each closes) all k) tt in
      let two = stands-both before since start in
      let three = stands-both (before ++ since) later start ∙ ap (λ (r : BeaconState). standing r (map event later)) two in
      subst₂ (Active i only since) (sym two) (sym three)
      (along i only since later rest r (rw (← stands before start) s.handed) s.shaped (subst T (waits-is r i) t) n)
