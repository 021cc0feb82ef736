-- The premises in parts, and without one of them: for Needed.antt. All of them together are the premises.
use mathlib.Core.Path.{◌≡◌, refl}
use mathlib.Core.Bool.{Bool, true, false, cond, not}
use mathlib.Core.List.{List, [], ◌∷◌, ◌++◌, map}
use Prim.Native.Nat.{ℕ, ◌≤◌}
use native.Mathlib.Omega.{arith}
use lib.Dec.{T, eqb}
use lib.ListN.{length}
use Rattle.definitions.specs.Lists.{filter}
use Rattle.definitions_electra.specs.declared.PendingDeposit.{PendingDeposit}
use Rattle.definitions_electra.specs.Record.{ElectraState}
use Rattle.definitions_electra.specs.Document.Electra.EpochProcessing.{finalized_epoch_of}
use Rattle.history.proofs.Induction.{All, all-met}
use Rattle.history_electra.specs.Events.{Event, accepts, accepted, after, Follows, Others, Premises, Least, Claim}
use Rattle.history_electra.specs.DepositsEarn.{Close, event}

pub data Part : Type 0 where
  some_number some_churn : Part
  smallest_slots smallest_number smallest_churn : Part
  present amounts_stay slots_stay carried_stays finality_stays : Part
  finality_kept bridge_closed : Part

abbrev pub place : Part → ℕ
place some_number = 0
place some_churn = 1
place smallest_slots = 2
place smallest_number = 3
place smallest_churn = 4
place present = 5
place amounts_stay = 6
place slots_stay = 7
place carried_stays = 8
place finality_stays = 9
place finality_kept = 10
place bridge_closed = 11

-- A is asked as y, unless y is the part x that is left out
abbrev pub Unless : Part → Part → Type 0 → Type 0
Unless x y A = T (not (eqb (place x) (place y))) → A

-- the number f of those that stood
abbrev pub Same : (PendingDeposit → ℕ) → List PendingDeposit → List PendingDeposit → Type 0
Same f [] es = Unit {0}
Same f (d ∷ ds) [] = Unit {0}
Same f (d ∷ ds) (e ∷ es) = (f e ≡ f d) × Same f ds es

pub record OthersBut (x : Part) (r o : ElectraState) : Type 0 where
  pub there : Unless x present (length r.pending_deposits ≤ length o.pending_deposits)
  pub amounts : Unless x amounts_stay (Same (λ d. d.amount) r.pending_deposits o.pending_deposits)
  pub slots : Unless x slots_stay (Same (λ d. d.slot) r.pending_deposits o.pending_deposits)
  pub carried : Unless x carried_stays (r.deposit_balance_to_consume ≤ o.deposit_balance_to_consume)
  pub final : Unless x finality_stays (finalized_epoch_of r ≤ finalized_epoch_of o)

pub record EventBut (x : Part) (s p c : ℕ) (e : Event) : Type 0 where
  pub kept : Unless x finality_kept (finalized_epoch_of e.opening ≤ finalized_epoch_of e.returned)
  pub bridge : Unless x bridge_closed (e.opening.deposit_requests_start_index ≤ e.opening.eth1_deposit_index)
  pub slots : Unless x smallest_slots (s ≤ e.slots)
  pub number : Unless x smallest_number (p ≤ e.number)
  pub churn : Unless x smallest_churn (c ≤ e.churn)

abbrev pub EachBut : Part → ℕ → ℕ → ℕ → List Event → Type 0
EachBut x s p c es = All (λ (u : Unit {0}) (e : Event). EventBut x s p c e) (λ u e. u) tt es

pub record PremisesBut (x : Part) (s p c : ℕ) (start : ElectraState) (events : List Event) : Type 0 where
  pub positive_number : Unless x some_number (1 ≤ p)
  pub positive_churn : Unless x some_churn (1 ≤ c)
  pub handed : All (λ r e. OthersBut x r e.opening) after start events
  pub each : EachBut x s p c (accepted events)

-- x is needed: a list of closes by the definition that meets the others, and of which the claim is false
pub record Shows (x : Part) : Type 0 where
  pub slots : ℕ
  pub number : ℕ
  pub churn : ℕ
  pub start : ElectraState
  pub closes : List Close
  pub others-met : PremisesBut x slots number churn start (map event closes)
  pub not_claimed : Claim slots number churn start (map event closes) → ⊥

-- Others leave all as it is, and one close that is handed o

pub all-kept : (x : Part) (r : ElectraState) → OthersBut x r r
all-kept x r =
    record {
      there = λ _. omega arith;
      amounts = λ _. same (λ d. d.amount) r.pending_deposits;
      slots = λ _. same (λ d. d.slot) r.pending_deposits;
      carried = λ _. omega arith;
      final = λ _. omega arith;
    }
  where
    same : (f : PendingDeposit → ℕ) (ds : List PendingDeposit) → Same f ds ds
    same f [] = tt
    same f (d ∷ ds) = (refl, same f ds)

pub in_one : (x : Part) (s p c : ℕ) (start : ElectraState) (e : Event) → Unless x some_number (1 ≤ p) → Unless x some_churn (1 ≤ c)
    → OthersBut x start e.opening → EventBut x s p c e → PremisesBut x s p c start (e ∷ [])
unfolding filter
in_one x s p c start e n m h g = record { positive_number = n; positive_churn = m; handed = (h, tt); each = each (accepts e) }
  where
    each : (b : Bool) → EachBut x s p c (cond b (e ∷ []) [])
    each true = (g, tt)
    each false = tt

-- All parts

follows : (ds es : List PendingDeposit) → length ds ≤ length es → Same (λ d. d.amount) ds es → Same (λ d. d.slot) ds es → Follows ds es
follows [] es l a b = tt
follows (d ∷ ds) [] l a b = absurd (omega arith)
follows (d ∷ ds) (e ∷ es) l a b = (a.0, b.0, follows ds es (omega arith) a.1 b.1)

-- with `some_number` left out and with `some_churn` left out, every other part is asked
others : (start : ElectraState) (es : List Event) → All (λ r e. OthersBut some_number r e.opening) after start es
    → All (λ r e. Others r e.opening) after start es
others r [] h = tt
others r (e ∷ es) h =
    let o = h.0 in
    (record { queue = follows r.pending_deposits e.opening.pending_deposits (o.there tt) (o.amounts tt) (o.slots tt); carried = o.carried tt; final = o.final tt }, others (after r e) es h.1)

pub record Both (s p c : ℕ) (start : ElectraState) (es : List Event) : Type 0 where
  pub premises : Premises start es
  pub least : Least s p c es

pub together : (s p c : ℕ) (start : ElectraState) (es : List Event) → ((x : Part) → PremisesBut x s p c start es) → Both s p c start es
together s p c start es h =
    record {
      premises = record {
        handed = all-met (λ r e. Others r e.opening) after es start (others start es (h some_number).handed);
        kept = λ before later e q. (at before later e q).kept tt;
        bridge = λ before later e q. (at before later e q).bridge tt;
      };
      least = record {
        some_number = (h some_churn).positive_number tt;
        some_churn = (h some_number).positive_churn tt;
        smallest = λ before later e q. let b = at before later e q in (b.slots tt, b.number tt, b.churn tt);
      };
    }
  where
    at : (before later : List Event) (e : Event) → accepted es ≡ before ++ e ∷ later → EventBut some_number s p c e
    at = all-met (λ (u : Unit {0}) (e : Event). EventBut some_number s p c e) (λ u e. u) (accepted es) tt (h some_number).each
