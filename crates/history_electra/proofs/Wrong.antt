-- Wrong closes are shut out by the claim itself, and wrong bounds by lists of closes.
use mathlib.Core.Path.{◌≡◌, refl, ap, sym, subst}
use mathlib.Core.Bool.{false}
use mathlib.Core.List.{List, [], ◌∷◌, map, cons-ne-nil}
use Prim.Native.Nat.{ℕ, zero, suc, ◌+◌, ◌-◌, ◌*◌, ◌/◌, max, ◌≤◌, ◌<◌}
use native.Mathlib.Omega.{arith}
use lib.Dec.{T}
use lib.ListN.{length}
use Rattle.definitions.specs.Lists.{filter, all, sum}
use Rattle.definitions_electra.specs.declared.PendingDeposit.{PendingDeposit}
use Rattle.definitions_electra.specs.Record.{ElectraState, registry_of, place_of}
use Rattle.definitions_electra.specs.Document.Electra.EpochProcessing.{finalized_epoch_of, is_known}
use Rattle.history.proofs.Computing.{computing}
use Rattle.history.proofs.Induction.{all-met}
use Rattle.history_electra.specs.Events.{up_to, amounts, slots_at_most, ceil, closes_for, Event, accepted, after, all_moved, Others, Premises, Least, MovedOn, Claim}
use Rattle.history_electra.specs.DepositsEarn.{Close, event}
use Rattle.history_electra.proofs.Computing.{electra}
use Rattle.history_electra.proofs.Small.{rules, empty, deposit, close}
use Rattle.history_electra.proofs.Front.{follows-all}
use Rattle.history_electra.proofs.EveryList.{each-met}
use Rattle.history_electra.proofs.Parts.{Both}

-- Closes with literal outcomes: the premises hold, and the claim is false

-- accepted, with at most one deposit a close and a limit of 10
abbrev returning : ElectraState → ElectraState → ℕ → Event
returning o r n = record { opening = o; returned = r; refusal = 0; slots = 4; number = 1; churn = 10; moved = n; others_stay = false }

pub record Refuted (start : ElectraState) (events : List Event) : Type 0 where
  pub premises : Premises start events
  pub least : Least 4 1 10 events
  pub not_claimed : Claim 4 1 10 start events → ⊥

untouched : (st : ElectraState) → Others st st
untouched st = record { queue = follows-all st.pending_deposits; carried = omega arith; final = omega arith }

-- of one close, handed a and returning b
module _ (carried' : ℕ) (ds es : List PendingDeposit) (n : ℕ) where
  abbrev a : ElectraState
  a = empty 0 0 ds

  abbrev b : ElectraState
  b = empty 0 carried' es

  met : Premises a (returning a b n ∷ [])
  unfolding filter
  met =
      record {
        handed = all-met (λ r e. Others r e.opening) after (returning a b n ∷ []) a (untouched a, tt);
        kept = each-met (λ e. finalized_epoch_of e.opening ≤ finalized_epoch_of e.returned) (returning a b n ∷ []) (λ _. omega arith, tt);
        bridge = each-met (λ e. e.opening.deposit_requests_start_index ≤ e.opening.eth1_deposit_index) (returning a b n ∷ []) (λ _. omega arith, tt);
      }

  smallest : Least 4 1 10 (returning a b n ∷ [])
  unfolding filter
  smallest =
      record {
        some_number = omega arith;
        some_churn = omega arith;
        smallest = each-met (λ e. (4 ≤ e.slots) × (1 ≤ e.number) × (10 ≤ e.churn)) (returning a b n ∷ []) (λ _. (omega arith, omega arith, omega arith), tt);
      }

-- the opening is handed back, and nothing is ever processed
abbrev five : List PendingDeposit
five = deposit 0 5 0 ∷ []

-- its key is no validator's, so that it is not postponed
postponed_it : (ps : List PendingDeposit) → five ≡ ps → T (all (is_known (registry_of (empty 0 0 five))) ps) → ⊥
unfolding all place_of
postponed_it ps e t = subst (λ (ds : List PendingDeposit). T (all (is_known (registry_of (empty 0 0 five))) ds)) (sym e) t

-- whatever it says of how far it moved the queue on
pub never : (n : ℕ) → Refuted (empty 0 0 five) (returning (empty 0 0 five) (empty 0 0 five) n ∷ [])
unfolding filter sum all
never n = record { premises = met 0 five five n; least = smallest 0 five five n; not_claimed = not_moved n }
  where
    not_moved : (n : ℕ) → Claim 4 1 10 (empty 0 0 five) (returning (empty 0 0 five) (empty 0 0 five) n ∷ []) → ⊥
    not_moved zero c = absurd (omega (arith, c.served [] (returning (empty 0 0 five) (empty 0 0 five) 0 ∷ []) [] 0 refl (omega arith) tt (omega arith)))
    not_moved (suc zero) c = let m = c.queue [] [] (returning (empty 0 0 five) (empty 0 0 five) 1) refl in postponed_it m.postponed m.rest m.known
    not_moved (suc (suc n)) c =
        let m = c.queue [] [] (returning (empty 0 0 five) (empty 0 0 five) (suc (suc n))) refl in absurd (omega (arith, m.within))

-- the last is taken first, whatever it says of how far it moved the queue on
abbrev both : List PendingDeposit
both = deposit 0 5 0 ∷ deposit 0 6 0 ∷ []

pub last-first : (n : ℕ) → Refuted (empty 0 0 both) (returning (empty 0 0 both) (empty 0 0 five) n ∷ [])
unfolding filter sum all
last-first n = record { premises = met 0 both five n; least = smallest 0 both five n; not_claimed = not_moved n }
  where
    first_amount : List PendingDeposit → ℕ
    first_amount [] = 0
    first_amount (d ∷ ds) = d.amount

    not_moved : (n : ℕ) → Claim 4 1 10 (empty 0 0 both) (returning (empty 0 0 both) (empty 0 0 five) n ∷ []) → ⊥
    not_moved zero c = absurd (omega (arith, c.served [] (returning (empty 0 0 both) (empty 0 0 five) 0 ∷ []) [] 0 refl (omega arith) tt (omega arith)))
    not_moved (suc zero) c = let m = c.queue [] [] (returning (empty 0 0 both) (empty 0 0 five) 1) refl in absurd (omega (arith, ap first_amount m.rest))
    not_moved (suc (suc zero)) c = let m = c.queue [] [] (returning (empty 0 0 both) (empty 0 0 five) 2) refl in postponed_it m.postponed m.rest m.known
    not_moved (suc (suc (suc n))) c =
        let m = c.queue [] [] (returning (empty 0 0 both) (empty 0 0 five) (suc (suc (suc n)))) refl in absurd (omega (arith, m.within))

-- one that is behind is lost
pub lost : Refuted (empty 0 0 both) (returning (empty 0 0 both) (empty 0 0 []) 1 ∷ [])
unfolding filter
lost =
    record {
      premises = met 0 both [] 1;
      least = smallest 0 both [] 1;
      not_claimed = λ c. let m = c.queue [] [] (returning (empty 0 0 both) (empty 0 0 []) 1) refl in cons-ne-nil (deposit 0 6 0) m.postponed (sym m.rest);
    }

-- 15, where the limit is 10: what was carried is forgotten, and it is never reached
abbrev fifteen : ElectraState
fifteen = empty 0 0 (deposit 0 15 0 ∷ [])

-- that it moved on is not to be said: its key is no validator's either
never-postponed : (n : ℕ) → MovedOn (suc n) fifteen.pending_deposits fifteen → ⊥
unfolding all place_of
never-postponed zero m = subst (λ (ds : List PendingDeposit). T (all (is_known (registry_of fifteen)) ds)) (sym m.rest) m.known
never-postponed (suc n) m = absurd (omega (arith, m.within))

abbrev forgetting : ℕ → ℕ → List Event
forgetting n m = returning fifteen fifteen n ∷ returning fifteen fifteen m ∷ []

pub forgotten : (n m : ℕ) → Refuted fifteen (forgetting n m)
unfolding filter sum all
forgotten n m =
    record {
      premises = record {
        handed = all-met (λ r e. Others r e.opening) after (forgetting n m) fifteen (untouched fifteen, (untouched fifteen, tt));
        kept = each-met (λ e. finalized_epoch_of e.opening ≤ finalized_epoch_of e.returned) (forgetting n m) (λ _. omega arith, (λ _. omega arith, tt));
        bridge = each-met (λ e. e.opening.deposit_requests_start_index ≤ e.opening.eth1_deposit_index) (forgetting n m) (λ _. omega arith, (λ _. omega arith, tt));
      };
      least = record {
        some_number = omega arith;
        some_churn = omega arith;
        smallest = each-met (λ e. (4 ≤ e.slots) × (1 ≤ e.number) × (10 ≤ e.churn)) (forgetting n m) (λ _. (omega arith, omega arith, omega arith), (λ _. (omega arith, omega arith, omega arith), tt));
      };
      not_claimed = not_moved n m;
    }
  where
    not_moved : (n m : ℕ) → Claim 4 1 10 fifteen (forgetting n m) → ⊥
    not_moved zero zero c = absurd (omega (arith, c.served [] (forgetting 0 0) [] 0 refl (omega arith) tt (omega arith)))
    not_moved zero (suc m) c = never-postponed m (c.queue (returning fifteen fifteen 0 ∷ []) [] (returning fifteen fifteen (suc m)) refl)
    not_moved (suc n) m c = never-postponed n (c.queue [] (returning fifteen fifteen m ∷ []) (returning fifteen fifteen (suc n)) refl)

-- Wrong bounds: of a deposit at the start, by p, c, the record and k, with what is asked of slots

abbrev Within : (ℕ → ℕ → ElectraState → ℕ → ℕ) → Type 0
Within closes-for =
    (s p c : ℕ) (start : ElectraState) (closes : List Close) → let events = map event closes in
    Premises start events → Least s p c events → (k : ℕ) → k < length start.pending_deposits
    → T (slots_at_most (finalized_epoch_of start * s) (up_to start k)) → closes-for p c start k ≤ length (accepted events) → k < all_moved (accepted events)

both_one : (s p c : ℕ) (e : Event) → 1 ≤ p → 1 ≤ c → finalized_epoch_of e.opening ≤ finalized_epoch_of e.returned
    → e.opening.deposit_requests_start_index ≤ e.opening.eth1_deposit_index → (s ≤ e.slots) × (p ≤ e.number) × (c ≤ e.churn)
    → Both s p c e.opening (e ∷ [])
both_one s p c e n m k b l =
    record {
      premises = record {
        handed = all-met (λ r f. Others r f.opening) after (e ∷ []) e.opening (untouched e.opening, tt);
        kept = each-met (λ f. finalized_epoch_of f.opening ≤ finalized_epoch_of f.returned) (e ∷ []) (λ _. k, tt);
        bridge = each-met (λ f. f.opening.deposit_requests_start_index ≤ f.opening.eth1_deposit_index) (e ∷ []) (λ _. b, tt);
      };
      least = record { some_number = n; some_churn = m; smallest = each-met (λ f. (s ≤ f.slots) × (p ≤ f.number) × (c ≤ f.churn)) (e ∷ []) (λ _. l, tt) };
    }

-- one close of 15, where the limit is 10
once : Both 4 1 10 fifteen (map event (close (rules 4 1 10) fifteen ∷ []))
unfolding computing electra
once = both_one 4 1 10 (event (close (rules 4 1 10) fifteen)) (omega arith) (omega arith) (omega arith) (omega arith) (omega arith, omega arith, omega arith)

pub not_by_the_number : Within (λ p c st k. k / p + 1) → ⊥
unfolding computing electra
not_by_the_number h = absurd (omega (arith, h 4 1 10 fifteen (close (rules 4 1 10) fifteen ∷ []) once.premises once.least 0 (omega arith) tt (omega arith)))

pub not_one_fewer : Within (λ p c st k. closes_for p c k (amounts (up_to st k)) - 1) → ⊥
unfolding computing electra
not_one_fewer h = absurd (omega (arith, h 4 1 10 fifteen (close (rules 4 1 10) fifteen ∷ []) once.premises once.least 0 (omega arith) tt (omega arith)))

-- one a close, and one ahead
pub not_by_the_limit : Within (λ p c st k. max 1 (ceil (amounts (up_to st k)) c)) → ⊥
unfolding computing electra
not_by_the_limit h =
    let e = event (close (rules 4 1 20) (empty 0 0 both)) in
    let m : Both 4 1 20 (empty 0 0 both) (e ∷ []) = both_one 4 1 20 e (omega arith) (omega arith) (omega arith) (omega arith) (omega arith, omega arith, omega arith) in
    absurd (omega (arith, h 4 1 20 (empty 0 0 both) (close (rules 4 1 20) (empty 0 0 both) ∷ []) m.premises m.least 1 (omega arith) tt (omega arith)))

-- an amount of 0 is not applied by no close
pub not_without_one : Within (λ p c st k. k / p + ceil (amounts (up_to st k)) c) → ⊥
unfolding computing
not_without_one h =
    absurd (omega (arith, h 4 1 10 (empty 0 0 (deposit 0 0 0 ∷ [])) [] none least_of_none 0 (omega arith) tt (omega arith)))
  where
    none : Premises (empty 0 0 (deposit 0 0 0 ∷ [])) []
    none =
        record {
          handed = all-met (λ r e. Others r e.opening) after [] (empty 0 0 (deposit 0 0 0 ∷ [])) tt;
          kept = each-met (λ e. finalized_epoch_of e.opening ≤ finalized_epoch_of e.returned) [] tt;
          bridge = each-met (λ e. e.opening.deposit_requests_start_index ≤ e.opening.eth1_deposit_index) [] tt;
        }

    least_of_none : Least 4 1 10 []
    least_of_none = record { some_number = omega arith; some_churn = omega arith; smallest = each-met (λ e. (4 ≤ e.slots) × (1 ≤ e.number) × (10 ≤ e.churn)) [] tt }

-- what is carried at the start does not count: a close that ends by the number takes 1 and loses 10, and the next, with a limit of 1, does not reach 10
abbrev rich : ElectraState
rich = empty 0 10 (deposit 0 1 0 ∷ deposit 0 10 0 ∷ [])

abbrev poor : ElectraState
poor = empty 0 0 (deposit 0 10 0 ∷ [])

abbrev twice : List Event
twice = event (close (rules 4 1 1) rich) ∷ event (close (rules 4 1 1) poor) ∷ []

pub not_less_the_carried : Within (λ p c st k. k / p + max 1 (ceil (amounts (up_to st k) - st.deposit_balance_to_consume) c)) → ⊥
unfolding computing electra
not_less_the_carried h =
    absurd (omega (arith, h 4 1 1 rich (close (rules 4 1 1) rich ∷ close (rules 4 1 1) poor ∷ []) kept smallest-one 1 (omega arith) tt (omega arith)))
  where
    kept : Premises rich twice
    kept =
        record {
          handed = all-met (λ r e. Others r e.opening) after twice rich (untouched rich, (untouched poor, tt));
          kept = each-met (λ e. finalized_epoch_of e.opening ≤ finalized_epoch_of e.returned) twice (λ _. omega arith, (λ _. omega arith, tt));
          bridge = each-met (λ e. e.opening.deposit_requests_start_index ≤ e.opening.eth1_deposit_index) twice (λ _. omega arith, (λ _. omega arith, tt));
        }

    smallest-one : Least 4 1 1 twice
    smallest-one =
        record {
          some_number = omega arith;
          some_churn = omega arith;
          smallest = each-met (λ e. (4 ≤ e.slots) × (1 ≤ e.number) × (1 ≤ e.churn)) twice (λ _. (omega arith, omega arith, omega arith), (λ _. (omega arith, omega arith, omega arith), tt));
        }

-- Slots that are not asked for: one that is not finalized

abbrev early : ElectraState
early = empty 0 0 (deposit 0 5 1 ∷ [])

pub not_before_finality : ((s p c : ℕ) (start : ElectraState) (closes : List Close) → let events = map event closes in Premises start events
    → Least s p c events → (k : ℕ) → k < length start.pending_deposits → closes_for p c k (amounts (up_to start k)) ≤ length (accepted events)
    → k < all_moved (accepted events)) → ⊥
unfolding computing electra
not_before_finality h =
    let e = event (close (rules 4 1 10) early) in
    let m : Both 4 1 10 early (e ∷ []) = both_one 4 1 10 e (omega arith) (omega arith) (omega arith) (omega arith) (omega arith, omega arith, omega arith) in
    absurd (omega (arith, h 4 1 10 early (close (rules 4 1 10) early ∷ []) m.premises m.least 0 (omega arith) (omega arith)))
