-- 03, F-3, "Deposits start earning", over lists of events. An event is a close as it was called and as it came back, by what the claim asks of it;
-- DepositsEarn.antt has the instance that is owed. Words in quotation marks are the document's.
use Rattle.std.specs.Prelude.{◌≡◌, ◌⊎◌, Bool, cond, ℕ, suc, ◌+◌, ◌-◌, ◌*◌, ◌/◌, max, ◌≤◌, ◌<◌, T, leb, eqb, length, take, drop}
use mathlib.Core.List.{List, [], ◌∷◌, ◌++◌, map, foldl}
use Rattle.definitions.specs.Lists.{filter, all, sum}
use Rattle.definitions_electra.specs.declared.PendingDeposit.{PendingDeposit}
use Rattle.definitions_electra.specs.Record.{ElectraState, registry_of}
use Rattle.definitions_electra.specs.Document.Electra.EpochProcessing.{finalized_epoch_of, is_known}

-- "a deposit with k deposits ahead of it": it, and they
abbrev pub up_to : ElectraState → ℕ → List PendingDeposit
up_to r k = take (suc k) r.pending_deposits

-- "whose amounts with its own sum to K"
abbrev pub amounts : List PendingDeposit → ℕ
amounts ds = sum (map (λ d. d.amount) ds)

-- "its slot and theirs at most the finalized slot"
abbrev pub slots_at_most : ℕ → List PendingDeposit → Bool
slots_at_most slot ds = all (λ d. leb d.slot slot) ds

abbrev pub ceil : ℕ → ℕ → ℕ
ceil a b = (a + b - 1) / b

-- "floor(k / p) + max(1, ceil(K / c)) further closes"
abbrev pub closes_for : ℕ → ℕ → ℕ → ℕ → ℕ
closes_for p c k K = k / p + max 1 (ceil K c)

pub record Event : Type 0 where
  -- the record handed in, the one returned, and 0 or the refusal's number
  pub opening : ElectraState
  pub returned : ElectraState
  pub refusal : ℕ
  -- of its settings: slots_per_epoch, max_pending_deposits_per_epoch, and "the smallest churn limit the settings allow"
  pub slots : ℕ
  pub number : ℕ
  pub churn : ℕ
  -- by how many deposits it moved the queue on: these are the ones "applied or postponed"
  pub moved : ℕ
  -- a refused close leaves the record that stood, with what others had done to it by then, or without
  pub others_stay : Bool

-- A close that answers no refusal number is accepted
abbrev pub accepts : Event → Bool
accepts e = eqb e.refusal 0

abbrev pub accepted : List Event → List Event
accepted events = filter accepts events

abbrev pub after : ElectraState → Event → ElectraState
after r e = cond (accepts e) e.returned (cond e.others_stay e.opening r)

-- the record that stands after some events
abbrev pub standing : ElectraState → List Event → ElectraState
standing start events = foldl after start events

abbrev pub all_moved : List Event → ℕ
all_moved events = sum (map (λ e. e.moved) events)

-- the deposits that stood, by amount and slot, are the first that are handed in; keys may be numbered anew, and all else of them changed
abbrev pub Follows : List PendingDeposit → List PendingDeposit → Type 0
Follows [] es = Unit {0}
Follows (d ∷ ds) [] = ⊥
Follows (d ∷ ds) (e ∷ es) = (e.amount ≡ d.amount) × (e.slot ≡ d.slot) × Follows ds es

-- r stood and o is handed in. To registry, credentials, consolidations, exits and slashings others may do anything.
pub record Others (r o : ElectraState) : Type 0 where
  -- "Between closes others may only add deposits at the end"
  pub queue : Follows r.pending_deposits o.pending_deposits
  -- nobody takes away what was carried
  pub carried : r.deposit_balance_to_consume ≤ o.deposit_balance_to_consume
  -- "Finality may stand still but does not go back"
  pub final : finalized_epoch_of r ≤ finalized_epoch_of o

pub record Premises (start : ElectraState) (events : List Event) : Type 0 where
  pub handed : (before later : List Event) (e : Event) → events ≡ before ++ e ∷ later → Others (standing start before) e.opening
  -- nor does a close take finality back
  pub kept : (before later : List Event) (e : Event) → accepted events ≡ before ++ e ∷ later
      → finalized_epoch_of e.opening ≤ finalized_epoch_of e.returned
  -- "no close finds eth1_deposit_index below deposit_requests_start_index"
  pub bridge : (before later : List Event) (e : Event) → accepted events ≡ before ++ e ∷ later
      → e.opening.deposit_requests_start_index ≤ e.opening.eth1_deposit_index

-- "p is the smallest max_pending_deposits_per_epoch and c the smallest churn limit the settings allow, both at least 1"; s the smallest
-- slots_per_epoch. Settings may change from close to close.
pub record Least (s p c : ℕ) (events : List Event) : Type 0 where
  pub some_number : 1 ≤ p
  pub some_churn : 1 ≤ c
  pub smallest : (before later : List Event) (e : Event) → accepted events ≡ before ++ e ∷ later
      → (s ≤ e.slots) × (p ≤ e.number) × (c ≤ e.churn)

-- some of ds, in their order
abbrev pub Among : List PendingDeposit → List PendingDeposit → Type 0
Among [] ds = Unit {0}
Among (x ∷ xs) [] = ⊥
Among (x ∷ xs) (d ∷ ds) = ((x ≡ d) × Among xs ds) ⊎ Among (x ∷ xs) ds

-- F-2: "The queue is then the rest, and behind it those postponed": `before` moved on by n is that of r. Only a deposit whose "key is a
-- validator's" is postponed.
pub record MovedOn (n : ℕ) (before : List PendingDeposit) (r : ElectraState) : Type 0 where
  pub postponed : List PendingDeposit
  pub within : n ≤ length before
  pub some : Among postponed (take n before)
  pub known : T (all (is_known (registry_of r)) postponed)
  pub rest : r.pending_deposits ≡ drop n before ++ postponed

-- `before`, `since` and `later` are parts of the list, in this order
pub record Claim (s p c : ℕ) (start : ElectraState) (events : List Event) : Type 0 where
  -- such a deposit at the start or after any close "has been applied or postponed once .. further closes are accepted": they have moved the
  -- queue on by more than k
  pub served : (before since later : List Event) (k : ℕ) → events ≡ before ++ since ++ later → let r = standing start before in
      k < length r.pending_deposits → T (slots_at_most (finalized_epoch_of r * s) (up_to r k))
      → closes_for p c k (amounts (up_to r k)) ≤ length (accepted since) → k < all_moved (accepted since)
  -- and what moving on means
  pub queue : (before later : List Event) (e : Event) → accepted events ≡ before ++ e ∷ later
      → MovedOn e.moved e.opening.pending_deposits e.returned
