-- Demands 1 and 2 of `electra_close` and that its amounts add up; of every list of its calls when deposits start earning and how full an exit epoch
-- gets; demand 3 of every list in which each close names any fork. `Learnt` is a function's own contract.
use mathlib.Core.Path.{◌≡◌, refl, sym, ap, ap₂, ◌∙◌, subst}
use mathlib.Core.Logic.{◌≢◌}
use mathlib.Core.Bool.{Bool, true, false, cond}
use mathlib.Core.List.{List, [], ◌∷◌, ◌++◌, map, map-append, cons≢nil}
use Prim.Native.Nat.{ℕ, ◌+◌, ◌*◌, ◌%◌, ◌^◌, ◌<◌}
use contract.Lifetimes.{Lfts}
use borrow.Author.Tests.{ne_eqb}
use borrow.Fn.Kinds.{Dens, res_t, ended_of}
use denote.Triple.Clauses.{AtExit}
use lib.Dec.{eqb}
use lib.ListN.{length, get_or}
use Rattle.definitions.specs.Lists.{filter}
use Rattle.definitions.specs.Record.{BeaconState, decode}
use Rattle.definitions.specs.Updates.{with_finality}
use Rattle.definitions.specs.Checked.{Checked, value, refused, number_of, bind, code_of, settle}
use Rattle.definitions.specs.Refusals.{after_tests, closing_buffer}
use Rattle.laws.proofs.Checked.{number_not_zero}
use Rattle.laws_close.specs.Nine.{rewards_in, taken_in, balance_at}
use Rattle.definitions_electra.specs.declared.ExitChurn.{ExitChurn}
use Rattle.definitions_electra.specs.declared.PendingDeposit.{PendingDeposit}
use Rattle.definitions_electra.specs.Record.{ElectraState, registry_of, with_altair, with_deposits, encode_deposits, first_deposits}
use Rattle.definitions_electra.specs.Refusals.{exit_tests}
use Rattle.definitions_electra.specs.Calls.{lent_finality, no_deposit_numbers, lent_state, exit_work, churn_in}
use Rattle.definitions_electra.specs.Evaluated.Electra.EpochProcessing.{process_epoch}
use Rattle.definitions_electra_close.specs.Calls.{electra_called, electra_outcome}
use Rattle.definitions_electra_close.specs.Close.{ElectraCall, electra_state_of, electra_tests, electra_closed, electra_answer, ElectraOutcome, electra_close}
use Rattle.theorems_electra_close.specs.ByNumber.{ElectraCloseCall}
use Rattle.theorems_electra_close.specs.Accounted.{row_of, deposited_in, out_in, into_in, AccountedCall}
use Rattle.theorems_electra_close.proofs.ByNumber.{electra_close-call}
use Rattle.theorems_electra_close.proofs.Call.{accounted-call}
use Rattle.history_electra.specs.Events as queue
use Rattle.history_electra.specs.DepositsEarn as deposits
use Rattle.history_electra.specs.DepositsEarn.{smallest_churn, next_deposit}
use Rattle.history_electra.specs.ExitEpochs as exits
use Rattle.history_electra.specs.ExitEpochs.{exit_made, exits_made, closing, exiting}
use Rattle.history_electra.proofs.WholeClose.{deposits_earn}
use Rattle.history_electra.proofs.ExitEpochs.Calls.{exit-epochs}
use Rattle.history.specs.Events.{Event, accepts, Least, Premises, Claim}
use Rattle.history_forks.specs.Demand3 as forks
use Rattle.history_forks.specs.Demand3.{electra_event, NextElectra}
use Rattle.history_forks.proofs.Demand3.{closed_at, demand3}
use Rattle.exports.proofs.DenebCalls.{ForkCame, event_came, fork_of, same-fork}
use Rattle.exports.proofs.electra_calls.electra_close.Kinds as close_kinds
use Rattle.exports.proofs.electra_calls.electra_close.Reads as close
use Rattle.exports.proofs.electra.electra_initiate_validator_exit.Kinds as exit_kinds
use Rattle.exports.proofs.electra.electra_initiate_validator_exit.Reads as exit

-- a call of the close that came back, and that the contract holds of it
pub record ElectraCame : Type 0 where
  pub lifetimes : Lfts 13
  pub lent : Dens lifetimes close_kinds.ps
  pub answer : (res_t close_kinds.r lifetimes).Denot
  pub end : AtExit (ended_of 13 close_kinds.ps close_kinds.r) lifetimes
  pub holds : close.Learnt lifetimes lent answer end

-- the call, from what was lent; the outcome, from the answer and what the lent numbers are at the end
abbrev pub called : ElectraCame → ElectraCall
called c =
    let a = c.lent in
    let b = a.1.1.1.1 in
    let d = b.1.1.1.1.1.1 in
    electra_called a.0 a.1.0 a.1.1.0 a.1.1.1.0 b.0.now b.1.0.now b.1.1.0.now b.1.1.1.0.now
    b.1.1.1.1.0.now b.1.1.1.1.1.0.now d.0.now d.1.0.now d.1.1.0.now d.1.1.1.0.now d.1.1.1.1.0.now
    d.1.1.1.1.1.0.now d.1.1.1.1.1.1.0.now

abbrev pub came_back : ElectraCame → ElectraOutcome
came_back c =
    let d = c.end.1.1.1.1.1.1.1.1.1.1 in
    electra_outcome c.answer d.0.now d.1.0.now d.1.1.0.now d.1.1.1.0.now d.1.1.1.1.0.now d.1.1.1.1.1.0.now

-- `ElectraCloseCall` is of the outcome that the definition has
pub demand2-electra_close : (c : ElectraCame) → (came_back c ≡ electra_close (called c)) × ElectraCloseCall (called c)
demand2-electra_close c = (c.holds, electra_close-call (called c))

-- The twelve amounts

-- of an accepted call, by the numbers that the lent lists then hold: the seventh of a validator's ten is its balance
pub record AmountsCame (c : ElectraCall) (o : ElectraOutcome) : Type 0 where
  pub state : ElectraState
  pub closed : electra_closed c ≡ value state
  pub law : AccountedCall c state
  pub adds : (i : ℕ) → i < o.answer.validators → let row = row_of o.amounts i in
      (balance_at (decode c.registry) i + rewards_in row + deposited_in row + into_in row) % (2 ^ 64)
      ≡ (get_or o.closing_registry (10 * i + 6) 0 + taken_in row + out_in row) % (2 ^ 64)

amounts-call : (c : ElectraCall) → (electra_close c).answer.refusal ≡ 0 → AmountsCame c (electra_close c)
amounts-call c z =
    let e = closed_at c z in
    let law = accounted-call c e.0 e.1 in
    record {
      state = e.0;
      closed = e.1;
      law = law;
      adds = λ i l. let k = subst (λ (n : ℕ). i < n) law.count l in rw (law.row i k, law.closes i k) (law.law.modulo i k);
    }

pub amounts-electra_close : (c : ElectraCame) → (came_back c).answer.refusal ≡ 0 → AmountsCame (called c) (came_back c)
amounts-electra_close c z =
    rw c.holds (amounts-call (called c) (ap (λ (o : ElectraOutcome). o.answer.refusal) (sym c.holds) ∙ z))

-- Deposits start earning

-- An accepted close returned finality and what is carried as answered, and of the closing queue as many deposits as answered. The claim reads no more
-- of the record but for the keys, which are not handed back: these are the definition's.
abbrev pub returned_by : ElectraCall → ElectraOutcome → ElectraState
returned_by c o =
    let st = settle (electra_closed c) (electra_state_of c) in
    with_altair (with_finality o.answer.finality st.altair)
    (with_deposits (registry_of st) o.answer.deposit_balance_to_consume (first_deposits o.answer.deposits o.closing_deposits) st)

-- with a reading of what stands if it was refused
abbrev pub deposits_event : Bool → ElectraCall → ElectraOutcome → queue.Event
deposits_event others_stay c o =
    record {
      opening = electra_state_of c;
      returned = cond (eqb o.answer.refusal 0) (returned_by c o) (electra_state_of c);
      refusal = o.answer.refusal;
      slots = c.rules.settings.slots_per_epoch;
      number = c.rules.electra.max_pending_deposits_per_epoch;
      churn = smallest_churn c.rules;
      moved = settle (next_deposit c.rules (electra_state_of c)) 0;
      others_stay = others_stay;
    }

-- the close as the statement sees it
abbrev close_of : Bool → ElectraCall → deposits.Close
close_of others_stay c = record { rules = c.rules; tests = electra_tests c; opening = electra_state_of c; others_stay = others_stay }

first-encoded : (ds : List PendingDeposit) (xs : List ℕ) → first_deposits (length ds) (encode_deposits ds ++ xs) ≡ ds
unfolding first_deposits encode_deposits
first-encoded [] xs = refl
first-encoded (d ∷ ds) xs = ap (λ (es : List PendingDeposit). d ∷ es) (first-encoded ds xs)

same-deposits : (w : Bool) (c : ElectraCall) → deposits_event w c (electra_close c) ≡ deposits.event (close_of w c)
unfolding electra_close electra_closed electra_answer after_tests closing_buffer bind
same-deposits w c = go (electra_tests c) refl (process_epoch c.rules (electra_state_of c)) refl
  where
    go : (t : Checked (Unit {0})) → electra_tests c ≡ t → (m : Checked ElectraState) → process_epoch c.rules (electra_state_of c) ≡ m
        → deposits_event w c (electra_close c) ≡ deposits.event (close_of w c)
    go (value u) e (value st) f = rw (e, f, first-encoded st.pending_deposits _) refl
    go (value u) e (refused p) f = rw (e, f, ne_eqb (number_of p) 0 (number_not_zero p)) refl
    go (refused p) e m f = rw (e, ne_eqb (number_of p) 0 (number_not_zero p)) refl

-- a list of calls, by events that are those of the definitions
events-same : {C D E : Type 0} (came : C → E) (event : D → E) (of : C → D) → ((c : C) → came c ≡ event (of c)) → (cs : List C)
    → map came cs ≡ map event (map of cs)
events-same came event of same [] = refl
events-same came event of same (c ∷ cs) = ap₂ ◌∷◌ (same c) (events-same came event of same cs)

abbrev pub deposits_came : Bool × ElectraCame → queue.Event
deposits_came (others_stay, c) = deposits_event others_stay (called c) (came_back c)

pub deposits_earn_electra :
    (s p c : ℕ) (start : ElectraState) (calls : List (Bool × ElectraCame)) → let events = map deposits_came calls in
    queue.Premises start events → queue.Least s p c events → queue.Claim s p c start events
deposits_earn_electra s p c start calls h l =
    let of : Bool × ElectraCame → deposits.Close = λ k. close_of k.0 (called k.1) in
    let same = events-same deposits_came deposits.event of
    (λ k. ap (deposits_event k.0 (called k.1)) k.1.holds ∙ same-deposits k.0 (called k.1)) calls in
    rw same (deposits_earn s p c start (map of calls) (rw same at h) (rw same at l))

-- How full an exit epoch gets

-- an exit of one validator that came back, and that the contract holds of it
pub record ExitCame : Type 0 where
  pub lifetimes : Lfts 1
  pub lent : Dens lifetimes exit_kinds.ps
  pub answer : (res_t exit_kinds.r lifetimes).Denot
  pub end : AtExit (ended_of 1 exit_kinds.ps exit_kinds.r) lifetimes
  pub holds : exit.Learnt lifetimes lent answer end

pub data Exiting : Type 0 where
  by_close : ElectraCame → Exiting
  by_order : ExitCame → Exiting

-- what an exit of one validator is lent, as a state
abbrev pub lent_to : ExitCame → ElectraState
lent_to c =
    let a = c.lent in
    lent_state (lent_finality a.1.0 0) (decode a.1.1.1.1.0.now) [] [] a.1.1.1.0 no_deposit_numbers [] []

-- the call as the statement sees it
abbrev pub exiting_of : Exiting → exits.Called
exiting_of (by_close c) = closing (called c).rules (electra_tests (called c)) (electra_state_of (called c))
exiting_of (by_order c) =
    let a = c.lent in
    exiting a.0 (exit_tests a.0 a.1.0 a.1.1.0 a.1.1.1.1.0.now) (lent_to c) a.1.1.0

-- the two numbers and the refusal's as answered; the exits that such a call makes
abbrev pub exit_came : Bool × Exiting → exits.Event
exit_came (others_stay, by_close c) =
    record {
      opening = (called c).churn;
      returned = (came_back c).answer.churn;
      refusal = (came_back c).answer.refusal;
      exits = settle (exits_made (called c).rules (electra_state_of (called c))) [];
      others_stay = others_stay;
    }
exit_came (others_stay, by_order c) =
    record {
      opening = c.lent.1.1.1.0;
      returned = c.answer.churn;
      refusal = c.answer.refusal;
      exits = settle (exit_made c.lent.0 (lent_to c) c.lent.1.1.0) [];
      others_stay = others_stay;
    }

close-answered : (c : ElectraCall) (m : Checked ElectraState)
    → ((electra_answer c m).churn ≡ (settle m (electra_state_of c)).churn) × ((electra_answer c m).refusal ≡ code_of m)
unfolding electra_answer
close-answered c (value st) = (refl, refl)
close-answered c (refused p) = (refl, refl)

order-answered : (st : ElectraState) (m : Checked ElectraState) → (settle (churn_in m) st.churn ≡ (settle m st).churn) × (code_of (churn_in m) ≡ code_of m)
unfolding bind
order-answered st (value x) = (refl, refl)
order-answered st (refused p) = (refl, refl)

same-exit : (c : Bool × Exiting) → exit_came c ≡ exits.event (c.0, exiting_of c.1)
unfolding electra_close electra_closed exit_work
same-exit (w, by_close c) =
    let d = called c in
    let e = close-answered d (electra_closed d) in
    let churn = ap (λ (o : ElectraOutcome). o.answer.churn) c.holds ∙ e.0 in
    let refusal = ap (λ (o : ElectraOutcome). o.answer.refusal) c.holds ∙ e.1 in
    rw (churn, refusal) refl
same-exit (w, by_order c) =
    let e = order-answered (lent_to c) (exits.worked (exiting_of (by_order c))) in
    rw (c.holds.answer, e.0, e.1) refl

pub exit_epochs-electra :
    (C : ℕ) (start : ExitChurn) (calls : List (Bool × Exiting)) → let events = map exit_came calls in
    exits.Premises C start events → exits.Claim C events
exit_epochs-electra C start calls h =
    let of : Bool × Exiting → Bool × exits.Called = λ c. (c.0, exiting_of c.1) in
    let same = events-same exit_came exits.event of same-exit calls in
    rw same (exit-epochs C start (map of calls) (rw same at h))

-- Demand 3

pub data AnyCame : Type 0 where
  -- Altair's to Deneb's
  earlier : ForkCame → AnyCame
  electra : ElectraCame → AnyCame

abbrev pub event_any : Bool × AnyCame → Event
event_any (others_stay, earlier c) = event_came (others_stay, c)
event_any (others_stay, electra c) = electra_event others_stay (called c) (came_back c)

-- a call of `electra_close` that is accepted
abbrev pub accepted_electra : Bool × AnyCame → Bool
accepted_electra (others_stay, earlier c) = false
accepted_electra (others_stay, electra c) = accepts (electra_event others_stay (called c) (came_back c))

abbrev any_of : Bool × AnyCame → Bool × forks.AnyClose
any_of (w, earlier c) = (w, forks.earlier (fork_of c))
any_of (w, electra c) = (w, forks.electra (called c) (came_back c) c.holds)

same-any : (c : Bool × AnyCame) → event_any c ≡ forks.event_of (any_of c)
same-any (w, earlier c) = same-fork (w, c)
same-any (w, electra c) = refl

same_kind : (c : Bool × AnyCame) → accepted_electra c ≡ forks.accepted_electra (any_of c)
same_kind (w, earlier c) = refl
same_kind (w, electra c) = refl

same-events : (calls : List (Bool × AnyCame)) → map event_any calls ≡ map forks.event_of (map any_of calls)
same-events calls = events-same event_any forks.event_of any_of same-any calls

some_left : (calls : List (Bool × AnyCame)) → filter accepted_electra calls ≢ [] → filter forks.accepted_electra (map any_of calls) ≢ []
unfolding filter
some_left [] h = λ q. h refl
some_left (c ∷ calls) h = go (accepted_electra c) (same_kind c) h (some_left calls)
  where
    go : (b : Bool) → b ≡ forks.accepted_electra (any_of c) → cond b (c ∷ filter accepted_electra calls) (filter accepted_electra calls) ≢ []
        → let left = filter forks.accepted_electra (map any_of calls) in
        (filter accepted_electra calls ≢ [] → left ≢ []) → cond (forks.accepted_electra (any_of c)) (any_of c ∷ left) left ≢ []
    go true e h rest = rw (← e) (λ q. cons≢nil q)
    go false e h rest = rw (← e) (rest h)

next-came : (start : BeaconState) (calls : List (Bool × AnyCame)) → NextElectra forks.event_of forks.accepted_electra start (map any_of calls)
    → NextElectra event_any accepted_electra start calls
next-came start calls h before since later rest i e w some =
    let f : List (Bool × AnyCame) → List (Bool × forks.AnyClose) = map any_of in
    let two = map-append any_of before since in
    let three : f (before ++ since ++ later) ≡ f before ++ f since ++ f later = map-append any_of (before ++ since) later ∙ ap (λ xs. xs ++ f later) two in
    let parts = ap f e ∙ map-append any_of (before ++ since ++ later) rest ∙ ap (λ xs. xs ++ f rest) three in
    rw (same-events (before ++ since), same-events (before ++ since ++ later), same-events since, two, three)
    (h (f before) (f since) (f later) (f rest) i parts (rw (same-events before) at w) (some_left since some))

-- m is at least 1, and at most the limit of every accepted close that has one
pub demand3-any :
    (m : ℕ) (start : BeaconState) (calls : List (Bool × AnyCame)) → let events = map event_any calls in
    Least m events → Premises start events → Claim m start events × NextElectra event_any accepted_electra start calls
demand3-any m start calls l p =
    let same = same-events calls in
    let x = demand3 m start (map any_of calls) (rw same at l) (rw same at p) in
    (rw same x.demand3, next-came start calls x.next)
