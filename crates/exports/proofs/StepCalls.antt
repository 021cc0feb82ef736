-- Calls of `altair_close_step`, `altair_take_order` and `altair_carry_out` that came back, as the definition's records, and a close by steps made of
-- them; `Learnt` is the function's own contract.
use mathlib.Core.Bool.{Bool, true, false, cond}
use mathlib.Core.List.{List, [], ◌∷◌, map}
use Prim.Native.Nat.{◌+◌, ◌≤◌}
use native.Mathlib.Omega.{arith}
use borrow.Author.Tests.{ne_eqb}
use lib.Dec.{eqb}
use mathlib.Core.Path.{◌≡◌, refl, sym, ap, ◌∙◌, subst}
use contract.Lifetimes.{Lfts}
use borrow.Fn.Kinds.{Dens, res_t, ended_of}
use denote.Triple.Clauses.{AtExit}
use Rattle.definitions.specs.declared.Rules.{Rules}
use Rattle.definitions.specs.Checked.{value}
use Rattle.definitions.specs.declared.Refusal.TheVariants.{BadShape}
use Rattle.definitions.specs.Rules.{settings_under}
use Rattle.definitions_close.specs.CloseBySteps.{StepOutcome, has_ended, says_ended, turned_away, unwritten}
use Rattle.definitions_close.specs.Orders.{OrderCall, OrderOutcome, take_order, NinthOutcome, untried}
use Rattle.definitions_close.specs.StoreClose.{StoreCall, rules_for, store_close}
use Rattle.definitions_close.specs.StoreSteps.{StoreStepCall, step_of as step_called, store_step, StoreNinthCall, ninth_of as ninth_called, store_carry_out}
use Rattle.theorems.specs.CloseBySteps.Desk.{Desk, Act, stepping, ordering, carrying, order_call, after_step, after_order, after_ninth, Closed, GivesWhole, CarriedOut}
use Rattle.definitions_close.specs.Calls.{step_outcome, order_called, order_outcome, ninth_outcome, lent, store_called, store_step_called, store_ninth_called}
use Rattle.theorems.specs.StoreHistory.Steps.{step_call, ninth_call, act, acts, NotBegun, arrived}
use Rattle.agreement.specs.Restored.{OneOf}
use Rattle.theorems.proofs.StoreHistory.Steps.{store_any_calls, store_after-nine}
use Rattle.theorems.proofs.StoreHistory.Alone.{steps-alone, ninth-alone}
use Rattle.exports.proofs.exit_orders.altair_close_step.Kinds as step_kinds
use Rattle.exports.proofs.exit_orders.altair_close_step.Reads as step
use Rattle.exports.proofs.exit_orders.altair_take_order.Kinds as order_kinds
use Rattle.exports.proofs.exit_orders.altair_take_order.Reads as order
use Rattle.exports.proofs.exit_orders.altair_carry_out.Kinds as ninth_kinds
use Rattle.exports.proofs.exit_orders.altair_carry_out.Reads as ninth

-- a call that came back, and that the contract holds of it

pub record StepCame : Type 0 where
  pub lifetimes : Lfts 7
  pub lent : Dens lifetimes step_kinds.ps
  pub answer : (res_t step_kinds.r lifetimes).Denot
  pub end : AtExit (ended_of 7 step_kinds.ps step_kinds.r) lifetimes
  pub holds : step.Learnt lifetimes lent answer end

abbrev pub step_of : StepCame → StoreStepCall
step_of s =
    let a = s.lent in
    let b = a.1.1 in
    let d = b.1.1.1.1 in
    let e = d.1.1.1 in
    store_step_called a.0 a.1.0 (store_called (lent b.0.now b.1.0) b.1.1.0 b.1.1.1.0 d.0.now d.1.0.now d.1.1.0.now e.0.now e.1.0.now e.1.1.0.now)

abbrev pub step_back : StepCame → StepOutcome
step_back s =
    let d = s.end.1.1.1.1.1.1.1.1.1 in
    step_outcome s.answer d.0.now d.1.0.now d.1.1.0.now

pub record OrderCame : Type 0 where
  pub lifetimes : Lfts 1
  pub lent : Dens lifetimes order_kinds.ps
  pub answer : (res_t order_kinds.r lifetimes).Denot
  pub end : AtExit (ended_of 1 order_kinds.ps order_kinds.r) lifetimes
  pub holds : order.Learnt lifetimes lent answer end

abbrev pub order_of : OrderCame → OrderCall
order_of o = let a = o.lent in order_called a.0 a.1.0 a.1.1.0 a.1.1.1.0.now

abbrev pub order_back : OrderCame → OrderOutcome
order_back o = order_outcome o.answer o.end.1.1.1.0.now

pub record NinthCame : Type 0 where
  pub lifetimes : Lfts 4
  pub lent : Dens lifetimes ninth_kinds.ps
  pub answer : (res_t ninth_kinds.r lifetimes).Denot
  pub end : AtExit (ended_of 4 ninth_kinds.ps ninth_kinds.r) lifetimes
  pub holds : ninth.Learnt lifetimes lent answer end

abbrev pub ninth_of : NinthCame → StoreNinthCall
ninth_of n =
    let a = n.lent in
    let b = a.1.1.1.1 in
    store_ninth_called (lent a.0.now a.1.0) a.1.1.0 a.1.1.1.0 b.0.now b.1.0.now b.1.1.0.now

abbrev pub ninth_back : NinthCame → NinthOutcome
ninth_back n = let d = n.end.1.1.1.1 in ninth_outcome n.answer d.0.now d.1.1.0.now

-- One after the other

pub data ActCame : Type 0 where
  of_step : StepCame → ActCame
  of_order : OrderCame → ActCame
  of_ninth : NinthCame → ActCame
  -- a step, or the ninth call, that was turned away alone, whatever else it was handed: nothing changes, and it may be made again
  step_away : StepCame → ActCame
  ninth_away : NinthCame → ActCame

abbrev pub act_of : ActCame → Act
act_of (of_step s) = stepping (step_of s).number
act_of (of_order o) = ordering (order_of o).order
act_of (of_ninth n) = carrying (ninth_of n).period (ninth_of n).answers
-- a step 0 has no turn
act_of (step_away s) = stepping 0
act_of (ninth_away n) = stepping 0

-- what the desk has in hand once it came back
abbrev pub after : Desk → ActCame → Desk
after d (of_step s) = after_step d (step_back s)
after d (of_order o) = after_order d (order_back o)
after d (of_ninth n) = after_ninth d (ninth_back n)
after d (step_away s) = d
after d (ninth_away n) = d

abbrev pub after_all : Desk → List ActCame → Desk
after_all d [] = d
after_all d (a ∷ rest) = after_all (after d a) rest

-- it is handed what the one before handed back, beside the store and the opening
abbrev pub Handed : StoreCall → Desk → ActCame → Type 0
Handed c d (of_step s) = step_of s ≡ step_call c d (step_of s).number
Handed c d (of_order o) = order_of o ≡ order_call d (order_of o).order
Handed c d (of_ninth n) = ninth_of n ≡ ninth_call c d (ninth_of n).period (ninth_of n).answers
Handed c d (step_away s) =
    ((step_of s).running ≡ d.running) × (1 ≤ d.running.done) × OneOf (step_back s).answer.refusal (1 ∷ 2 ∷ 3 ∷ 8 ∷ 13 ∷ [])
Handed c d (ninth_away n) = ((ninth_of n).running ≡ d.running) × ((ninth_back n).answer.refusal ≡ 0 → ⊥)

abbrev pub Chained : StoreCall → Desk → List ActCame → Type 0
Chained c d [] = Unit
Chained c d (a ∷ rest) = Handed c d a × Chained c (after d a) rest

-- calls that came back, in turn or not, turned away or not, with whatever orders between them
pub record StepsCame : Type 0 where
  pub whole : StoreCall
  pub desk : Desk
  pub begins : NotBegun whole desk
  pub calls : List ActCame
  pub chain : Chained whole desk calls

abbrev pub last_of : StepsCame → Desk
last_of s = after_all s.desk s.calls

-- what was lent to a call that was turned away alone is as it was, and the close too

pub step-away :
    (s : StepCame) → let call = step_of s in let back = step_back s in
    1 ≤ call.running.done → OneOf back.answer.refusal (1 ∷ 2 ∷ 3 ∷ 8 ∷ 13 ∷ [])
    → back ≡ unwritten (record { refusal = back.answer.refusal; ended = 0; running = call.running }) (step_called call)
step-away s l =
    subst (λ (out : StepOutcome).
    OneOf out.answer.refusal (1 ∷ 2 ∷ 3 ∷ 8 ∷ 13 ∷ [])
    → out ≡ unwritten (record { refusal = out.answer.refusal; ended = 0; running = (step_of s).running }) (step_called (step_of s))) (sym s.holds)
    (steps-alone (step_of s) l)

pub ninth-away :
    (n : NinthCame) → let call = ninth_of n in let back = ninth_back n in
    (back.answer.refusal ≡ 0 → ⊥) → back ≡ untried (record { refusal = back.answer.refusal; ended = 0; running = call.running }) (ninth_called call)
ninth-away n =
    subst (λ (out : NinthOutcome).
    (out.answer.refusal ≡ 0 → ⊥) → out ≡ untried (record { refusal = out.answer.refusal; ended = 0; running = (ninth_of n).running }) (ninth_called (ninth_of n)))
    (sym n.holds) (ninth-alone (ninth_of n))

-- by the contracts they are the definition's

no-turn : (c : StoreCall) (d : Desk) → act c d (stepping 0) ≡ d
unfolding act store_step unwritten
no-turn c d =
    let early : eqb 0 (d.running.done + 1) ≡ false = ne_eqb 0 (d.running.done + 1) (λ e. omega (arith, e)) in
    rw early (go (has_ended d.running))
  where
    go : (t : Bool) → after_step d (cond t (unwritten (says_ended d.running) (step_called (step_call c d 0))) (unwritten (turned_away BadShape d.running) (step_called (step_call c d 0)))) ≡ d
    go true = refl
    go false = refl

one : (c : StoreCall) (d : Desk) (a : ActCame) → Handed c d a → after d a ≡ act c d (act_of a)
unfolding act
one c d (of_step s) h = ap (λ (out : StepOutcome). after_step d out) (s.holds ∙ ap store_step h)
one c d (of_order o) h = ap (λ (out : OrderOutcome). after_order d out) (o.holds ∙ ap take_order h)
one c d (of_ninth n) h = ap (λ (out : NinthOutcome). after_ninth d out) (n.holds ∙ ap store_carry_out h)
one c d (step_away s) h = sym (no-turn c d)
one c d (ninth_away n) h = sym (no-turn c d)

pub all-acts : (c : StoreCall) (d : Desk) (calls : List ActCame) → Chained c d calls → after_all d calls ≡ acts c d (map act_of calls)
unfolding acts
all-acts c d [] h = refl
all-acts c d (a ∷ calls) h = all-acts c (after d a) calls h.1 ∙ ap (λ (x : Desk). acts c x (map act_of calls)) (one c d a h.0)

pub last-is : (s : StepsCame) → last_of s ≡ acts s.whole s.desk (map act_of s.calls)
last-is s = all-acts s.whole s.desk s.calls s.chain

-- "giving what the whole close gives, amounts too", of the calls of the library
pub steps-altair :
    (s : StepsCame) → Closed (last_of s) → GivesWhole (store_close s.whole) (arrived s.whole s.desk (map act_of s.calls)) (last_of s)
steps-altair s f =
    let e = last-is s in
    rw e (store_any_calls s.whole s.desk s.begins (map act_of s.calls) (subst Closed e f))

-- "carried out by a ninth call in order of arrival"
pub carried-altair :
    (s : StepsCame) → let last = last_of s in last.running.done ≡ 9 → last.running.answer.refusal ≡ 0
    → (rules : Rules) × (rules_for s.whole ≡ value rules)
    × CarriedOut (store_close s.whole) (settings_under rules) (arrived s.whole s.desk (map act_of s.calls)) last
carried-altair s z r =
    let e = last-is s in
    rw e
    (store_after-nine s.whole s.desk s.begins (map act_of s.calls) (sym (ap (λ (x : Desk). x.running.done) e) ∙ z)
    (sym (ap (λ (x : Desk). x.running.answer.refusal) e) ∙ r))
