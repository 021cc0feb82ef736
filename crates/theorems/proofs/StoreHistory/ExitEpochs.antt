-- R-14 of runs in which closes go by stores: an accepted one, whole or by steps, is a close by the rules of an entry, and so are orders carried out.
use mathlib.Core.Bool.{Bool, true, false, cond}
use mathlib.Core.List.{List, [], ◌∷◌, map}
use mathlib.Core.Path.{◌≡◌, refl, sym, subst}
use lib.Dec.{eqb, eqb→eq}
use Rattle.definitions.specs.declared.Rules.{Rules}
use Rattle.definitions.specs.Checked.{Checked, value, refused, number_of, settle}
use Rattle.definitions.specs.declared.Refusal.TheVariants.{BadShape}
use Rattle.definitions_close.specs.FullClose.{FullOutcome, full_close}
use Rattle.definitions_close.specs.CloseBySteps.{says_ended, has_ended, turned_away}
use Rattle.definitions_close.specs.Orders.{untried, carry_out}
use Rattle.definitions_close.specs.Store.{no_rules}
use Rattle.definitions_close.specs.StoreClose.{StoreCall, call_by, rules_for, close_by, store_close}
use Rattle.definitions_close.specs.StoreSteps.{StoreNinthCall, ninth_by, ninth_of, ninth_rules, carry_by, store_carry_out}
use Rattle.laws.proofs.Checked.{number_not_zero}
use Rattle.theorems.specs.CloseBySteps.Desk.{Desk, Act, Closed}
use Rattle.history.proofs.ExitEpochs.Shape.{Shaped, kept}
use Rattle.history.proofs.ExitEpochs.EveryRun.{EachShaped, claim}
use Rattle.theorems.specs.ExitCalls.ExitCalls as calls
use Rattle.theorems.proofs.ExitCalls.ExitCalls as shape
use Rattle.theorems.specs.StoreHistory.ExitEpochs.{Called, storing, stepping, carrying, shelving, other, event, Defined, StoreExitCalls}
use Rattle.theorems.specs.StoreHistory.Steps.{acts, NotBegun}
use Rattle.theorems.specs.Shelf.Files.{whole}
use Rattle.theorems.proofs.Shelf.Files.{outcome_zero}
use Rattle.theorems.proofs.StoreHistory.Steps.{begun, same-acts, turned-closed, closed-done}

-- by what the store gave
shaped-by : (c : StoreCall) (m : Checked Rules) → Shaped (calls.close_event (call_by c (settle m no_rules)) (close_by c m).closing_registry (close_by c m).refusal)
unfolding close_by
shaped-by c (value rules) = shape.shaped (calls.closing (call_by c rules) (full_close (call_by c rules))) refl
shaped-by c (refused r) = λ t. absurd (number_not_zero r (eqb→eq (number_of r) 0 t))

steps-by : (c : StoreCall) (d : Desk) (list : List Act) → NotBegun c d → Closed (acts c d list) → (m : Checked Rules) → rules_for c ≡ m → Shaped (calls.close_event (call_by c (settle m no_rules)) (acts c d list).closing_registry (acts c d list).running.answer.refusal)
steps-by c d list h f (value rules) e =
    let same = same-acts c rules e d h list in
    subst (λ (x : Desk). Shaped (calls.close_event (call_by c rules) x.closing_registry x.running.answer.refusal)) (sym same)
    (shape.shaped (calls.stepping (call_by c rules) d list) (begun c rules d h, subst Closed same f))
steps-by c d list h f (refused r) e =
    subst (λ (x : Desk). Shaped (calls.close_event (call_by c no_rules) x.closing_registry x.running.answer.refusal)) (sym (turned-closed c e d h list (closed-done f)).0)
    (λ t. absurd (number_not_zero r (eqb→eq (number_of r) 0 t)))

-- turned away, the ninth call leaves the register as it was lent
carries-by : (c : StoreNinthCall) (a b : Bool) (m : Checked Rules) → Shaped (calls.event (calls.carrying (ninth_by c (settle m no_rules)) (cond a (untried (says_ended c.running) (ninth_of c)) (cond b (carry_by c m) (untried (turned_away BadShape c.running) (ninth_of c))))))
unfolding carry_by
carries-by c true b m t = kept refl
carries-by c false false m t = kept refl
carries-by c false true (refused r) t = kept refl
carries-by c false true (value rules) t = shape.shaped (calls.carrying (ninth_by c rules) (carry_out (ninth_by c rules))) refl t

pub shaped : (c : Called) → Defined c → Shaped (event c)
unfolding store_close store_carry_out
shaped (storing c o) e = rw e (shaped-by c (rules_for c))
shaped (stepping c d list after) (h, e, f) = rw e (steps-by c d list h (subst Closed e f) (rules_for c) refl)
shaped (carrying c o) e = rw e (carries-by c (has_ended c.running) (eqb c.running.done 8) (ninth_rules c))
shaped (shelving f) d = λ t.
    subst (λ (o : FullOutcome). Shaped (calls.close_event (whole f) o.closing_registry o.refusal)) (sym (outcome_zero f d (eqb→eq f.answer 0 t)))
    (shape.shaped (calls.closing (whole f) (full_close (whole f))) refl) t
shaped (other c) e = shape.shaped c e

each : (calls : List ((c : Called) × Defined c)) → EachShaped (map (λ c. event c.0) calls)
each [] = tt
each ((c, e) ∷ calls) = (shaped c e, each calls)

pub store_exit_calls : StoreExitCalls
store_exit_calls start calls p = claim start (map (λ c. event c.0) calls) (each calls) p
