-- Demand 3 of closes with stores: one that is accepted, whole or by steps, is a close by the rules read, so that it has the interface of history.
use mathlib.Core.Bool.{Bool}
use mathlib.Core.List.{List, [], ◌∷◌, map, map-map}
use mathlib.Core.Path.{◌≡◌, refl, sym, ap, ◌∙◌, subst}
use native.Mathlib.Omega.{arith}
use lib.Dec.{eqb→eq}
use Rattle.definitions.specs.declared.Rules.{Rules}
use Rattle.definitions.specs.Checked.{Checked, value, refused, number_of, settle}
use Rattle.definitions_close.specs.FullClose.{FullOutcome}
use Rattle.definitions_close.specs.Store.{no_rules}
use Rattle.definitions_close.specs.StoreClose.{StoreCall, call_by, rules_for, close_by, store_close}
use Rattle.laws.proofs.Checked.{number_not_zero}
use Rattle.history.specs.Demand3.{event}
use Rattle.history.proofs.Shape.{Shaped, EachShaped}
use Rattle.history.proofs.EveryList.{claim}
use Rattle.theorems.specs.FullClose.Demand3 as full
use Rattle.theorems.proofs.FullClose.Demand3.{full-shaped}
use Rattle.theorems.specs.CloseBySteps.Desk.{Desk}
use Rattle.theorems.specs.CloseBySteps.Demand3 as steps
use Rattle.theorems.specs.CloseBySteps.Demand3.{outcome_from}
use Rattle.theorems.proofs.CloseBySteps.Demand3.{each-shaped}
use Rattle.theorems.specs.StoreHistory.Demand3.{store_close_of, StoreBySteps, AnyClose, wholly, by_steps, on_shelf, close_of, StoreDemand3}
use Rattle.theorems.specs.Shelf.Files.{OnShelf, Defined, whole, outcome_of}
use Rattle.theorems.proofs.Shelf.Files.{outcome_zero}
use Rattle.theorems.proofs.StoreHistory.Steps.{begun, same-acts, turned-closed}

-- by what the store gave
shaped-by : (w : Bool) (c : StoreCall) (m : Checked Rules) → Shaped (event (full.close_by w (call_by c (settle m no_rules)) (close_by c m)))
unfolding close_by
shaped-by w c (value rules) = full-shaped (w, call_by c rules)
shaped-by w c (refused r) = λ t. absurd (number_not_zero r (eqb→eq (number_of r) 0 t))

pub store-shaped : (c : Bool × StoreCall) → Shaped (event (store_close_of c))
unfolding store_close
store-shaped (w, c) = shaped-by w c (rules_for c)

-- by steps: by the rules read, or turned away at the first call
steps-by : (w : Bool) (b : StoreBySteps) (m : Checked Rules) → rules_for b.whole ≡ m → Shaped (event (record { call = (call_by b.whole (settle m no_rules)).call; outcome = outcome_from b.last; others_stay = w }))
steps-by w b (value rules) e =
    let c = b.whole in
    let same = b.came ∙ same-acts c rules e b.desk b.begins b.list in
    subst (λ (x : Desk). Shaped (event (record { call = (call_by c rules).call; outcome = outcome_from x; others_stay = w }))) (sym same)
    (each-shaped (
      w,
      steps.by_steps
          (record {
            whole = call_by c rules;
            desk = b.desk;
            begins = begun c rules b.desk b.begins;
            list = b.list;
            ended = ap (λ (x : Desk). x.running.done) (sym same) ∙ b.ended;
          }),
    ))
steps-by w b (refused r) e =
    let done = ap (λ (x : Desk). x.running.done) b.came in
    let last = b.came ∙ (turned-closed b.whole e b.desk b.begins b.list (omega (arith, done, b.ended))).0 in
    λ t. absurd (number_not_zero r (sym (ap (λ (x : Desk). x.running.answer.refusal) last) ∙ eqb→eq b.last.running.answer.refusal 0 t))

-- a file that is closed is a whole close of its record
shelf-shaped : (w : Bool) (f : OnShelf) → Defined f → Shaped (event (full.close_by w (whole f) (outcome_of f)))
shelf-shaped w f d t =
    subst (λ (o : FullOutcome). Shaped (event (full.close_by w (whole f) o))) (sym (outcome_zero f d (eqb→eq f.answer 0 t))) (full-shaped (w, whole f)) t

pub any-shaped : (c : Bool × AnyClose) → Shaped (event (close_of c))
any-shaped (w, wholly c) = store-shaped (w, c)
any-shaped (w, by_steps b) = steps-by w b (rules_for b.whole) refl
any-shaped (w, on_shelf f d) = shelf-shaped w f d

each-store : (calls : List (Bool × AnyClose)) → EachShaped (map (λ c. event (close_of c)) calls)
each-store [] = tt
each-store (c ∷ calls) = (any-shaped c, each-store calls)

pub store-demand3 : StoreDemand3
store-demand3 m start calls l p =
    claim m start (map event (map close_of calls)) (subst EachShaped (sym (map-map event close_of calls)) (each-store calls)) l p
