use mathlib.Core.Bool.{Bool, true, false, cond}
use mathlib.Core.List.{List, [], ◌∷◌}
use mathlib.Core.Path.{◌≡◌}
use Prim.Native.Nat.{ℕ}
use lib.Dec.{ltb}
use Rattle.definitions.specs.declared.Refusal.TheVariants.{LateStart}
use Rattle.definitions.specs.declared.Rules.{Rules}
use Rattle.definitions.specs.Checked.{Checked, value, refused, bind}
use Rattle.definitions.specs.Lists.{every}
use Rattle.definitions.specs.Refusals.{in_order, after_tests}
use Rattle.definitions.specs.Rules.{good_rules}
use Rattle.definitions_close.specs.Calls.{lent, new_entry}
use Rattle.definitions_close.specs.Store.{Entry, Store, entries, last_of, of_last, good_entries, addition_shaped, start_test, addition_tests}
use Rattle.refusals.proofs.All.{fails, passes}
use Rattle.refusals.proofs.Answers.{after-passed, refused-answers}
use Rattle.store.proofs.Passed.{grouped, no_room}
use mathlib.Core.Bool.{not}
use mathlib.Core.Path.{ap}
use Rattle.store.proofs.addition_tests.Goals.{After-in_order}
use Rattle.store.proofs.addition_tests.Goals as goal

abbrev store : List ℕ → ℕ → Store
store store' count = lent store' count

abbrev new : ℕ → Rules → Entry
new start rules = new_entry start rules

abbrev first : Store → Entry → Checked (Unit {0})
first s new = in_order (addition_shaped s new ∷ []) (good_entries (entries s) ∷ good_rules new.rules ∷ []) []

told : (c : After-in_order) → c.in_order.result ≡ first (store c.args.store.now c.args.count) (new c.args.start c.args.rules)
unfolding addition_shaped
told c =
    grouped _ _ _ (rw (c.store_shaped.ensures, c.rules_shaped.ensures, c.keeps_last.ensures, c.good_entries.ensures, c.good_rules.ensures) at c.in_order.ensures)

-- x is what tests 1 and 2 answered
module _ (s : Store) (new : Entry) {x : Checked (Unit {0})} (e : x ≡ first s new) where
  starts : x ≡ value tt → (t : Bool) → of_last (λ e. ltb e.start new.start) (last_of (entries s)) ≡ t → cond t (value tt) (refused LateStart) ≡ addition_tests s new
  unfolding addition_tests start_test
  starts z t h = rw (after-passed (first s new) (start_test s new) e z, h)

pub returns-then-store-n : goal.returns-then-store-n
unfolding addition_tests addition_shaped after_tests bind in_order every
returns-then-store-n c = let a = c.args in rw (no_room (lent a.store.now a.count) c.if-store-n.true)

pub returns-in_err-in_order : goal.returns-in_err-in_order
unfolding addition_tests
returns-in_err-in_order c =
    let s = store c.args.store.now c.args.count in
    let n = new c.args.start c.args.rules in
    refused-answers (first s n) (told (goal.at.returns-in_err-in_order c).After-in_order) (start_test s n) c.in_err-in_order.was c.from_residual.ensures

pub returns-then-not-starts_after : goal.returns-then-not-starts_after
returns-then-not-starts_after c =
    starts (store c.args.store.now c.args.count) (new c.args.start c.args.rules) (told (goal.at.returns-then-not-starts_after c).After-in_order) c.in_ok-in_order.was false (fails c.starts_after.ensures (ap not c.if-not-starts_after.true))

pub returns : goal.returns
returns c =
    starts (store c.args.store.now c.args.count) (new c.args.start c.args.rules) (told (goal.at.returns c).After-in_order) c.in_ok-in_order.was true (passes c.starts_after.ensures (ap not c.if-not-starts_after.false))
