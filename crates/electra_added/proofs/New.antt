-- Step 8 at those whom the deposits add: by the test of their deposits.
use mathlib.Core.Path.{◌≡◌, refl, sym, ap, ◌∙◌}
use mathlib.Core.Bool.{Bool, true, false, cond, ◌&&◌}
use mathlib.Core.List.{List, [], ◌∷◌}
use Prim.Native.Nat.{ℕ, ◌+◌, ◌/◌, ◌≤◌, ◌<◌}
use native.Mathlib.Omega.{arith}
use borrow.Author.Tests.{eqb-true, eqb-false}
use lib.Dec.{eqb}
use lib.ListN.{length, take, drop, length-drop, drop_of_length-le}
use Rattle.definitions.specs.Record.{Validator}
use Rattle.definitions.specs.Checked.{Checked, value, refused, done, mul64}
use Rattle.definitions.specs.declared.Refusal.{Refusal}
use Rattle.definitions.specs.declared.Refusal.TheVariants.{Overflow}
use Rattle.laws.proofs.Checked.{not_value, bound, value_same}
use Rattle.arithmetic.proofs.Operations.{OnlyOverflow, only-value, only-mul64, only-bind}
use Rattle.balances.specs.declared.effective_balances.Thresholds.{Thresholds}
use Rattle.balances.specs.Thresholds.{thresholds_of}
use Rattle.definitions_electra.specs.declared.ElectraRules.{ElectraRules}
use Rattle.definitions_electra.specs.Record.{ElectraState, decode_deposits}
use Rattle.definitions_electra.specs.Evaluated.Electra.EpochProcessing.{update_effective_balances}
use Rattle.electra_balances.proofs.Turns.{none-updated}
use Rattle.electra_deposits.specs.declared.testing.NewTest.{NewTest}
use Rattle.electra_deposits.specs.Step.{new_of}
use Rattle.electra_deposits.specs.Testing.{NewTests}
use Rattle.electra_deposits.proofs.Text.{done as deposits-done}
use Rattle.electra_deposits.proofs.Refuses.{Gives, new-added, new-someone, new-fits, new-refused}
use Rattle.electra_steps.specs.Last.{Six, six_by}
use Rattle.electra_steps.specs.Finds.{Finds}
use Rattle.electra_added.specs.New.{new_updates, NewRefusal}
use Rattle.electra_added.proofs.Sixth.{numbers_of, encoded, count, tens, credentials, text-is}

-- both thresholds
module _ (r : ElectraRules) {u : Thresholds} (e : thresholds_of r.settings ≡ value u) where
  low : mul64 (r.settings.effective_balance_increment / r.settings.hysteresis_quotient) r.settings.hysteresis_downward_multiplier ≡ value u.downward
  unfolding thresholds_of
  low =
      let a = bound _ _ e in
      a.gave ∙ ap (λ (y : Thresholds). value y.downward) (value_same (bound _ _ a.then).then)

  high : mul64 (r.settings.effective_balance_increment / r.settings.hysteresis_quotient) r.settings.hysteresis_upward_multiplier ≡ value u.upward
  unfolding thresholds_of
  high =
      let b = bound _ _ (bound _ _ e).then in
      b.gave ∙ ap (λ (y : Thresholds). value y.upward) (value_same b.then)

-- the test of those done
abbrev Tested : ElectraRules → ℕ → List ℕ → ℕ → ℕ → ℕ → NewTest → Type 0
Tested r n deposits index downward upward t = NewTests (new_of r) n downward upward (take index (decode_deposits deposits)) t

only-thresholds : (r : ElectraRules) → OnlyOverflow (thresholds_of r.settings)
unfolding thresholds_of
only-thresholds r = only-bind (only-mul64 _ _) (λ downward. only-bind (only-mul64 _ _) (λ upward. only-value _))

module _ (r : ElectraRules) {n : ℕ} {deposits : List ℕ} {index : ℕ} where
  module _ {st : ElectraState} (f : Finds n deposits st) {x : Six} (z : six_by r st ≡ value x) (i : index ≡ x.processing.next_deposit_index) where
    abbrev vs : List Validator
    vs = x.processing.registry.validators

    nobody : length vs ≤ n → new_updates r n x ≡ value []
    unfolding update_effective_balances
    nobody l = rw (drop_of_length-le vs l) (go (drop n x.processing.registry.compounding))
      where
        go : (cs : List ℕ) → update_effective_balances r cs [] ≡ value []
        go [] = refl
        go (c ∷ cs) = refl

    somebody : thresholds_of r.settings ≡ refused Overflow → n < length vs → new_updates r n x ≡ refused Overflow
    somebody e l =
        let cs = x.processing.registry.compounding in
        let g = (deposits-done (new_of r) (numbers_of r x.queueing) (encoded st) st.compounding deposits (tens f) (credentials f) (text-is f r z)).kept in
        let a = length-drop n vs in
        let b = length-drop n cs in
        none-updated r e (drop n cs) (drop n vs) (omega (arith, a, b, l, g.long, g.long_too)) (omega (arith, a, b, g.long, g.long_too))

    module _ {downward upward : ℕ} {t : NewTest} (h : Tested r n deposits index downward upward t) where
      tested : NewTests (new_of r) (length (encoded st) / 10) downward upward (take x.processing.next_deposit_index (decode_deposits deposits)) t
      tested = rw (count f, ← i) h

      added : t.fits ≡ true → n + t.added ≡ length vs
      added y = rw (count f) at (new-added (new_of r) (numbers_of r x.queueing) (encoded st) st.compounding deposits (tens f) (credentials f) (text-is f r z) tested y)

      someone : t.fits ≡ false → n < length vs
      someone y = rw (count f) at (new-someone (new_of r) (numbers_of r x.queueing) (encoded st) st.compounding deposits (tens f) (credentials f) (text-is f r z) tested y)

    by-test : {u : Thresholds} → thresholds_of r.settings ≡ value u → {t : NewTest} → Tested r n deposits index u.downward u.upward t → (b : Bool) → t.fits ≡ b → cond b (value tt) (refused Overflow) ≡ done (new_updates r n x)
    by-test e h true y = sym (ap done (rw (count f) at (new-fits (new_of r) (numbers_of r x.queueing) (encoded st) st.compounding deposits (tens f) (credentials f) (text-is f r z) (tested h) r (low r e) (high r e) y).gave))
    by-test e h false y = sym (ap done (rw (count f) at (new-refused (new_of r) (numbers_of r x.queueing) (encoded st) st.compounding deposits (tens f) (credentials f) (text-is f r z) (tested h) r (low r e) (high r e) y)))

    by_count : thresholds_of r.settings ≡ refused Overflow → {t : NewTest} → Tested r n deposits index 0 0 t → (a b : Bool) → eqb t.added 0 ≡ a → t.fits ≡ b → cond (a && b) (value tt) (refused Overflow) ≡ done (new_updates r n x)
    by_count e {t} h true true w y = sym (ap done (nobody (omega (arith, added h y, eqb-true t.added 0 w))))
    by_count e h true false w y = sym (ap done (somebody e (someone h y)))
    by_count e {t} h false true w y = sym (ap done (somebody e (omega (arith, added h y, eqb-false t.added 0 w))))
    by_count e h false false w y = sym (ap done (somebody e (someone h y)))

  -- thresholds within 64 bits
  pub tested-by : {u : Thresholds} → thresholds_of r.settings ≡ value u → {t : NewTest} → Tested r n deposits index u.downward u.upward t → {a : Checked (Unit {0})} → a ≡ cond t.fits (value tt) (refused Overflow) → NewRefusal r n deposits index a
  tested-by e {t} h k = record { tests = λ st f x z i. k ∙ by-test f z i e h t.fits refl }

  -- thresholds that leave 64 bits are evaluated where somebody is added
  pub counted-by : {p : Refusal} → thresholds_of r.settings ≡ refused p → {t : NewTest} → Tested r n deposits index 0 0 t → {a : Checked (Unit {0})} → a ≡ cond (eqb t.added 0 && t.fits) (value tt) (refused Overflow) → NewRefusal r n deposits index a
  counted-by e {t} h k = record { tests = λ st f x z i. k ∙ by_count f z i (e ∙ ap refused ((only-thresholds r).why _ e)) h (eqb t.added 0) t.fits refl refl }

  -- where it passed, there is what step 8 leaves of them
  pub no-refusal : {a : Checked (Unit {0})} → NewRefusal r n deposits index a → {st : ElectraState} → Finds n deposits st → {x : Six} → six_by r st ≡ value x → index ≡ x.processing.next_deposit_index → a ≡ value tt → Gives (new_updates r n x)
  no-refusal h {st} f {x} z i e = given (new_updates r n x) (sym (h.tests st f x z i) ∙ e)
    where
      given : (m : Checked (List Validator)) → done m ≡ value tt → Gives m
      given (value xs) e = record { first = xs; gave = refl }
      given (refused p) e = absurd (not_value e)
