-- A call that is turned away alone writes nothing: only 4 and 5 come after the tests.
use mathlib.Core.Path.{◌≡◌, refl}
use mathlib.Core.Bool.{Bool, true, false, cond}
use mathlib.Core.List.{[], ◌∷◌}
use mathlib.Core.Logic.{◌⊎◌, inl, inr, ⊎_elim}
use Prim.Native.Nat.{ℕ, ◌≤◌}
use native.Mathlib.Omega.{arith}
use borrow.Author.Tests.{ne_eqb}
use lib.Dec.{eqb}
use Rattle.definitions.specs.declared.ActivationLimit.TheVariants.{Churn}
use Rattle.definitions.specs.declared.Rules.{Rules}
use Rattle.definitions.specs.Record.{BeaconState}
use Rattle.definitions.specs.Checked.{number_of, Checked, value, refused, bind}
use Rattle.definitions.specs.declared.Refusal.{Refusal}
use Rattle.definitions.specs.declared.Refusal.TheVariants.{BadShape}
use Rattle.definitions.specs.Refusals.{after_tests, closing_buffer}
use Rattle.definitions.specs.Close.{state_of}
use Rattle.definitions_close.specs.FullClose.{settings_of}
use Rattle.definitions_close.specs.CloseBySteps.{StepCall, StepOutcome, is_first, has_ended, in_turn, says_ended, turned_away, found, step_tests, step_after, stepped, stepped_amounts, running_after, unwritten, step_in_turn, close_step}
use Rattle.definitions_close.specs.Orders.{NinthCall, NinthOutcome, untried, ninth_tests, carries_out, ninth_in_turn, carry_out}
use Rattle.definitions_close.specs.StoreClose.{rules_for}
use Rattle.definitions_close.specs.StoreSteps.{step_of, step_by, store_found, step_refused, store_step_by, store_step, ninth_of, ninth_by, ninth_rules, carry_by, store_carry_out}
use Rattle.agreement.specs.Restored.{OneOf}
use Rattle.agreement.proofs.Restored.{work-number}
use Rattle.agreement.proofs.Close.{each_step}
use Rattle.theorems.specs.StoreHistory.Alone.{StepsAlone, NinthAlone}

abbrev Before : ℕ → Type 0
Before n = OneOf n (1 ∷ 2 ∷ 3 ∷ 8 ∷ 13 ∷ [])

not_after : (n : ℕ) → Before n → ((n ≡ 0) ⊎ ((4 ≤ n) × (n ≤ 5))) → ⊥
not_after n (inl d) k = ⊎_elim (λ z. omega (arith, d, z)) (λ z. omega (arith, d, z.0)) k
not_after n (inr (inl d)) k = ⊎_elim (λ z. omega (arith, d, z)) (λ z. omega (arith, d, z.0)) k
not_after n (inr (inr (inl d))) k = ⊎_elim (λ z. omega (arith, d, z)) (λ z. omega (arith, d, z.0)) k
not_after n (inr (inr (inr (inl d)))) k = ⊎_elim (λ z. omega (arith, d, z)) (λ z. omega (arith, d, z.1)) k
not_after n (inr (inr (inr (inr (inl d))))) k = ⊎_elim (λ z. omega (arith, d, z)) (λ z. omega (arith, d, z.1)) k
not_after n (inr (inr (inr (inr (inr o))))) k = o

not_work : (n : ℕ) → Before n → OneOf n (4 ∷ 5 ∷ []) → ⊥
not_work n a (inl e) = not_after n a (inr (omega (arith, e), omega (arith, e)))
not_work n a (inr (inl e)) = not_after n a (inr (omega (arith, e), omega (arith, e)))
not_work n a (inr (inr o)) = o

-- what is left by a call that was turned away
abbrev Alone : StepCall → StepOutcome → Type 0
Alone c out = out ≡ unwritten (record { refusal = out.answer.refusal; ended = 0; running = c.running }) c

step-number : (c : StepCall) (r : Refusal) → stepped c ≡ refused r → OneOf (number_of r) (4 ∷ 5 ∷ [])
unfolding stepped
step-number c r e =
    work-number r (⊎_elim (λ p. inl p) (λ p. inr p.0) ((each_step Churn (settings_of c.whole) (state_of (found c).call) (step_after c.running.done)).only r e))

in_turn_lem : (c : StepCall) → is_first c ≡ false → (t : Checked (Unit {0})) → step_tests c ≡ t → (w : Checked BeaconState) → stepped c ≡ w → Before (step_in_turn c).answer.refusal → Alone c (step_in_turn c)
unfolding step_in_turn running_after stepped_amounts after_tests bind closing_buffer unwritten
in_turn_lem c f (refused r) t w e b = rw (t, f)
in_turn_lem c f (value u) t (refused r) e b = absurd (not_work (number_of r) (rw (t, e) at b) (step-number c r e))
in_turn_lem c f (value u) t (value st) e b = absurd (not_after 0 (rw (t, e) at b) (inl refl))

close-alone : (c : StepCall) → is_first c ≡ false → Before (close_step c).answer.refusal → Alone c (close_step c)
unfolding close_step unwritten
close-alone c f = go (has_ended c.running) refl (in_turn c) refl
  where
    go : (a : Bool) → has_ended c.running ≡ a → (b : Bool) → in_turn c ≡ b → Before (close_step c).answer.refusal → Alone c (close_step c)
    go true p b q k = absurd (not_after 0 (rw p at k) (inl refl))
    go false p false q k = rw (p, q)
    go false p true q k = rw (p, q) (in_turn_lem c f (step_tests c) refl (stepped c) refl (rw (p, q) at k))

pub steps-alone : StepsAlone
unfolding store_step store_step_by unwritten step_refused
steps-alone c l = go (has_ended c.running) refl (in_turn (step_of c)) refl (rules_for (store_found c)) refl
  where
    later : eqb c.running.done 0 ≡ false
    later = ne_eqb c.running.done 0 (λ z. omega (arith, z, l))

    go : (a : Bool) → has_ended c.running ≡ a → (b : Bool) → in_turn (step_of c) ≡ b → (m : Checked Rules) → rules_for (store_found c) ≡ m → Before (store_step c).answer.refusal → store_step c ≡ unwritten (record { refusal = (store_step c).answer.refusal; ended = 0; running = c.running }) (step_of c)
    go true p b q m e k = absurd (not_after 0 (rw p at k) (inl refl))
    go false p false q m e k = rw (p, q)
    go false p true q (refused r) e k = rw (p, q, e, later)
    go false p true q (value rules) e k = rw (p, q, e) (close-alone (step_by c rules) later (rw (p, q, e) at k))

carry-alone : (c : NinthCall) → ((carry_out c).answer.refusal ≡ 0 → ⊥) → carry_out c ≡ untried (record { refusal = (carry_out c).answer.refusal; ended = 0; running = c.running }) c
unfolding carry_out ninth_in_turn carries_out
carry-alone c = go (has_ended c.running) (eqb c.running.done 8) (ninth_tests c)
  where
    out : Bool → Bool → Checked (Unit {0}) → NinthOutcome
    out a b t = cond a (untried (says_ended c.running) c) (cond b (ninth_in_turn c t) (untried (turned_away BadShape c.running) c))

    go : (a b : Bool) (t : Checked (Unit {0})) → ((out a b t).answer.refusal ≡ 0 → ⊥) → out a b t ≡ untried (record { refusal = (out a b t).answer.refusal; ended = 0; running = c.running }) c
    go true b t k = absurd (k refl)
    go false false t k = refl
    go false true (refused r) k = refl
    go false true (value u) k = absurd (k refl)

pub ninth-alone : NinthAlone
unfolding store_carry_out carry_by
ninth-alone c = go (has_ended c.running) (eqb c.running.done 8) (ninth_rules c)
  where
    out : Bool → Bool → Checked Rules → NinthOutcome
    out a b m = cond a (untried (says_ended c.running) (ninth_of c)) (cond b (carry_by c m) (untried (turned_away BadShape c.running) (ninth_of c)))

    go : (a b : Bool) (m : Checked Rules) → ((out a b m).answer.refusal ≡ 0 → ⊥) → out a b m ≡ untried (record { refusal = (out a b m).answer.refusal; ended = 0; running = c.running }) (ninth_of c)
    go true b m k = absurd (k refl)
    go false false m k = refl
    go false true (refused r) k = refl
    go false true (value rules) k = carry-alone (ninth_by c rules) k
