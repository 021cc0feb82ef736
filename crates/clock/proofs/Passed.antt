-- What the clock's tests give once passed, `x` being what their code answered; and the closing window by the remainder.
use mathlib.Core.Path.{◌≡◌, refl, sym, ◌∙◌}
use mathlib.Core.Bool.{Bool, true, false, cond}
use Prim.Native.Nat.{ℕ, ◌+◌, ◌-◌, ◌*◌, ◌/◌, ◌%◌, ◌≤◌, ◌<◌}
use native.Mathlib.Omega.{arith}
use native.Mathlib.Nat.{div-add-mod'}
use borrow.Author.Tests.{ltb-false, eqb-true, eqb-false, eq-eqb, ne_eqb}
use lib.Dec.{ltb, eqb}
use Rattle.definitions.specs.Checked.{Checked, value, refused}
use Rattle.definitions.specs.declared.Refusal.TheVariants.{BeforeGenesis}
use Rattle.definitions.specs.Refusals.{after_tests}
use Rattle.laws.proofs.Checked.{not_value, bound}
use Rattle.definitions_clock.specs.declared.Clock.{Clock}
use Rattle.definitions_clock.specs.Calls.{clock_tests, not_before_genesis, second_tests}
use Rattle.definitions_clock.proofs.Calls.{ClockPassed, clock-passed}

pub clock-went : (c : Clock) {x : Checked (Unit {0})} → x ≡ clock_tests c → x ≡ value tt → ClockPassed c
clock-went c e z = clock-passed c (sym e ∙ z)

pub record SecondPassed (c : Clock) (second : ℕ) : Type 0 where
  pub clock : ClockPassed c
  pub begun : c.genesis_time ≤ second

pub second-went : (c : Clock) (second : ℕ) {x : Checked (Unit {0})} → x ≡ second_tests c second → x ≡ value tt → SecondPassed c second
unfolding second_tests after_tests not_before_genesis
second-went c second e z =
    let b = bound (clock_tests c) (λ _. not_before_genesis c second) {b = tt} (sym e ∙ z) in
    record { clock = clock-passed c b.gave; begun = go (ltb second c.genesis_time) refl b.then }
  where
    go : (t : Bool) → ltb second c.genesis_time ≡ t → cond t (refused BeforeGenesis) (value tt) ≡ value (tt {0}) → c.genesis_time ≤ second
    go true h e = absurd (not_value e)
    go false h e = ltb-false second c.genesis_time h

-- the last slot of its epoch, by the remainder
pub last_by-rest : (slot n : ℕ) → 0 < n → eqb (slot % n) (n - 1) ≡ eqb slot (slot / n * n + (n - 1))
last_by-rest slot n h = go (eqb (slot % n) (n - 1)) refl
  where
    whole : slot / n * n + slot % n ≡ slot
    whole = div-add-mod' slot n

    go : (t : Bool) → eqb (slot % n) (n - 1) ≡ t → t ≡ eqb slot (slot / n * n + (n - 1))
    go true e = sym (eq-eqb slot (slot / n * n + (n - 1)) (omega (arith, whole, eqb-true (slot % n) (n - 1) e)))
    go false e = sym (ne_eqb slot (slot / n * n + (n - 1)) (λ q. eqb-false (slot % n) (n - 1) e (omega (arith, whole, q))))
