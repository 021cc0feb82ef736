-- From a slot or epoch to its seconds and back, by the calls.
use mathlib.Core.Path.{◌≡◌, refl, sym, ap, ◌∙◌}
use mathlib.Core.Bool.{Bool, true, false, cond, not, ◌||◌}
use Prim.Native.Nat.{ℕ, ◌≤◌, ◌<◌}
use native.Mathlib.Omega.{arith}
use borrow.Author.Tests.{eqb-false, le-ltb}
use lib.Dec.{eqb}
use Rattle.definitions.specs.Checked.{value, refused, bind}
use Rattle.definitions.specs.declared.Refusal.TheVariants.{BadSettings, Overflow, NoSeconds}
use Rattle.definitions.specs.Refusals.{is_small, after_tests}
use Rattle.laws.proofs.Checked.{not_value, value_same, bound}
use Rattle.definitions_clock.specs.declared.Clock.{Clock}
use Rattle.definitions_clock.specs.Clock.{slot_at, epoch_at, first_second_of_slot_call, last_second_of_slot_call, first_second_of_epoch_call, last_second_of_epoch_call, in_closing_window}
use Rattle.definitions_clock.specs.Calls.{clock_tests, not_before_genesis, second_tests, is64, fits64, slot_at_time, epoch_at_time, is_in_closing_window, first_second_of_slot, last_second_of_slot, first_second_of_epoch, last_second_of_epoch}
use Rattle.definitions_clock.specs.Laws.{ThereAndBack}
use Rattle.definitions_clock.proofs.Numbers.{slot_laws, epoch-laws, window-laws, epoch_span}

pub fits-value : (x : ℕ) {y : ℕ} → fits64 x ≡ value y → x ≡ y
unfolding fits64
fits-value x {y} e = go (is64 x) e
  where
    go : (t : Bool) → cond t (value x) (refused Overflow) ≡ value y → x ≡ y
    go true e = value_same e
    go false e = absurd (not_value e)

-- Tests 15 and 2, once passed
pub record ClockPassed (c : Clock) : Type 0 where
  pub seconds : 0 < c.seconds_per_slot
  pub slots : 0 < c.slots_per_epoch

positive : (n : ℕ) → eqb n 0 ≡ false → 0 < n
positive n e = let z = eqb-false n 0 e in omega arith

pub clock-passed : (c : Clock) {u : Unit {0}} → clock_tests c ≡ value u → ClockPassed c
unfolding clock_tests
clock-passed c {u} e = go (eqb c.seconds_per_slot 0) refl (eqb c.slots_per_epoch 0) refl e
  where
    go : (t : Bool) → eqb c.seconds_per_slot 0 ≡ t → (n : Bool) → eqb c.slots_per_epoch 0 ≡ n → cond t (refused NoSeconds) (cond (not (n || not (is_small c.slots_per_epoch))) (value tt) (refused BadSettings)) ≡ value u → ClockPassed c
    go true a n b e = absurd (not_value e)
    go false a true b e = absurd (not_value e)
    go false a false b e = record { seconds = positive c.seconds_per_slot a; slots = positive c.slots_per_epoch b }

-- a second from genesis on is answered
answered : {A : Type 0} (c : Clock) (second : ℕ) {u : Unit {0}} {a b : A} → clock_tests c ≡ value u → c.genesis_time ≤ second → a ≡ b → after_tests (second_tests c second) (value a) ≡ value b
unfolding second_tests not_before_genesis after_tests bind
answered c second p l e = rw (p, le-ltb second c.genesis_time l, e)

-- a call that gave x, then one about that second
back : {A : Type 0} (c : Clock) (f : ℕ → A) (x : ℕ) {second : ℕ} {a : A} → c.genesis_time ≤ x → (ClockPassed c → f x ≡ a) → after_tests (clock_tests c) (fits64 x) ≡ value second → after_tests (second_tests c second) (value (f second)) ≡ value a
unfolding after_tests
back c f x {second} l g e =
    let b = bound (clock_tests c) (λ _. fits64 x) e in
    let s : x ≡ second = fits-value x b.then in
    answered c second b.gave (omega (arith, s)) (ap f (sym s) ∙ g (clock-passed c b.gave))

pub there_and_back : (c : Clock) → ThereAndBack c
unfolding slot_at_time epoch_at_time is_in_closing_window first_second_of_slot last_second_of_slot first_second_of_epoch last_second_of_epoch
there_and_back c =
    record {
      slot-first = λ k t e. back c (slot_at c) (first_second_of_slot_call c k) (omega arith) (λ p. (slot_laws c p.seconds).one (first_second_of_slot_call c k) k (omega arith) (omega arith)) e;
      slot-last = λ k t e. back c (slot_at c) (last_second_of_slot_call c k) (omega arith) (λ p. (slot_laws c p.seconds).one (last_second_of_slot_call c k) k (omega arith) (omega arith)) e;
      epoch-first = λ k t e. back c (epoch_at c) (first_second_of_epoch_call c k) (omega arith) (λ p. (epoch-laws c p.seconds p.slots).one (first_second_of_epoch_call c k) k (omega arith) (epoch_span c p.seconds p.slots k)) e;
      epoch-last = λ k t e. back c (epoch_at c) (last_second_of_epoch_call c k) (omega arith) (λ p. (epoch-laws c p.seconds p.slots).one (last_second_of_epoch_call c k) k (epoch_span c p.seconds p.slots k) (omega arith)) e;
      window = λ k t e. back c (in_closing_window c) (last_second_of_epoch_call c k) (omega arith) (λ p. (window-laws c p.seconds p.slots).whole (last_second_of_epoch_call c k) k (omega arith) (omega arith)) e;
    }
