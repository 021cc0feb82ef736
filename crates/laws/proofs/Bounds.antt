-- What the tests keep inside 64 bits.
use mathlib.Core.Path.{◌≡◌}
use mathlib.Core.Bool.{Bool, true, false, cond, not}
use mathlib.Core.List.{List, [], ◌∷◌}
use Prim.Native.Nat.{ℕ, zero, suc, ◌-◌, ◌*◌, ◌^◌, ◌≤◌, ◌<◌}
use native.Mathlib.Omega.{arith}
use native.Mathlib.Nat.{div-le_self, div-mul-le_self, mul-le-mul_right, le_trans}
use borrow.Author.Tests.{ltb-true, leb-true}
use lib.Dec.{leb, eqb}
use lib.ListN.{length, get_or}
use Rattle.definitions.specs.declared.Settings.{Settings}
use Rattle.definitions.specs.declared.Finality.{Finality}
use Rattle.definitions.specs.declared.Rules.{Rules}
use Rattle.definitions.specs.Lists.{all}
use Rattle.definitions.specs.Checked.{value, bind}
use Rattle.definitions.specs.Refusals.{is_vector_length, settings_shaped, good_finality, good_settings, is_small, settings_numbers, divisors, justification_tests, registry_tests, effective_balance_tests, slashings_reset_tests}
use Rattle.definitions.specs.Rules.{settings_under, rules_shaped, good_rules, rewards_tests, slashings_tests, inactivity_penalty_tests}
use Rattle.definitions.specs.Document.Phase0.Helpers as document
use Rattle.definitions.specs.Document.Phase0.Helpers.{compute_epoch_at_slot, get_current_epoch, get_previous_epoch}
use Rattle.definitions.specs.Rust.Phase0.Helpers as rust
use Rattle.definitions.specs.Close.{Call, close_tests, limited_tests}
use Rattle.laws.proofs.Rules.{shaped-under, good-under}
use Rattle.laws.specs.Bounds.{Passed, FinalityPassed, TestsPassed, RulesPassed, Bounds, Given}
use Rattle.laws.proofs.Fits.{add64-fits, mul64-fits}
use Rattle.laws.proofs.Tests.{both, test, all-at, in_order-value}

-- Tests

-- every setting is below 2^48, and no divisor is 0

good-parts : (s : Settings) → good_settings s ≡ true → (all (λ n. not (eqb n 0)) (divisors s) ≡ true) × (all is_small (settings_numbers s) ≡ true)
unfolding good_settings
good-parts s h = both (all (λ n. not (eqb n 0)) (divisors s)) (all is_small (settings_numbers s)) h

pub setting_small : (s : Settings) → good_settings s ≡ true → (i : ℕ) → i < 19 → get_or (settings_numbers s) i 0 < 2 ^ 48
setting_small s h i l = ltb-true _ _ (all-at is_small (settings_numbers s) i 0 l (good-parts s h).1)

-- Epochs

pub current-epoch : (s : Settings) (state_slot : ℕ) → get_current_epoch s state_slot ≤ state_slot
unfolding get_current_epoch compute_epoch_at_slot
current-epoch s state_slot = div-le_self _ _

pub previous-epoch : (s : Settings) (state_slot : ℕ) → get_previous_epoch s state_slot ≤ get_current_epoch s state_slot
unfolding get_previous_epoch
previous-epoch s state_slot = go (eqb (get_current_epoch s state_slot) 0)
  where
    go : (t : Bool) → cond t 0 (get_current_epoch s state_slot - 1) ≤ get_current_epoch s state_slot
    go true = omega arith
    go false = omega arith

pub current-start : (s : Settings) (state_slot : ℕ) → get_current_epoch s state_slot * s.slots_per_epoch ≤ state_slot
unfolding get_current_epoch compute_epoch_at_slot
current-start s state_slot = div-mul-le_self _ _

-- S and L
vector-lengths : (s : Settings) → settings_shaped s ≡ true → (s.slots_per_historical_root ≤ 65536) × (s.epochs_per_slashings_vector ≤ 65536)
unfolding settings_shaped
vector-lengths s h =
    let parts = both (is_vector_length s.slots_per_historical_root) (is_vector_length s.epochs_per_slashings_vector) h in
    (leb-true _ _ (both (leb 1 s.slots_per_historical_root) _ parts.0).1, leb-true _ _ (both (leb 1 s.epochs_per_slashings_vector) _ parts.1).1)

pub bounds : (s : Settings) (state_slot : ℕ) → Passed s state_slot → Bounds s state_slot
bounds s state_slot h =
    let lengths = vector-lengths s h.shaped in
    let lookahead : s.max_seed_lookahead < 2 ^ 48 = setting_small s h.good 14 (omega arith) in
    let small = ltb-true state_slot (2 ^ 48) h.small in
    let current = current-epoch s state_slot in
    let previous = previous-epoch s state_slot in
    let current_start = current-start s state_slot in
    let previous_start = le_trans (mul-le-mul_right s.slots_per_epoch previous) current_start in
    record {
      next_epoch = omega arith;
      activation_exit = omega arith;
      after_previous = omega arith;
      slashing_due = omega arith;
      finality_test = λ epoch e. omega (arith, ltb-true epoch (2 ^ 48) e);
      previous_start = (previous_start, omega arith);
      current_start = (current_start, omega arith);
      roots_end = λ slot l. omega arith;
    }

pub given : (s : Settings) (state_slot : ℕ) → Passed s state_slot → Given s state_slot
unfolding rust.compute_activation_exit_epoch document.compute_activation_exit_epoch rust.compute_start_slot_at_epoch document.compute_start_slot_at_epoch bind
given s state_slot h =
    let b = bounds s state_slot h in
    record {
      activation_exit = rw (add64-fits (get_current_epoch s state_slot) 1 b.next_epoch) (add64-fits _ _ b.activation_exit);
      previous_start = mul64-fits _ _ b.previous_start.1;
      current_start = mul64-fits _ _ b.current_start.1;
      slashing_due = add64-fits _ _ b.slashing_due;
      roots_end = λ slot l. add64-fits _ _ (b.roots_end slot l);
    }

-- From the tests of the close and of the steps

-- slot and checkpoint epochs
finality-passed : (s : Settings) (f : Finality) → settings_shaped s ≡ true → good_settings s ≡ true → good_finality f ≡ true → FinalityPassed s f
unfolding good_finality
finality-passed s f shaped good h =
    let small = test _ h in
    record {
      passed = record { shaped = shaped; good = good; small = small 0 };
      previous_justified = small 2;
      current_justified = small 3;
      finalized = small 4;
    }

pub tests-passed : (s : Settings) → TestsPassed s
unfolding justification_tests registry_tests effective_balance_tests slashings_reset_tests
tests-passed s =
    record {
      justification = λ roots f registry h.
          let p = in_order-value _ _ _ h in
          finality-passed s f (p.shaped 0) (p.settings 0) (p.recorded 0);
      registry = λ state_slot finalized_epoch opening closing h.
          let p = in_order-value _ _ _ h in
          (record { shaped = p.shaped 0; good = p.settings 0; small = p.recorded 0 }, p.recorded 1);
      effective_balances = λ opening closing h.
          let p = in_order-value _ _ _ h in
          (p.shaped 0, p.settings 0);
      slashings_reset = λ state_slot opening closing h.
          let p = in_order-value _ _ _ h in
          record { shaped = p.shaped 0; good = p.settings 0; small = p.recorded 0 };
    }

-- The same of calls that are lent rules, for the settings under them

rules-slot : (r : Rules) (state_slot : ℕ) → rules_shaped r ≡ true → good_rules r ≡ true → is_small state_slot ≡ true → Passed (settings_under r) state_slot
rules-slot r state_slot shaped good small = record { shaped = shaped-under r shaped; good = good-under r good; small = small }

pub close_passed : (c : Call) → close_tests c ≡ value tt → FinalityPassed (settings_under c.rules) c.finality
unfolding limited_tests
close_passed c h =
    let p = in_order-value _ _ _ h in
    finality-passed (settings_under c.rules) c.finality (shaped-under c.rules (p.shaped 0)) (good-under c.rules (p.settings 0)) (p.recorded 0)

pub rules-passed : (r : Rules) → RulesPassed r
unfolding rewards_tests slashings_tests inactivity_penalty_tests
rules-passed r =
    record {
      close = λ c e h. rw e at (close_passed c h);
      rewards = λ state_slot finalized_epoch opening closing h.
          let p = in_order-value _ _ _ h in
          (rules-slot r state_slot (p.shaped 0) (p.settings 0) (p.recorded 0), p.recorded 1);
      slashings = λ state_slot slashings opening closing h.
          let p = in_order-value _ _ _ h in
          rules-slot r state_slot (p.shaped 0) (p.settings 0) (p.recorded 0);
      inactivity_penalty = λ state_slot entry h.
          let p = in_order-value _ _ _ h in
          rules-slot r state_slot (p.shaped 0) (p.settings 0) (p.recorded 0);
    }
