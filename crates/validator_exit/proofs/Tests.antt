-- The tests of an exit as the code makes them: 1, 2 and 3 of the slot, then 3 of the registry and 8 from one pass; and what the caller has
-- at the end. `x` is what the first tests answered.
use mathlib.Core.Path.{◌≡◌, refl, sym, ap, ◌∙◌}
use mathlib.Core.Bool.{Bool, true, false, cond}
use mathlib.Core.List.{List, [], ◌∷◌}
use Prim.Native.Nat.{ℕ, ◌+◌, ◌*◌, ◌/◌, max, ◌<◌}
use native.Mathlib.Omega.{arith}
use native.Mathlib.Nat.{div-le_self}
use lib.ListN.{length}
use Rattle.definitions.specs.declared.Settings.{Settings}
use Rattle.definitions.specs.declared.ExitQueue.{ExitQueue}
use Rattle.definitions.specs.declared.Refusal.{Refusal}
use Rattle.definitions.specs.declared.Refusal.TheVariants.{BadRecord}
use Rattle.definitions.specs.Record.{Validator, decode, FAR_FUTURE_EPOCH}
use Rattle.definitions.specs.Checked.{Checked, value, refused, done, bind}
use Rattle.definitions.specs.LeafRefusals.{is_index, exit_tests}
use Rattle.definitions.specs.Refusals.{settings_shaped, registry_shaped, good_registry, good_settings, is_small, in_order, after_tests}
use Rattle.definitions.specs.ExitQueue.{queue_of}
use Rattle.definitions.specs.Rust.Phase0.Helpers.{compute_epoch_at_slot, get_current_epoch, get_active_validator_indices, get_validator_churn_limit, initiate_validator_exit}
use Rattle.laws.proofs.Tests.{InOrder, in_order-value}
use Rattle.refusals.proofs.Laws.{PositiveDivisors, good-settings, registry-shaped, small}
use Rattle.refusals.proofs.Answers.{after-passed}
use Rattle.laws.proofs.Checked.{not_value, value_same}
use Rattle.laws.proofs.Loops.Ran.{ran-refused}
use Rattle.exit_queue.specs.Exits.{exit_at}
use Rattle.exit_queue.proofs.exits.Exits.{exit_by-numbers}
use Rattle.exit_queue.proofs.exits.Passed.{ExitPassed, exit-passed}
use Rattle.definitions_close.specs.QueueCalls.{exit_queue_tests}
use Rattle.validator_exit.specs.Found.{pair_test}
use Rattle.validator_exit.proofs.queue_tests.Queue.{QueuePassed, queue-passed}
use Rattle.validator_exit.proofs.queue_tests.Found.{early-refused, entry-refused, pair-code}
use Rattle.validator_exit.specs.declared.Seen.{Seen}
use Rattle.validator_exit.specs.Exits.{sees, LeavesPair}

-- the activation exit epoch is no FAR
real : (s : Settings) (state_slot : ℕ) → good_settings s ≡ true → is_small state_slot ≡ true → get_current_epoch s state_slot + 1 + s.max_seed_lookahead < FAR_FUTURE_EPOCH
unfolding get_current_epoch compute_epoch_at_slot
real s state_slot g l = omega (arith, small state_slot l, (good-settings s g).small.max_seed_lookahead, div-le_self state_slot s.slots_per_epoch)

-- what a pass that saw no bad entry found, and that it refuses by the bad one alone
module _ (epoch : ℕ) (registry : List ℕ) {r : Checked Seen} (h : r ≡ sees epoch registry) where
  pub pass-tested : done r ≡ cond (good_registry registry) (value tt) (refused BadRecord)
  unfolding sees
  pass-tested = rw h (go (good_registry registry) _)
    where
      go : (b : Bool) (g : Seen) → done (cond b (value g) (refused BadRecord)) ≡ cond b (value tt) (refused BadRecord)
      go true g = refl
      go false g = refl

  pub pass-found : {g : Seen} → r ≡ value g → (g.active ≡ length (get_active_validator_indices (decode registry) epoch)) × (g.queue ≡ queue_of (decode registry))
  unfolding sees
  pass-found {g} z = go (good_registry registry) (sym h ∙ z)
    where
      found : Seen
      found = record { active = length (get_active_validator_indices (decode registry) epoch); queue = queue_of (decode registry) }

      go : (b : Bool) → cond b (value found) (refused BadRecord) ≡ value g → (g.active ≡ length (get_active_validator_indices (decode registry) epoch)) × (g.queue ≡ queue_of (decode registry))
      go true q = let e = value_same q in (sym (ap (λ (o : Seen). o.active) e), sym (ap (λ (o : Seen). o.queue) e))
      go false q = absurd (not_value q)

module _ (s : Settings) (state_slot index : ℕ) (queue : ExitQueue) (registry : List ℕ) where
  abbrev shaped : List Bool
  shaped = settings_shaped s ∷ registry_shaped registry ∷ is_index index registry ∷ []

  abbrev tests : Checked (Unit {0})
  tests = exit_queue_tests s state_slot index queue registry

  abbrev exit : Checked (List Validator)
  exit = initiate_validator_exit s state_slot (decode registry) index

  -- refused by p, with nothing written
  pub turned-away : {p : Refusal} {r : Checked ExitQueue} → tests ≡ refused p → r ≡ refused p → LeavesPair (after_tests tests exit) registry registry r
  unfolding after_tests bind
  turned-away t k = rw (t, k) (record { leaves = record { ran = ran-refused refl; kept = λ p e. refl }; queue = λ z. absurd (not_value z) })

  module _ {x : Checked (Unit {0})} (e : x ≡ in_order shaped (good_settings s ∷ []) (is_small state_slot ∷ [])) where
    pub shape-refused : {p : Refusal} {r : Checked ExitQueue} → x ≡ refused p → r ≡ refused p → LeavesPair (after_tests tests exit) registry registry r
    unfolding exit_tests
    shape-refused z k = turned-away (early-refused _ _ _ queue registry e z) k

    -- before the registry is looked at
    module _ (z : x ≡ value tt) where
      shape-passed : InOrder shaped (good_settings s ∷ []) (is_small state_slot ∷ [])
      shape-passed = in_order-value _ _ _ (sym e ∙ z)

      pub positive : PositiveDivisors s
      positive = (good-settings s (shape-passed.settings 0)).positive

      pub long : length registry ≡ 10 * (length registry / 10)
      long = (registry-shaped registry (shape-passed.shaped 1)).long

      -- what the pass found
      module _ (epoch : ℕ) {pass : Checked Seen} (f : pass ≡ sees epoch registry) where
        pub pass-refused : {p : Refusal} {r : Checked ExitQueue} → pass ≡ refused p → r ≡ refused p → LeavesPair (after_tests tests exit) registry registry r
        unfolding exit_tests
        pass-refused y k = turned-away (entry-refused _ _ _ queue registry e z (pass-tested epoch registry f) (ap done y)) k

        pub seen-code : {g : Seen} {t : Checked (Unit {0})} → pass ≡ value g → t ≡ pair_test queue g.queue → t ≡ tests
        unfolding exit_tests
        seen-code y h = pair-code _ _ _ queue registry e z (pass-tested epoch registry f) (ap done y) (pass-found epoch registry f y).1 h

  -- All tests passed
  module _ {x : Checked (Unit {0})} (e : x ≡ tests) (z : x ≡ value tt) where
    pub both-passed : QueuePassed (exit_tests s state_slot index registry) queue registry
    both-passed = queue-passed (exit_tests s state_slot index registry) queue registry e z

    pub all-passed : ExitPassed s state_slot index registry
    all-passed = exit-passed s state_slot index registry refl both-passed.before

    pub least-real : get_current_epoch s state_slot + 1 + s.max_seed_lookahead < FAR_FUTURE_EPOCH
    least-real = let p = all-passed.others.settings in real s state_slot p.good p.small

    -- the exit by numbers, as the code works them out
    pub exit-done : {epoch active limit : ℕ} {after : List ℕ} {r : Checked ExitQueue} → epoch ≡ get_current_epoch s state_slot → active ≡ length (get_active_validator_indices (decode registry) epoch) → limit ≡ max s.min_per_epoch_churn_limit (active / s.churn_limit_quotient) → LeavesPair (exit_at (epoch + 1 + s.max_seed_lookahead) limit s.min_validator_withdrawability_delay (decode registry) index) registry after r → LeavesPair (after_tests tests exit) registry after r
    unfolding get_validator_churn_limit
    exit-done {epoch} {active} {limit} {after} {r} p a k h =
        let least = all-passed.least ∙ ap (λ (y : ℕ). value (y + 1 + s.max_seed_lookahead)) (sym p) in
        let churn : get_validator_churn_limit s state_slot (decode registry) ≡ limit = sym (k ∙ rw (a, p)) in
        let left : LeavesPair exit registry after r = rw (exit_by-numbers s state_slot (decode registry) index least churn) h in
        rw (after-passed tests exit e z) left
