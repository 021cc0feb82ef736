-- Step 8 at those whom the deposits add: by the test, before they are written.
use mathlib.Core.Path.{◌≡◌, refl, ap}
use mathlib.Core.Bool.{true, false, cond}
use mathlib.Core.List.{List, [], ◌∷◌}
use Prim.Native.Nat.{ℕ, zero, suc, ◌+◌, ◌-◌, ◌*◌, ◌/◌, ◌%◌, ◌≤◌, ◌<◌, ◌^◌, min}
use native.Mathlib.Omega.{arith}
use borrow.Author.Tests.{lt-ltb, le-ltb}
use lib.Dec.{ltb}
use lib.ListN.{length, get_or, take, drop, length-drop}
use lib.Seq.{get_or-drop, length-take-le}
use Rattle.definitions.specs.Record.{Validator, nobody}
use Rattle.definitions.specs.Updates.{with_effective_balance}
use Rattle.definitions.specs.Checked.{Checked, value, refused, bind, add64, mul64}
use Rattle.definitions.specs.declared.Refusal.{Refusal}
use Rattle.definitions.specs.declared.Refusal.TheVariants.{Overflow}
use Rattle.arithmetic.proofs.Operations.{OnlyOverflow, only-value, only-add64, only-mul64, only-bind}
use Rattle.electra_registry.proofs.Turns.{only-either}
use Rattle.definitions_electra.specs.declared.ElectraRules.{ElectraRules}
use Rattle.definitions_electra.specs.Record.{decode_deposits}
use Rattle.definitions_electra.specs.Document.Electra.Helpers.{get_max_effective_balance}
use Rattle.definitions_electra.specs.Document.Electra.EpochProcessing.{Processing}
use Rattle.definitions_electra.specs.Evaluated.Electra.EpochProcessing.{update_effective_balance, update_effective_balances}
use Rattle.electra_deposits.specs.declared.adding.NewNumbers.{NewNumbers}
use Rattle.electra_deposits.specs.declared.QueueNumbers.{QueueNumbers}
use Rattle.electra_deposits.specs.declared.testing.NewTest.{NewTest}
use Rattle.electra_deposits.specs.Testing.{Good, Bad, NewTests, TestsNew}
use Rattle.electra_deposits.proofs.Text.{text, done, joined_is}
use Rattle.laws_electra.proofs.Cases.{less_or, test_or}
pub use Rattle.laws_electra.proofs.Cases.{Gives}

module _ (r : ElectraRules) {downward upward : ℕ} (low : mul64 (r.settings.effective_balance_increment / r.settings.hysteresis_quotient) r.settings.hysteresis_downward_multiplier ≡ value downward) (high : mul64 (r.settings.effective_balance_increment / r.settings.hysteresis_quotient) r.settings.hysteresis_upward_multiplier ≡ value upward) where
  -- by its balance
  abbrev updated : ℕ → Validator → Validator
  updated c v = with_effective_balance (min (v.balance - v.balance % r.settings.effective_balance_increment) (get_max_effective_balance r.electra c)) v

  good-one : (c : ℕ) (v : Validator) → Good downward upward v → Gives (update_effective_balance r c v)
  unfolding update_effective_balance bind add64
  good-one c v g =
      let y = cond (ltb (v.effective_balance + upward) v.balance) (updated c v) v in
      rw (low, high, lt-ltb (v.balance + downward) (2 ^ 64) g.low, lt-ltb (v.effective_balance + upward) (2 ^ 64) g.high)
      (test_or (ltb (v.balance + downward) v.effective_balance) (λ t. rw t (record { first = updated c v; gave = refl })) (λ t. rw t (record { first = y; gave = refl })))

  bad-one : (c : ℕ) (v : Validator) → Bad downward upward v → update_effective_balance r c v ≡ refused Overflow
  unfolding update_effective_balance bind add64
  bad-one c v g =
      rw (low, high) (less_or (v.balance + downward) (2 ^ 64)
      (λ l. (let x = g.high l in rw (lt-ltb (v.balance + downward) (2 ^ 64) l, le-ltb (v.balance + downward) v.effective_balance (omega (arith, x.0)), le-ltb (v.effective_balance + upward) (2 ^ 64) x.1)))
      (λ l. rw (le-ltb (v.balance + downward) (2 ^ 64) l)))

  only_one : (c : ℕ) (v : Validator) → OnlyOverflow (update_effective_balance r c v)
  unfolding update_effective_balance
  only_one c v = only-bind (only-mul64 _ _) (λ d. only-bind (only-mul64 _ _) (λ u. only-bind (only-add64 _ _) (λ s. only-either (ltb s v.effective_balance) (only-value (updated c v)) (only-bind (only-add64 v.effective_balance u) (λ h. only-value (cond (ltb h v.balance) (updated c v) v))))))

  pub all-good : (cs : List ℕ) (vs : List Validator) → ((j : ℕ) → j < length vs → Good downward upward (get_or vs j nobody)) → Gives (update_effective_balances r cs vs)
  unfolding update_effective_balances bind
  all-good [] [] g = record { first = []; gave = refl }
  all-good (c ∷ cs) [] g = record { first = []; gave = refl }
  all-good [] (v ∷ vs) g = record { first = []; gave = refl }
  all-good (c ∷ cs) (v ∷ vs) g =
      let x = good-one c v (g 0 (omega arith)) in
      let y = all-good cs vs (λ j l. g (suc j) (omega (arith, l))) in
      record { first = x.first ∷ y.first; gave = rw (x.gave, y.gave) }

  pub some-bad : (cs : List ℕ) (vs : List Validator) → length cs ≡ length vs → (j : ℕ) → j < length vs → Bad downward upward (get_or vs j nobody) → update_effective_balances r cs vs ≡ refused Overflow
  unfolding update_effective_balances bind
  some-bad cs [] e j l g = absurd (omega arith)
  some-bad [] (v ∷ vs) e j l g = absurd (omega (arith, e))
  some-bad (c ∷ cs) (v ∷ vs) e zero l g = rw (bad-one c v g)
  some-bad (c ∷ cs) (v ∷ vs) e (suc j) l g = go (update_effective_balance r c v) refl (some-bad cs vs (omega (arith, e)) j (omega (arith, l)) g)
    where
      go : (m : Checked Validator) → update_effective_balance r c v ≡ m → update_effective_balances r cs vs ≡ refused Overflow → bind m (λ w. bind (update_effective_balances r cs vs) (λ ws. value (w ∷ ws))) ≡ refused Overflow
      go (value w) z rest = rw rest
      go (refused p) z rest = ap (λ (x : Refusal). refused x) ((only_one c v).why p z)

-- The text's loop
module _ (k : NewNumbers) (q : QueueNumbers) (registry compounding deposits : List ℕ) (tens : length registry ≡ 10 * (length registry / 10)) (credentials : length compounding ≡ length registry / 10) where
  abbrev n : ℕ
  n = length registry / 10

  module _ {p : Processing} (z : text k q registry compounding deposits tens credentials ≡ value p) {downward upward : ℕ} {t : NewTest} (h : NewTests k n downward upward (take p.next_deposit_index (decode_deposits deposits)) t) where
    least : n ≤ length p.registry.validators
    least = let d = done k q registry compounding deposits tens credentials z in omega (arith, d.kept.least, d.kept.long)

    tested : TestsNew n downward upward p.registry t
    tested =
        let vs = take n p.registry.validators in
        let l : length vs ≡ n = length-take-le n p.registry.validators least in
        h.tests vs compounding l credentials p.registry (joined_is k q registry compounding deposits tens credentials z vs refl l)

    pub new-added : t.fits ≡ true → n + t.added ≡ length p.registry.validators
    new-added = tested.added

    pub new-someone : t.fits ≡ false → n < length p.registry.validators
    new-someone f = let b = tested.bad f in omega (arith, b.behind, b.here)

    module _ (r : ElectraRules) (low : mul64 (r.settings.effective_balance_increment / r.settings.hysteresis_quotient) r.settings.hysteresis_downward_multiplier ≡ value downward) (high : mul64 (r.settings.effective_balance_increment / r.settings.hysteresis_quotient) r.settings.hysteresis_upward_multiplier ≡ value upward) where
      pub new-fits : t.fits ≡ true → Gives (update_effective_balances r (drop n p.registry.compounding) (drop n p.registry.validators))
      new-fits f =
          all-good r low high (drop n p.registry.compounding) (drop n p.registry.validators)
          (λ j l. rw (get_or-drop n p.registry.validators j nobody) (tested.good f (n + j) (omega arith) (omega (arith, l, length-drop n p.registry.validators))))

      pub new-refused : t.fits ≡ false → update_effective_balances r (drop n p.registry.compounding) (drop n p.registry.validators) ≡ refused Overflow
      new-refused f =
          let b = tested.bad f in
          let d = done k q registry compounding deposits tens credentials z in
          let e : n + (b.at - n) ≡ b.at = omega (arith, b.behind) in
          some-bad r low high (drop n p.registry.compounding) (drop n p.registry.validators)
          (omega (arith, length-drop n p.registry.compounding, length-drop n p.registry.validators, d.kept.long, d.kept.long_too)) (b.at - n) (omega (arith, b.behind, b.here, length-drop n p.registry.validators))
          (rw (get_or-drop n p.registry.validators (b.at - n) nobody, e) b.bad)
