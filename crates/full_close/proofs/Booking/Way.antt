-- The registry between the steps of an accepted close.
use mathlib.Core.Path.{◌≡◌, refl, sym, ap, ◌∙◌}
use mathlib.Core.List.{List, map}
use Prim.Native.Nat.{ℕ}
use lib.ListN.{length, length-map}
use Rattle.definitions.specs.declared.Settings.{Settings}
use Rattle.definitions.specs.declared.ActivationLimit.{ActivationLimit}
use Rattle.definitions.specs.Record.{Validator}
use Rattle.definitions.specs.Checked.{value}
use Rattle.definitions.specs.Rust.Phase0.EpochProcessing.{limited_registry_updates, process_effective_balance_updates}
use Rattle.definitions.specs.Rust.Altair.EpochProcessing.{process_inactivity_updates, process_rewards_and_penalties, process_slashings}
use Rattle.laws.proofs.Checked.{value_same, bound}
use Rattle.laws.specs.Frames.{without_epochs}
use Rattle.laws.proofs.Frame.Entries.{told}
use Rattle.laws.proofs.Frame.Registry.{registry-writes}
use Rattle.laws_close.proofs.Amounts.Way.{Way}
use Rattle.write_steps.specs.RegistrySteps.{registry_steps}

pub way : (by : ActivationLimit) (s : Settings) (slot fin : ℕ) (ys : List ℕ) (vs : List Validator) {ws : List Validator} → registry_steps by s slot fin ys vs ≡ value ws → Way by s slot fin ys vs ws
unfolding registry_steps
way by s slot fin ys vs h =
    let a = bound (process_inactivity_updates s slot fin vs) _ h in
    let b = bound (process_rewards_and_penalties s s.inactivity_penalty_quotient_altair slot fin a.first) _ a.then in
    let c = bound (limited_registry_updates by s slot fin b.first) _ b.then in
    let d = bound (process_slashings s s.proportional_slashing_multiplier_altair slot ys c.first) _ c.then in
    let e = bound (process_effective_balance_updates s d.first) _ d.then in
    record {
      scored = a.first;
      paid = b.first;
      updated = c.first;
      lessened = d.first;
      balanced = e.first;
      scores = a.gave;
      pays = b.gave;
      registers = c.gave;
      slashes = d.gave;
      balances = e.gave;
      rotates = value_same e.then;
    }

abbrev balance : Validator → ℕ
balance v = v.balance

-- No step changes how many validators there are
module _ {by : ActivationLimit} {s : Settings} {slot fin : ℕ} {ys : List ℕ} {vs ws : List Validator} (w : Way by s slot fin ys vs ws) where
  registered : (f : Validator → ℕ) → ((v : Validator) → f (without_epochs v) ≡ f v) → map f w.updated ≡ map f w.paid
  registered f a = told without_epochs f a w.paid w.updated (registry-writes by s slot fin w.paid w.registers)

  pub updated-long : length w.updated ≡ length w.paid
  updated-long = sym (length-map w.updated balance) ∙ ap length (registered balance (λ v. refl)) ∙ length-map w.paid balance
