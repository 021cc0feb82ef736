-- What update_effective_balance gives, by where its evaluation goes.
use mathlib.Core.Path.{◌≡◌}
use Prim.Native.Nat.{ℕ, ◌≤◌, ◌<◌}
use borrow.Author.Tests.{lt-ltb, le-ltb}
use Rattle.definitions.specs.declared.Settings.{Settings}
use Rattle.definitions.specs.Record.{Validator}
use Rattle.definitions.specs.Updates.{with_effective_balance}
use Rattle.definitions.specs.Checked.{value, refused, bind, add64}
use Rattle.definitions.specs.declared.Refusal.{Refusal}
use Rattle.definitions.specs.Document.Phase0.EpochProcessing.{rounded_balance}
use Rattle.definitions.specs.Rust.Phase0.EpochProcessing.{update_effective_balance}

module _ (s : Settings) (downward upward : ℕ) (v : Validator) where
  pub low-refused : {p : Refusal} → add64 v.balance downward ≡ refused p → update_effective_balance s downward upward v ≡ refused p
  unfolding update_effective_balance bind
  low-refused h = rw h

  module _ {low : ℕ} (h : add64 v.balance downward ≡ value low) where
    pub low-moved : low < v.effective_balance → update_effective_balance s downward upward v ≡ value (with_effective_balance (rounded_balance s v) v)
    unfolding update_effective_balance bind
    low-moved l = rw (h, lt-ltb _ _ l)

    module _ (l : v.effective_balance ≤ low) where
      pub high-refused : {p : Refusal} → add64 v.effective_balance upward ≡ refused p → update_effective_balance s downward upward v ≡ refused p
      unfolding update_effective_balance bind
      high-refused g = rw (h, le-ltb _ _ l, g)

      pub high-moved : {high : ℕ} → add64 v.effective_balance upward ≡ value high → high < v.balance → update_effective_balance s downward upward v ≡ value (with_effective_balance (rounded_balance s v) v)
      unfolding update_effective_balance bind
      high-moved g m = rw (h, le-ltb _ _ l, g, lt-ltb _ _ m)

      pub kept : {high : ℕ} → add64 v.effective_balance upward ≡ value high → v.balance ≤ high → update_effective_balance s downward upward v ≡ value v
      unfolding update_effective_balance bind
      kept g m = rw (h, le-ltb _ _ l, g, le-ltb _ _ m)
