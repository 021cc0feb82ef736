-- What slash gives, by where its evaluation goes.
use mathlib.Core.Path.{◌≡◌}
use Prim.Native.Nat.{ℕ, ◌/◌}
use borrow.Author.Tests.{eq-eqb, ne_eqb}
use Rattle.definitions.specs.declared.Settings.{Settings}
use Rattle.definitions.specs.Record.{Validator}
use Rattle.definitions.specs.Checked.{value, refused, bind, add64, mul64}
use Rattle.definitions.specs.declared.Refusal.{Refusal}
use Rattle.definitions.specs.Rust.Phase0.Helpers.{decrease_balance}
use Rattle.definitions.specs.Rust.Altair.EpochProcessing.{is_slashing_due}
use Rattle.definitions_electra.specs.Evaluated.Electra.EpochProcessing.{slash}

module _ (s : Settings) (epoch per_increment : ℕ) (v : Validator) where
  pub unslashed : (v.slashed ≡ 1 → ⊥) → slash s epoch per_increment v ≡ value v
  unfolding slash is_slashing_due bind
  unslashed n = rw (ne_eqb _ _ n)

  module _ (is : v.slashed ≡ 1) where
    pub due-refused : {p : Refusal} → add64 epoch (s.epochs_per_slashings_vector / 2) ≡ refused p → slash s epoch per_increment v ≡ refused p
    unfolding slash is_slashing_due bind
    due-refused h = rw (eq-eqb _ _ is, h)

    module _ {due : ℕ} (h : add64 epoch (s.epochs_per_slashings_vector / 2) ≡ value due) where
      pub not_due : (due ≡ v.withdrawable_epoch → ⊥) → slash s epoch per_increment v ≡ value v
      unfolding slash is_slashing_due bind
      not_due n = rw (eq-eqb _ _ is, h, ne_eqb _ _ n)

      module _ (at : due ≡ v.withdrawable_epoch) where
        pub penalty-refused : {p : Refusal} → mul64 per_increment (v.effective_balance / s.effective_balance_increment) ≡ refused p → slash s epoch per_increment v ≡ refused p
        unfolding slash is_slashing_due bind
        penalty-refused g = rw (eq-eqb _ _ is, h, eq-eqb _ _ at, g)

        pub penalized : {penalty : ℕ} → mul64 per_increment (v.effective_balance / s.effective_balance_increment) ≡ value penalty → slash s epoch per_increment v ≡ value (decrease_balance v penalty)
        unfolding slash is_slashing_due bind
        penalized g = rw (eq-eqb _ _ is, h, eq-eqb _ _ at, g)
