-- What slash gives, by where its evaluation goes.
use mathlib.Core.Path.{◌≡◌}
use Prim.Native.Nat.{ℕ, ◌/◌}
use borrow.Author.Tests.{eq-eqb, ne_eqb}
use Rattle.definitions.specs.declared.Settings.{Settings}
use Rattle.definitions.specs.Record.{Validator}
use Rattle.definitions.specs.Checked.{value, refused, bind, add64}
use Rattle.definitions.specs.declared.Refusal.{Refusal}
use Rattle.definitions.specs.Rust.Phase0.Helpers.{decrease_balance}
use Rattle.definitions.specs.Rust.Altair.EpochProcessing.{is_slashing_due, slashing_penalty, slash}
use Rattle.arithmetic.proofs.Operations.{OnlyOverflow, only-bind, only-mul64}

module _ (s : Settings) (epoch total adjusted : ℕ) (v : Validator) where
  pub unslashed : (v.slashed ≡ 1 → ⊥) → slash s epoch total adjusted v ≡ value v
  unfolding slash is_slashing_due bind
  unslashed n = rw (ne_eqb _ _ n)

  module _ (is : v.slashed ≡ 1) where
    pub due-refused : {p : Refusal} → add64 epoch (s.epochs_per_slashings_vector / 2) ≡ refused p → slash s epoch total adjusted v ≡ refused p
    unfolding slash is_slashing_due bind
    due-refused h = rw (eq-eqb _ _ is, h)

    module _ {due : ℕ} (h : add64 epoch (s.epochs_per_slashings_vector / 2) ≡ value due) where
      pub not_due : (due ≡ v.withdrawable_epoch → ⊥) → slash s epoch total adjusted v ≡ value v
      unfolding slash is_slashing_due bind
      not_due n = rw (eq-eqb _ _ is, h, ne_eqb _ _ n)

      module _ (at : due ≡ v.withdrawable_epoch) where
        pub penalty-refused : {p : Refusal} → slashing_penalty s total adjusted v ≡ refused p → slash s epoch total adjusted v ≡ refused p
        unfolding slash is_slashing_due bind
        penalty-refused g = rw (eq-eqb _ _ is, h, eq-eqb _ _ at, g)

        pub penalized : {penalty : ℕ} → slashing_penalty s total adjusted v ≡ value penalty → slash s epoch total adjusted v ≡ value (decrease_balance v penalty)
        unfolding slash is_slashing_due bind
        penalized g = rw (eq-eqb _ _ is, h, eq-eqb _ _ at, g)

pub only-penalty : (s : Settings) (total adjusted : ℕ) (v : Validator) → OnlyOverflow (slashing_penalty s total adjusted v)
unfolding slashing_penalty
only-penalty s total adjusted v = only-bind (only-mul64 _ _) (λ numerator. only-mul64 _ _)
