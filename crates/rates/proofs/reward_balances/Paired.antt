-- The four pairs of a validator, and the balance that they leave.
use mathlib.Core.List.{[], ◌∷◌}
use mathlib.Core.Path.{◌≡◌, refl, ◌∙◌}
use Prim.Native.Nat.{ℕ}
use Rattle.definitions.specs.declared.Deltas.{Deltas}
use Rattle.definitions.specs.declared.Settings.{Settings}
use Rattle.definitions.specs.Checked.{Checked, value, refused, bind, fold_checked}
use Rattle.definitions.specs.declared.Refusal.{Refusal}
use Rattle.definitions.specs.Record.{Validator}
use Rattle.definitions.specs.Updates.{with_balance}
use Rattle.definitions.specs.Rust.Altair.Helpers.{FlagTotals, flag_index_deltas, inactivity_penalty_deltas}
use Rattle.definitions.specs.Rust.Altair.EpochProcessing.{all_deltas, reward_and_penalize}
use Rattle.arithmetic.proofs.Laws.{bind-value, bind-refused}
use Rattle.laws.proofs.Checked.{bind-bind}
use Rattle.arithmetic.proofs.Operations.{OnlyOverflow, only-value, only-bind}
use Rattle.rates.specs.declared.reward_balances.Pairs.{Pairs}
use Rattle.rates.specs.Balances.{applied_balance, rewarded_balance, four, four_of}
use Rattle.rates.proofs.reward_balances.Only.{only-flag, only-penalty}
use Rattle.rates.proofs.reward_balances.Rewarded.{rewarded, not_rewarded}

-- four deltas as a list, and as a struct
as_struct : (a b c d : Checked Deltas) → bind a (λ x. bind b (λ y. bind c (λ z. bind d (λ w. value (x ∷ y ∷ z ∷ w ∷ []))))) ≡ bind (bind a (λ x. bind b (λ y. bind c (λ z. bind d (λ w. value (record { source = x; target = y; head = z; inactivity = w })))))) (λ (p : Pairs). value (four p))
unfolding bind
as_struct (value x) (value y) (value z) (value w) = refl
as_struct (value x) (value y) (value z) (refused r) = refl
as_struct (value x) (value y) (refused r) d = refl
as_struct (value x) (refused r) c d = refl
as_struct (refused r) b c d = refl

module _ (s : Settings) (quotient current previous : ℕ) (source target head : FlagTotals) (v : Validator) where
  abbrev pairs : Checked Pairs
  pairs = four_of s quotient current previous source target head v

  abbrev flag : ℕ → FlagTotals → Checked Deltas
  flag index t = flag_index_deltas s current previous index t v

  abbrev penalty : Checked Deltas
  penalty = inactivity_penalty_deltas s quotient current previous v

  pub only-four : OnlyOverflow pairs
  unfolding four_of
  only-four =
      only-bind (only-flag s current previous 0 source v) (λ a. only-bind (only-flag s current previous 1 target v) (λ b. only-bind (only-flag s current previous 2 head v) (λ c. only-bind (only-penalty s quotient current previous v) (λ d. only-value _))))

  pub deltas-four : all_deltas s quotient current previous source target head v ≡ bind pairs (λ p. value (four p))
  unfolding all_deltas four_of
  deltas-four = as_struct (flag 0 source) (flag 1 target) (flag 2 head) penalty

  pub balance-by : rewarded_balance s quotient current previous source target head v ≡ bind pairs (λ p. fold_checked applied_balance v.balance (four p))
  unfolding rewarded_balance bind
  balance-by = rw deltas-four (bind-bind pairs (λ p. value (four p)) (fold_checked applied_balance v.balance))

  pub pairs-refused : {p : Refusal} → pairs ≡ refused p → reward_and_penalize s quotient current previous source target head v ≡ refused p
  pairs-refused h = not_rewarded s quotient current previous source target head v (balance-by ∙ bind-refused (λ p. fold_checked applied_balance v.balance (four p)) h)

  module _ {p : Pairs} (h : pairs ≡ value p) where
    pub not_paid : {q : Refusal} → fold_checked applied_balance v.balance (four p) ≡ refused q → reward_and_penalize s quotient current previous source target head v ≡ refused q
    not_paid k = not_rewarded s quotient current previous source target head v (balance-by ∙ bind-value (λ p. fold_checked applied_balance v.balance (four p)) h ∙ k)

    pub paid : {x : ℕ} → fold_checked applied_balance v.balance (four p) ≡ value x → reward_and_penalize s quotient current previous source target head v ≡ value (with_balance x v)
    paid k = rewarded s quotient current previous source target head v (balance-by ∙ bind-value (λ p. fold_checked applied_balance v.balance (four p)) h ∙ k)
