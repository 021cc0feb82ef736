-- Rewards and penalties change the balance, and nothing else of a validator.
use mathlib.Core.Bool.{cond}
use mathlib.Core.List.{List, [], ◌∷◌}
use mathlib.Core.Path.{◌≡◌, refl}
use Prim.Native.Nat.{ℕ, ◌-◌}
use lib.Dec.{ltb}
use lib.ListN.{length, set}
use Rattle.definitions.specs.declared.Deltas.{Deltas}
use Rattle.definitions.specs.declared.Settings.{Settings}
use Rattle.definitions.specs.Checked.{Checked, value, refused, bind, add64, fold_checked}
use Rattle.definitions.specs.declared.Refusal.{Refusal}
use Rattle.definitions.specs.Record.{Validator, decode_one, encode_one}
use Rattle.definitions.specs.Updates.{with_balance}
use Rattle.definitions.specs.Rust.Phase0.Helpers.{increase_balance, decrease_balance}
use Rattle.definitions.specs.Rust.Altair.Helpers.{FlagTotals}
use Rattle.definitions.specs.Rust.Altair.EpochProcessing.{apply_delta, all_deltas, reward_and_penalize}
use Rattle.laws.proofs.Encode.{ten}
use Rattle.rates.specs.Balances.{applied_balance, rewarded_balance}

-- a validator v whose balance is x
apply-one : (x : ℕ) (v : Validator) (d : Deltas) → apply_delta (with_balance x v) d ≡ bind (applied_balance x d) (λ y. value (with_balance y v))
unfolding apply_delta increase_balance decrease_balance applied_balance bind
apply-one x v d = go (add64 x d.reward)
  where
    go : (m : Checked ℕ) → bind (bind m (λ raised. value (with_balance raised v))) (λ w. value (decrease_balance w d.penalty)) ≡ bind (bind m (λ raised. value (cond (ltb raised d.penalty) 0 (raised - d.penalty)))) (λ y. value (with_balance y v))
    go (value raised) = refl
    go (refused r) = refl

apply-all : (x : ℕ) (v : Validator) (ds : List Deltas) → fold_checked apply_delta (with_balance x v) ds ≡ bind (fold_checked applied_balance x ds) (λ y. value (with_balance y v))
unfolding fold_checked bind
apply-all x v [] = refl
apply-all x v (d ∷ ds) = rw (apply-one x v d) (go (applied_balance x d) (λ y. apply-all y v ds))
  where
    go : (m : Checked ℕ) → ((y : ℕ) → fold_checked apply_delta (with_balance y v) ds ≡ bind (fold_checked applied_balance y ds) (λ z. value (with_balance z v))) → bind (bind m (λ y. value (with_balance y v))) (λ w. fold_checked apply_delta w ds) ≡ bind (bind m (λ y. fold_checked applied_balance y ds)) (λ z. value (with_balance z v))
    go (value y) h = h y
    go (refused r) h = refl

module _ (s : Settings) (quotient current_epoch previous_epoch : ℕ) (source target head : FlagTotals) (v : Validator) where
  only-balance : reward_and_penalize s quotient current_epoch previous_epoch source target head v ≡ bind (rewarded_balance s quotient current_epoch previous_epoch source target head v) (λ x. value (with_balance x v))
  unfolding reward_and_penalize rewarded_balance bind
  only-balance = go (all_deltas s quotient current_epoch previous_epoch source target head v)
    where
      go : (m : Checked (List Deltas)) → bind m (fold_checked apply_delta v) ≡ bind (bind m (fold_checked applied_balance v.balance)) (λ x. value (with_balance x v))
      go (refused r) = refl
      go (value ds) = apply-all v.balance v ds

  pub rewarded : {x : ℕ} → rewarded_balance s quotient current_epoch previous_epoch source target head v ≡ value x → reward_and_penalize s quotient current_epoch previous_epoch source target head v ≡ value (with_balance x v)
  unfolding bind
  rewarded h = rw (only-balance, h)

  pub not_rewarded : {p : Refusal} → rewarded_balance s quotient current_epoch previous_epoch source target head v ≡ refused p → reward_and_penalize s quotient current_epoch previous_epoch source target head v ≡ refused p
  unfolding bind
  not_rewarded h = rw (only-balance, h)

-- the balance stored
pub put-balance : (e : List ℕ) (x : ℕ) → length e ≡ 10 → set e 6 x ≡ encode_one (with_balance x (decode_one e))
put-balance e x h = rw (ten e h)
