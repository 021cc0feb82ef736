-- The churn limit reads who is active in the present epoch. An exit lies behind it, so that the limit stays while exits are made.
use mathlib.Core.Path.{◌≡◌, refl, sym, ap, ◌∙◌}
use mathlib.Core.Logic.{◌⊎◌, inl, inr, ⊎_elim}
use mathlib.Core.Bool.{Bool, true, false, cond}
use mathlib.Core.List.{List, [], ◌∷◌, map}
use Prim.Native.Nat.{ℕ, suc, ◌/◌, max, ◌<◌}
use native.Mathlib.Omega.{arith}
use borrow.Author.Tests.{lt-ltb}
use lib.Dec.{eqb}
use lib.ListN.{length, get_or, set}
use lib.Seq.{map-set_same}
use Rattle.definitions.specs.declared.Settings.{Settings}
use Rattle.definitions.specs.Lists.{filter}
use Rattle.definitions.specs.Record.{Validator, nobody, FAR_FUTURE_EPOCH}
use Rattle.definitions.specs.Updates.{with_exit}
use Rattle.definitions.specs.Checked.{value, bind, add64}
use Rattle.definitions.specs.Rust.Phase0.Helpers.{is_active_validator, get_current_epoch, get_active_validator_indices, get_validator_churn_limit, compute_activation_exit_epoch, exit_queue_epoch, initiate_validator_exit}
use Rattle.laws.proofs.Checked.{bound, value_same, add64-value, add64-below}
use Rattle.exit_queue.specs.Exits.{exit_at}
use Rattle.exit_queue.proofs.exits.Counts.{queued-late, Exited, exit_gave}
use Rattle.exit_queue.proofs.exits.Exits.{exit_by-numbers}

-- how many pass a test that reads f alone
count_map : {A B : Type 0} (f : A → B) (q : B → Bool) (xs : List A) → length (filter (λ x. q (f x)) xs) ≡ length (filter q (map f xs))
unfolding filter
count_map f q [] = refl
count_map {A} {B} f q (x ∷ xs) = go (q (f x)) (count_map f q xs)
  where
    go : (b : Bool) → length (filter (λ x. q (f x)) xs) ≡ length (filter q (map f xs)) → length (cond b (x ∷ filter (λ x. q (f x)) xs) (filter (λ x. q (f x)) xs)) ≡ length (cond b (f x ∷ filter q (map f xs)) (filter q (map f xs)))
    go true h = ap suc h
    go false h = h

pub count_by : {A B : Type 0} (f : A → B) (q : B → Bool) (xs ys : List A) → map f ys ≡ map f xs → length (filter (λ x. q (f x)) ys) ≡ length (filter (λ x. q (f x)) xs)
count_by {A} {B} f q xs ys h = count_map f q ys ∙ ap (λ (zs : List B). length (filter q zs)) h ∙ sym (count_map f q xs)

module _ (s : Settings) (state_slot : ℕ) where
  abbrev present : ℕ
  present = get_current_epoch s state_slot

  abbrev pub limit_of : List Validator → ℕ
  limit_of vs = get_validator_churn_limit s state_slot vs

  abbrev pub active : Validator → Bool
  active v = is_active_validator v present

  pub limit-by : (vs ws : List Validator) → map active ws ≡ map active vs → limit_of ws ≡ limit_of vs
  unfolding get_validator_churn_limit get_active_validator_indices
  limit-by vs ws h = ap (λ (n : ℕ). max s.min_per_epoch_churn_limit (n / s.churn_limit_quotient)) (count_by active (λ b. b) vs ws h)

  exited-active : (exit withdrawable : ℕ) (v : Validator) → v.exit_epoch ≡ FAR_FUTURE_EPOCH → present < exit → present < FAR_FUTURE_EPOCH → active (with_exit exit withdrawable v) ≡ active v
  unfolding is_active_validator
  exited-active exit withdrawable v f l k = rw (f, lt-ltb present exit l, lt-ltb present FAR_FUTURE_EPOCH k)

  later : {least : ℕ} → compute_activation_exit_epoch s present ≡ value least → (present < least) × (present < FAR_FUTURE_EPOCH)
  unfolding compute_activation_exit_epoch
  later p =
      let a = bound _ _ p in
      let n = add64-value _ _ a.gave in
      (omega (arith, n, add64-value _ _ a.then), omega (arith, add64-below _ _ a.gave))

  -- an exit by numbers
  pub record ByNumbers (vs : List Validator) (i : ℕ) (ws : List Validator) : Type 0 where
    pub least : ℕ
    pub first : compute_activation_exit_epoch s present ≡ value least
    pub gave : exit_at least (limit_of vs) s.min_validator_withdrawability_delay vs i ≡ value ws

  -- an exit did nothing, or had the epoch from which exits start
  pub by-numbers : (vs : List Validator) (i : ℕ) {ws : List Validator} → initiate_validator_exit s state_slot vs i ≡ value ws → (ws ≡ vs) ⊎ ByNumbers vs i ws
  unfolding initiate_validator_exit exit_queue_epoch
  by-numbers vs i {ws} p = go (eqb (get_or vs i nobody).exit_epoch FAR_FUTURE_EPOCH) p
    where
      v : Validator
      v = get_or vs i nobody

      go : (b : Bool) → cond b (bind (exit_queue_epoch s state_slot vs) (λ exit. bind (add64 exit s.min_validator_withdrawability_delay) (λ withdrawable. value (set vs i (with_exit exit withdrawable v))))) (value vs) ≡ value ws → (ws ≡ vs) ⊎ ByNumbers vs i ws
      go true q = let a = bound _ _ q in let b = bound _ _ a.gave in inr (record { least = b.first; first = b.gave; gave = sym (exit_by-numbers s state_slot vs i b.gave refl) ∙ p })
      go false q = inl (sym (value_same q))

  pub limit-exit : (vs : List Validator) (i : ℕ) {ws : List Validator} → initiate_validator_exit s state_slot vs i ≡ value ws → limit_of ws ≡ limit_of vs
  limit-exit vs i {ws} p = ⊎_elim (λ q. ap limit_of q) (λ n. ⊎_elim (λ q. ap limit_of q) (written n) (exit_gave n.least (limit_of vs) _ vs i n.gave)) (by-numbers vs i p)
    where
      written : (n : ByNumbers vs i ws) → Exited n.least (limit_of vs) vs i ws → limit_of ws ≡ limit_of vs
      written n w =
          let k = later n.first in
          ap limit_of w.is
          ∙ limit-by vs (set vs i (with_exit w.exit w.withdrawable (get_or vs i nobody)))
          (map-set_same active vs i _ nobody (exited-active w.exit w.withdrawable (get_or vs i nobody) w.far (omega (arith, k.0, queued-late n.least (limit_of vs) vs w.queued)) k.1))
