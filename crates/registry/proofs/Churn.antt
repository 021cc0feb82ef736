-- The churn limit does not change during the step: the epochs that are written lie above the present one, so that who is active now stays
-- active now, with the same effective balance. So the limit that is worked out before the loop is the one that each exit and the
-- activation read.
use mathlib.Core.Logic.{⊎_elim}
use mathlib.Core.Path.{◌≡◌, refl, sym, ap, ◌∙◌}
use mathlib.Core.Bool.{Bool, true, false, cond}
use mathlib.Core.List.{List, [], ◌∷◌, map}
use Prim.Native.Nat.{ℕ, zero, suc, ◌+◌, ◌/◌, ◌^◌, max, ◌<◌}
use native.Mathlib.Omega.{arith}
use borrow.Author.Tests.{lt-ltb}
use lib.ListN.{length, get_or, set, length-map}
use Rattle.definitions.specs.Lists.{filter}
use Rattle.definitions.specs.declared.Settings.{Settings}
use Rattle.definitions.specs.Record.{Validator, FAR_FUTURE_EPOCH, nobody}
use Rattle.definitions.specs.Updates.{with_eligibility, with_exit}
use Rattle.definitions.specs.Checked.{Checked, value, refused, bind, fold_checked}
use Rattle.definitions.specs.Document.Phase0.Helpers.{is_eligible_for_activation_queue, get_active_validator_indices}
use Rattle.definitions.specs.Document.Phase0.EpochProcessing.{queue_eligible, is_ejected}
use Rattle.definitions.specs.Rust.Phase0.Helpers.{is_active_validator, get_current_epoch, compute_activation_exit_epoch, get_validator_churn_limit}
use Rattle.definitions.specs.Rust.Phase0.EpochProcessing.{update_registry_at}
use Rattle.laws.proofs.Checked.{bound, value_same}
use Rattle.exit_queue.specs.Exits.{exit_at}
use Rattle.exit_queue.proofs.exits.Counts.{queued-late, Exited, exit_gave}
use Rattle.exit_queue.proofs.exits.Exits.{exit_by-numbers}
use Rattle.registry.specs.Updates.{update_at}

-- one element is set, to one that p and f tell nothing new of
column-kept : {A : Type 0} (p : A → Bool) (f : A → ℕ) (vs : List A) (i : ℕ) (d u : A) → p u ≡ p (get_or vs i d) → f u ≡ f (get_or vs i d) → map f (filter p (set vs i u)) ≡ map f (filter p vs)
unfolding filter
column-kept p f [] i d u h k = refl
column-kept p f (v ∷ vs) zero d u h k = rw h (go (p v))
  where
    go : (t : Bool) → map f (cond t (u ∷ filter p vs) (filter p vs)) ≡ map f (cond t (v ∷ filter p vs) (filter p vs))
    go true = ap (λ (x : ℕ). x ∷ map f (filter p vs)) k
    go false = refl
column-kept p f (v ∷ vs) (suc i) d u h k = go (p v) (column-kept p f vs i d u h k)
  where
    go : (t : Bool) → map f (filter p (set vs i u)) ≡ map f (filter p vs) → map f (cond t (v ∷ filter p (set vs i u)) (filter p (set vs i u))) ≡ map f (cond t (v ∷ filter p vs) (filter p vs))
    go true h = ap (λ (xs : List ℕ). f v ∷ xs) h
    go false h = h

eligible-active : (s : Settings) (epoch : ℕ) (v : Validator) → is_active_validator (queue_eligible s epoch v) epoch ≡ is_active_validator v epoch
unfolding is_active_validator queue_eligible
eligible-active s epoch v = go (is_eligible_for_activation_queue s v)
  where
    go : (t : Bool) → unfold is_active_validator in (is_active_validator (cond t (with_eligibility (epoch + 1) v) v) epoch ≡ is_active_validator v epoch)
    go true = refl
    go false = refl

exited-active : (epoch exit withdrawable : ℕ) (v : Validator) → v.exit_epoch ≡ FAR_FUTURE_EPOCH → epoch < exit → epoch < 2 ^ 48 → is_active_validator (with_exit exit withdrawable v) epoch ≡ is_active_validator v epoch
unfolding is_active_validator
exited-active epoch exit withdrawable v f l k = rw (f, lt-ltb epoch exit l, lt-ltb epoch FAR_FUTURE_EPOCH (omega arith))

eligible-balance : (s : Settings) (epoch : ℕ) (v : Validator) → (queue_eligible s epoch v).effective_balance ≡ v.effective_balance
unfolding queue_eligible
eligible-balance s epoch v = go (is_eligible_for_activation_queue s v)
  where
    go : (t : Bool) → (cond t (with_eligibility (epoch + 1) v) v).effective_balance ≡ v.effective_balance
    go true = refl
    go false = refl

module _ (s : Settings) (state_slot : ℕ) where
  abbrev limit_of : List Validator → ℕ
  limit_of vs = get_validator_churn_limit s state_slot vs

  abbrev epoch_of : ℕ
  epoch_of = get_current_epoch s state_slot

  -- what churn limit and total active balance read: the effective balances of who is active now
  abbrev pub active_of : List Validator → List ℕ
  active_of vs = map (λ v. v.effective_balance) (filter (λ v. is_active_validator v epoch_of) vs)

  limit-by : (vs ws : List Validator) → active_of ws ≡ active_of vs → limit_of ws ≡ limit_of vs
  unfolding get_validator_churn_limit get_active_validator_indices
  limit-by vs ws h =
      let balance : Validator → ℕ = λ v. v.effective_balance in
      let actives : List Validator → List Validator = filter (λ v. is_active_validator v epoch_of) in
      let n = sym (length-map (actives ws) balance) ∙ ap length h ∙ length-map (actives vs) balance in
      ap (λ (t : ℕ). max s.min_per_epoch_churn_limit (t / s.churn_limit_quotient)) n

  active-set : (vs : List Validator) (i : ℕ) (v : Validator) → is_active_validator v epoch_of ≡ is_active_validator (get_or vs i nobody) epoch_of → v.effective_balance ≡ (get_or vs i nobody).effective_balance → active_of (set vs i v) ≡ active_of vs
  active-set vs i v h k = column-kept (λ u. is_active_validator u epoch_of) (λ u. u.effective_balance) vs i nobody v h k

  module _ {least : ℕ} (e : compute_activation_exit_epoch s epoch_of ≡ value least) (small : epoch_of < 2 ^ 48) (late : epoch_of < least) where
    active-exit : (limit delay : ℕ) (vs : List Validator) (i : ℕ) {ws : List Validator} → exit_at least limit delay vs i ≡ value ws → active_of ws ≡ active_of vs
    active-exit limit delay vs i {ws} q = ⊎_elim (λ e. ap active_of e) written (exit_gave least limit delay vs i q)
      where
        written : Exited least limit vs i ws → active_of ws ≡ active_of vs
        written w =
            let l : epoch_of < w.exit = omega (arith, queued-late least limit vs w.queued) in
            ap active_of w.is ∙ active-set vs i _ (exited-active epoch_of w.exit w.withdrawable (get_or vs i nobody) w.far l small) refl

    active-eligible : (vs : List Validator) (i : ℕ) → active_of (set vs i (queue_eligible s epoch_of (get_or vs i nobody))) ≡ active_of vs
    active-eligible vs i = active-set vs i _ (eligible-active s epoch_of (get_or vs i nobody)) (eligible-balance s epoch_of (get_or vs i nobody))

    active_update : (limit : ℕ) (vs : List Validator) (i : ℕ) {ws : List Validator} → update_at s epoch_of least limit vs i ≡ value ws → active_of ws ≡ active_of vs
    unfolding update_at
    active_update limit vs i {ws} q = go (is_ejected s epoch_of (get_or queued i nobody)) q ∙ active-eligible vs i
      where
        queued : List Validator
        queued = set vs i (queue_eligible s epoch_of (get_or vs i nobody))

        go : (t : Bool) → cond t (exit_at least limit s.min_validator_withdrawability_delay queued i) (value queued) ≡ value ws → active_of ws ≡ active_of queued
        go true q = active-exit limit s.min_validator_withdrawability_delay queued i q
        go false q = ap active_of (sym (value_same q))

    update_by_numbers : (vs : List Validator) (i : ℕ) {limit : ℕ} → limit_of vs ≡ limit → update_registry_at s state_slot vs i ≡ update_at s epoch_of least limit vs i
    unfolding update_registry_at update_at
    update_by_numbers vs i h = rw (exit_by-numbers s state_slot (set vs i (queue_eligible s epoch_of (get_or vs i nobody))) i e (limit-by vs _ (active-eligible vs i) ∙ h))

    -- The loop

    pub updates_by-numbers : (vs : List Validator) {limit : ℕ} → limit_of vs ≡ limit → (is : List ℕ) → fold_checked (update_registry_at s state_slot) vs is ≡ fold_checked (update_at s epoch_of least limit) vs is
    unfolding fold_checked bind
    updates_by-numbers vs h [] = refl
    updates_by-numbers vs {limit} h (i ∷ is) = rw (update_by_numbers vs i h) (go (update_at s epoch_of least limit vs i) refl (λ ws k. updates_by-numbers ws k is))
      where
        go : (m : Checked (List Validator)) → update_at s epoch_of least limit vs i ≡ m → ((ws : List Validator) → limit_of ws ≡ limit → fold_checked (update_registry_at s state_slot) ws is ≡ fold_checked (update_at s epoch_of least limit) ws is) → bind m (λ ws. fold_checked (update_registry_at s state_slot) ws is) ≡ bind m (λ ws. fold_checked (update_at s epoch_of least limit) ws is)
        go (value ws) q k = k ws (limit-by vs ws (active_update limit vs i q) ∙ h)
        go (refused p) q k = refl

    pub active-kept : (limit : ℕ) (vs : List Validator) (is : List ℕ) {ws : List Validator} → fold_checked (update_at s epoch_of least limit) vs is ≡ value ws → active_of ws ≡ active_of vs
    unfolding fold_checked
    active-kept limit vs [] q = ap active_of (sym (value_same q))
    active-kept limit vs (i ∷ is) q =
        let a = bound (update_at s epoch_of least limit vs i) _ q in
        active-kept limit a.first is a.then ∙ active_update limit vs i a.gave

    pub limit-kept : (limit : ℕ) (vs : List Validator) (is : List ℕ) {ws : List Validator} → fold_checked (update_at s epoch_of least limit) vs is ≡ value ws → limit_of ws ≡ limit_of vs
    limit-kept limit vs is {ws} q = limit-by vs ws (active-kept limit vs is q)
