-- The loop over the opening's validators is refused where the text's is, leaves them as the text does, ends at the same deposit and has processed as
-- much: what a new validator holds is at most what was processed, so that its balance never leaves 64 bits.
use mathlib.Core.Path.{◌≡◌, refl, sym, ap, ◌∙◌}
use mathlib.Core.Bool.{Bool, true, false, cond, ◌&&◌}
use mathlib.Core.List.{List, [], ◌∷◌}
use Prim.Native.Nat.{ℕ, ◌+◌, ◌^◌, ◌≤◌, ◌<◌}
use native.Mathlib.Omega.{arith}
use borrow.Author.Tests.{lt-ltb, le-ltb}
use lib.Dec.{ltb, eqb}
use lib.ListN.{length, get_or, set, length-set, get_or-append, get_or-eq_default}
use lib.Seq.{get_or-set_same, get_or-set_other}
use Rattle.definitions.specs.Lists.{range}
use Rattle.definitions.specs.Record.{Validator, FAR_FUTURE_EPOCH, nobody}
use Rattle.definitions.specs.Updates.{with_balance}
use Rattle.definitions.specs.Checked.{value, bind, add64}
use Rattle.definitions.specs.Rust.Phase0.Helpers.{increase_balance}
use Rattle.laws.proofs.Checked.{bound, value_same, add64-value, add64-below}
use Rattle.definitions_electra.specs.declared.ElectraRules.{ElectraRules}
use Rattle.definitions_electra.specs.declared.PendingDeposit.{PendingDeposit}
use Rattle.definitions_electra.specs.Loops.{fold_until_checked}
use Rattle.definitions_electra.specs.Record.{Registry}
use Rattle.definitions_electra.specs.Document.Electra.EpochProcessing.{Queueing, Processing, get_validator_from_deposit, add_validator_to_registry, is_known, place_in, put_validator, is_withdrawn, is_exited, moved_on, breaks_before, deposits_stop}
use Rattle.definitions_electra.specs.Evaluated.Electra.EpochProcessing.{apply_pending_deposit, process_deposit}
use Rattle.electra_deposits.specs.Alone.{tested_at, raised, Running, onward, turn, stops}
use Rattle.laws_electra.proofs.Cases.{same_or, less_or, test_or}
use Rattle.electra_deposits.proofs.Alike.{Alike, alike-value, alike-bind, alike-given, alike-cond}
use Rattle.electra_deposits.proofs.Postponed.{Kept, kept-none, kept_put, kept-apply, set_case, more_case}

-- the opening's validators, and the text's registry, in which the new ones hold at most `most`
pub record Pair (n : ℕ) (vs₀ : List Validator) (most : ℕ) (a : List Validator) (b : Registry) : Type 0 where
  pub alone : length a ≡ n
  pub kept : Kept n vs₀ b
  pub same : (j : ℕ) → j < n → get_or a j nobody ≡ get_or b.validators j nobody
  pub low : (j : ℕ) → n ≤ j → (get_or b.validators j nobody).balance ≤ most

module _ {n : ℕ} {vs₀ : List Validator} where
  more : {m k : ℕ} {a : List Validator} {b : Registry} → Pair n vs₀ m a b → m ≤ k → Pair n vs₀ k a b
  more h l = record { alone = h.alone; kept = h.kept; same = h.same; low = λ j b. omega (arith, l, h.low j b) }

  -- a key of the opening
  module _ (r : ElectraRules) {most : ℕ} {a : List Validator} {b : Registry} (h : Pair n vs₀ most a b) (d : PendingDeposit) (l : d.pubkey < n) where
    known : is_known b d ≡ true
    known = rw (h.kept.old-keys d.pubkey l) (lt-ltb d.pubkey (length b.pubkeys) (omega (arith, l, h.kept.least)))

    inside : d.pubkey < length b.validators
    inside = omega (arith, l, h.kept.least, h.kept.long)

    -- the same test of the same validator
    pub same_test : (f : Validator → Bool) → tested_at f a d.pubkey ≡ (is_known b d && f (get_or b.validators (place_in b d) nobody))
    same_test f = rw (known, h.kept.old-keys d.pubkey l, ← h.same d.pubkey l, h.alone, lt-ltb d.pubkey n l)

    put : (w : Validator) → increase_balance (get_or b.validators d.pubkey nobody) d.amount ≡ value w → Pair n vs₀ most (set a d.pubkey w) (put_validator b d.pubkey w)
    unfolding increase_balance
    put w e =
        let z = value_same (bound _ _ e).then in
        record {
          alone = length-set a d.pubkey w ∙ h.alone;
          kept = kept_put h.kept d.pubkey w inside (rw (← z)) (rw (← z));
          same = λ j k. same_or d.pubkey j (λ i. rw (← i, get_or-set_same a d.pubkey w nobody (omega (arith, l, h.alone)), get_or-set_same b.validators d.pubkey w nobody inside)) (λ i. rw (get_or-set_other a d.pubkey j w nobody (λ x. i (sym x)), get_or-set_other b.validators d.pubkey j w nobody (λ x. i (sym x))) (h.same j k));
          low = λ j k. rw (get_or-set_other b.validators d.pubkey j w nobody (λ z. omega (arith, z, k, l))) (h.low j k);
        }

    pub apply-old : Alike (Pair n vs₀ most) (raised a d) (apply_pending_deposit r b d)
    unfolding apply_pending_deposit raised
    apply-old =
        rw (known, h.kept.old-keys d.pubkey l, h.alone, lt-ltb d.pubkey n l, h.same d.pubkey l)
        (alike-given (increase_balance (get_or b.validators d.pubkey nobody) d.amount) _ _ (λ w e. alike-value (put w e)))

  -- another key
  module _ (r : ElectraRules) {most : ℕ} {a : List Validator} {b : Registry} (h : Pair n vs₀ most a b) (d : PendingDeposit) (l : n ≤ d.pubkey) where
    stranger : ltb d.pubkey (length a) ≡ false
    stranger = le-ltb d.pubkey (length a) (omega (arith, l, h.alone))

    pub untested : (f : Validator → Bool) → tested_at f a d.pubkey ≡ false
    untested f = rw stranger

    -- neither withdrawn nor exiting
    pub fresh : (f : Validator → Bool) → ((j : ℕ) → n ≤ j → j < length b.pubkeys → f (get_or b.validators j nobody) ≡ false) → (is_known b d && f (get_or b.validators (place_in b d) nobody)) ≡ false
    fresh f z =
        less_or (place_in b d) (length b.pubkeys) (λ e. rw (lt-ltb (place_in b d) (length b.pubkeys) e) (z (place_in b d) (h.kept.new-keys d.pubkey l) e))
        (λ e. rw (le-ltb (place_in b d) (length b.pubkeys) e))

    raised-alone : raised a d ≡ value a
    unfolding raised
    raised-alone = rw stranger

    paired : {reg : Registry} → apply_pending_deposit r b d ≡ value reg → ((j : ℕ) → j < n → get_or reg.validators j nobody ≡ get_or b.validators j nobody) → ((j : ℕ) → n ≤ j → (get_or reg.validators j nobody).balance ≤ most + d.amount) → Alike (Pair n vs₀ (most + d.amount)) (value a) (apply_pending_deposit r b d)
    paired e s low = rw e (alike-value (record { alone = h.alone; kept = kept-apply h.kept r d e; same = λ j k. h.same j k ∙ sym (s j k); low = low }))

    module _ (small : most + d.amount < 2 ^ 64) where
      -- a new validator's place, and what it holds with the amount
      behind : n ≤ place_in b d
      behind = h.kept.new-keys d.pubkey l

      fits : (get_or b.validators (place_in b d) nobody).balance + d.amount ≤ most + d.amount
      fits = omega (arith, h.low (place_in b d) behind)

      abbrev grown : Validator
      grown = with_balance ((get_or b.validators (place_in b d) nobody).balance + d.amount) (get_or b.validators (place_in b d) nobody)

      applied-known : place_in b d < length b.pubkeys → apply_pending_deposit r b d ≡ value (put_validator b (place_in b d) grown)
      unfolding apply_pending_deposit increase_balance add64 bind
      applied-known e = rw (lt-ltb (place_in b d) (length b.pubkeys) e, lt-ltb ((get_or b.validators (place_in b d) nobody).balance + d.amount) (2 ^ 64) (omega (arith, fits, small)))

      applied-new : length b.pubkeys ≤ place_in b d → {t : Bool} → eqb d.valid 1 ≡ t → apply_pending_deposit r b d ≡ value (cond t (add_validator_to_registry r b d) b)
      unfolding apply_pending_deposit
      applied-new e f = rw (le-ltb (place_in b d) (length b.pubkeys) e, f)

      front : (j : ℕ) → j < n → get_or (add_validator_to_registry r b d).validators j nobody ≡ get_or b.validators j nobody
      unfolding add_validator_to_registry
      front j k = get_or-append b.validators (get_validator_from_deposit r d ∷ []) nobody j (omega (arith, k, h.kept.least, h.kept.long))

      added-low : (j : ℕ) → n ≤ j → (get_or (add_validator_to_registry r b d).validators j nobody).balance ≤ most + d.amount
      unfolding add_validator_to_registry get_validator_from_deposit
      added-low j k = more_case (λ v. v.balance ≤ most + d.amount) b.validators (get_validator_from_deposit r d) j (λ l. omega (arith, h.low j k)) (λ q. omega arith) (λ q. omega arith)

      apply-new : Alike (Pair n vs₀ (most + d.amount)) (value a) (apply_pending_deposit r b d)
      apply-new =
          less_or (place_in b d) (length b.pubkeys)
          (λ e. paired (applied-known e) (λ j k. get_or-set_other b.validators (place_in b d) j grown nobody (λ z. omega (arith, z, k, behind)))
          (λ j k. set_case (λ v. v.balance ≤ most + d.amount) b.validators (place_in b d) grown j (λ q. omega (arith, e, h.kept.long)) (λ q. fits) (λ q. omega (arith, h.low j k))))
          (λ e. test_or (eqb d.valid 1) (λ f. paired (applied-new e f) front added-low) (λ f. rw (applied-new e f) (alike-value (more h (omega arith)))))

    pub apply-fresh : {k : ℕ} → add64 most d.amount ≡ value k → Alike (Pair n vs₀ k) (raised a d) (apply_pending_deposit r b d)
    apply-fresh e = rw (← add64-value most d.amount e, raised-alone) (apply-new (add64-below most d.amount e))

  pub pair-start : (cs : List ℕ) → length vs₀ ≡ n → length cs ≡ n → Pair n vs₀ 0 vs₀ (record { validators = vs₀; pubkeys = range 0 n; compounding = cs })
  pair-start cs l m =
      record { alone = l; kept = kept-none n vs₀ cs l m; same = λ j b. refl; low = λ j b. (let e : get_or vs₀ j nobody ≡ nobody = get_or-eq_default vs₀ nobody (omega arith) in rw e (omega arith)) }

-- The loop's variables
pub record Twin (n : ℕ) (vs₀ : List Validator) (p : Running) (s : Processing) : Type 0 where
  pub pair : Pair n vs₀ s.processed_amount p.validators s.registry
  pub processed : p.processed ≡ s.processed_amount
  pub index : p.index ≡ s.next_deposit_index
  pub reached : p.reached ≡ s.is_churn_limit_reached

module _ (r : ElectraRules) (q : Queueing) (far : q.next_epoch ≤ FAR_FUTURE_EPOCH) {n : ℕ} {vs₀ : List Validator} where
  module _ {p : Running} {s : Processing} (h : Twin n vs₀ p s) (x : PendingDeposit) where
    moved : {a : List Validator} {b : Registry} {k : ℕ} {ws : List PendingDeposit} → Pair n vs₀ k a b → Twin n vs₀ (onward a k p) (moved_on b k ws s)
    moved g = record { pair = g; processed = refl; index = ap (λ (k : ℕ). k + 1) h.index; reached = refl }

    turn-old : x.pubkey < n → Alike (Twin n vs₀) (turn q p x) (process_deposit r q s x)
    unfolding process_deposit turn
    turn-old l =
        rw h.processed
        (alike-cond _ _ (same_test r h.pair x l (λ v. ltb v.withdrawable_epoch q.next_epoch))
        (alike-bind _ _ (apply-old r h.pair x l) (λ a b g. alike-value (moved g)))
        (alike-cond _ _ (same_test r h.pair x l (λ v. ltb v.exit_epoch FAR_FUTURE_EPOCH))
        (alike-value (moved h.pair))
        (alike-given (add64 s.processed_amount x.amount) _ _ (λ k e.
        alike-cond (ltb q.available k) (ltb q.available k) refl (alike-value (record { pair = h.pair; processed = refl; index = h.index; reached = refl }))
        (alike-bind _ _ (apply-old r h.pair x l) (λ a b g. alike-value (moved (more g (omega (arith, add64-value s.processed_amount x.amount e))))))))))

    turn-new : n ≤ x.pubkey → Alike (Twin n vs₀) (turn q p x) (process_deposit r q s x)
    unfolding process_deposit turn
    turn-new l =
        let kept = h.pair.kept in
        let w : is_withdrawn q s.registry x ≡ false = fresh r h.pair x l (λ v. ltb v.withdrawable_epoch q.next_epoch) (λ j a b. rw (kept.news_too j a b) (le-ltb FAR_FUTURE_EPOCH q.next_epoch far)) in
        let e : is_exited s.registry x ≡ false = fresh r h.pair x l (λ v. ltb v.exit_epoch FAR_FUTURE_EPOCH) (λ j a b. rw (kept.news j a b) (le-ltb FAR_FUTURE_EPOCH FAR_FUTURE_EPOCH (omega arith))) in
        rw (h.processed, w, e, untested r h.pair x l (λ v. ltb v.withdrawable_epoch q.next_epoch), untested r h.pair x l (λ v. ltb v.exit_epoch FAR_FUTURE_EPOCH))
        (alike-given (add64 s.processed_amount x.amount) _ _ (λ k e.
        alike-cond (ltb q.available k) (ltb q.available k) refl (alike-value (record { pair = h.pair; processed = refl; index = h.index; reached = refl }))
        (alike-bind _ _ (apply-fresh r h.pair x l e) (λ a b g. alike-value (moved g)))))

    turn-twin : Alike (Twin n vs₀) (turn q p x) (process_deposit r q s x)
    turn-twin = less_or x.pubkey n turn-old turn-new

    stops-twin : stops r.electra.max_pending_deposits_per_epoch q p x ≡ deposits_stop r q s x
    unfolding deposits_stop breaks_before stops
    stops-twin = rw (h.reached, h.index)

  pub loop-twin : {p : Running} {s : Processing} → Twin n vs₀ p s → (xs : List PendingDeposit) → Alike (Twin n vs₀) (fold_until_checked (stops r.electra.max_pending_deposits_per_epoch q) (turn q) p xs) (fold_until_checked (deposits_stop r q) (process_deposit r q) s xs)
  unfolding fold_until_checked
  loop-twin h [] = alike-value h
  loop-twin h (x ∷ xs) = alike-cond _ _ (stops-twin h x) (alike-value h) (alike-bind _ _ (turn-twin h x) (λ a b g. loop-twin g xs))
