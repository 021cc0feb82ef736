-- Those whom the text's loop adds, behind any n validators: the deposits that were done with keys from n on, applied one after the other.
use mathlib.Core.Path.{◌≡◌, refl, sym, ap, ◌∙◌}
use mathlib.Core.Bool.{true, false}
use mathlib.Core.List.{List, [], ◌∷◌, ◌++◌, append_assoc}
use Prim.Native.Nat.{ℕ, suc, ◌+◌, ◌-◌, ◌≤◌, ◌<◌}
use native.Mathlib.Omega.{arith}
use borrow.Author.Tests.{lt-ltb, le-ltb, ltb-true}
use lib.Dec.{ltb, eqb}
use lib.ListN.{length, get_or, take, drop, set}
use lib.Seq.{drop-set-lt, drop-set-add, drop-append-le, get_or-drop, get_or-append-add, take-nil}
use Rattle.definitions.specs.Record.{Validator, nobody}
use Rattle.definitions.specs.Checked.{value, bind}
use Rattle.definitions.specs.Rust.Phase0.Helpers.{increase_balance}
use Rattle.laws.proofs.Checked.{bound, value_same}
use Rattle.definitions_electra.specs.declared.ElectraRules.{ElectraRules}
use Rattle.definitions_electra.specs.declared.PendingDeposit.{PendingDeposit}
use Rattle.laws.proofs.Tests.{both}
use Rattle.definitions_electra.specs.Loops.{fold_until_checked}
use Rattle.definitions_electra.specs.Record.{Registry}
use Rattle.definitions_electra.specs.Document.Electra.EpochProcessing.{Queueing, Processing, get_validator_from_deposit, add_validator_to_registry, is_known, place_in, put_validator, is_withdrawn, is_exited, moved_on, limit_reached, deposits_stop}
use Rattle.definitions_electra.specs.Evaluated.Electra.EpochProcessing.{apply_pending_deposit, process_deposit}
use Rattle.electra_deposits.specs.Alone.{is_postponed}
use Rattle.electra_deposits.specs.Room.{joins, joined}
use Rattle.laws_electra.proofs.Cases.{less_or, test_or, whichever}
use Rattle.electra_deposits.proofs.Alike.{apart}
use Rattle.electra_deposits.proofs.Postponed.{Kept, postponed-is, turn-went, left-full, loop-done}

-- vs in place of the first n validators
abbrev pub behind : ℕ → List Validator → Registry → Registry
behind n vs reg = record { validators = vs ++ drop n reg.validators; pubkeys = reg.pubkeys; compounding = reg.compounding }

set-behind : {A : Type 0} (xs ys : List A) (i : ℕ) (a : A) → set (xs ++ ys) (length xs + i) a ≡ xs ++ set ys i a
set-behind {A} [] ys i a = let e : 0 + i ≡ i = omega arith in rw e
set-behind {A} (x ∷ xs) ys i a =
    let e : suc (length xs) + i ≡ suc (length xs + i) = omega arith in
    rw e (ap (λ (t : List A). x ∷ t) (set-behind xs ys i a))

-- postponed: a key of the opening's
postponed-old : (n next : ℕ) (vs : List Validator) (d : PendingDeposit) → is_postponed n next vs d ≡ true → d.pubkey < n
unfolding is_postponed
postponed-old n next vs d z = ltb-true d.pubkey n (both (ltb d.pubkey n) _ z).0

module _ {n : ℕ} (vs : List Validator) (long : length vs ≡ n) (r : ElectraRules) where
  module _ {vs₀ : List Validator} {reg : Registry} (h : Kept n vs₀ reg) (d : PendingDeposit) where
    -- a key of the opening's: what is behind stays
    put_front : (w : Validator) (i : ℕ) → i < n → behind n vs (put_validator reg i w) ≡ behind n vs reg
    put_front w i l = rw (drop-set-lt n reg.validators i w l)

    module _ (i : ℕ) (l : n ≤ i) where
      at : n + (i - n) ≡ i
      at = omega arith

      get_behind : get_or (vs ++ drop n reg.validators) i nobody ≡ get_or reg.validators i nobody
      get_behind =
          let e : length vs + (i - n) ≡ i = omega (arith, at) in
          ap (λ (j : ℕ). get_or (vs ++ drop n reg.validators) j nobody) (sym e) ∙ get_or-append-add vs (drop n reg.validators) (i - n) nobody ∙ get_or-drop n reg.validators (i - n) nobody ∙ ap (λ (j : ℕ). get_or reg.validators j nobody) at

      put-behind : (w : Validator) → put_validator (behind n vs reg) i w ≡ behind n vs (put_validator reg i w)
      put-behind w =
          let e : length vs + (i - n) ≡ i = omega (arith, at) in
          let f : set (vs ++ drop n reg.validators) i w ≡ vs ++ drop n (set reg.validators i w) = ap (λ (j : ℕ). set (vs ++ drop n reg.validators) j w) (sym e) ∙ set-behind vs (drop n reg.validators) (i - n) w ∙ ap (λ (t : List Validator). vs ++ t) (sym (drop-set-add n reg.validators (i - n) w) ∙ ap (λ (j : ℕ). drop n (set reg.validators j w)) at) in
          rw f

    add_behind : add_validator_to_registry r (behind n vs reg) d ≡ behind n vs (add_validator_to_registry r reg d)
    unfolding add_validator_to_registry
    add_behind =
        let new = get_validator_from_deposit r d in
        rw (drop-append-le n reg.validators (new ∷ []) (omega (arith, h.least, h.long)), append_assoc vs (drop n reg.validators) (new ∷ []))

    -- a new key
    apply-behind : n ≤ d.pubkey → {reg' : Registry} → apply_pending_deposit r reg d ≡ value reg' → apply_pending_deposit r (behind n vs reg) d ≡ value (behind n vs reg')
    unfolding apply_pending_deposit bind
    apply-behind l e =
        whichever (is_known reg d) e
        (λ k z. (let b = bound (increase_balance (get_or reg.validators (place_in reg d) nobody) d.amount) (λ w. value (put_validator reg (place_in reg d) w)) z in let p = h.new-keys d.pubkey l in rw (k, get_behind (place_in reg d) p, b.gave, put-behind (place_in reg d) p b.first) (ap (λ (x : Registry). value (behind n vs x)) (value_same b.then))))
        (λ k z. rw (k, ← value_same z) (test_or (eqb d.valid 1) (λ t. rw (t, add_behind)) (λ t. rw t)))

    -- a key of the opening's
    apply-front : d.pubkey < n → {reg' : Registry} → apply_pending_deposit r reg d ≡ value reg' → behind n vs reg' ≡ behind n vs reg
    unfolding apply_pending_deposit bind
    apply-front l {reg'} e =
        let p = h.old-keys d.pubkey l in
        let k : is_known reg d ≡ true = rw p (lt-ltb d.pubkey (length reg.pubkeys) (omega (arith, l, h.least))) in
        let b = bound (increase_balance (get_or reg.validators (place_in reg d) nobody) d.amount) (λ w. value (put_validator reg (place_in reg d) w)) (rw k at e) in
        ap (λ (x : Registry). behind n vs x) (sym (value_same b.then)) ∙ put_front b.first (place_in reg d) (omega (arith, p, l))

    join-behind : {reg' : Registry} → apply_pending_deposit r reg d ≡ value reg' → joins r n (behind n vs reg) d ≡ value (behind n vs reg')
    unfolding joins
    join-behind e =
        less_or d.pubkey n (λ l. rw (lt-ltb d.pubkey n l) (ap value (sym (apply-front l e))))
        (λ l. rw (le-ltb d.pubkey n l) (apply-behind l e))

    join_front : d.pubkey < n → joins r n (behind n vs reg) d ≡ value (behind n vs reg)
    unfolding joins
    join_front l = rw (lt-ltb d.pubkey n l)

  -- a turn: whoever it leaves behind
  turn-joins : (q : Queueing) {vs₀ : List Validator} (p : Processing) (h : Kept n vs₀ p.registry) (d : PendingDeposit) {p' : Processing} → process_deposit r q p d ≡ value p' → p'.is_churn_limit_reached ≡ false → joins r n (behind n vs p.registry) d ≡ value (behind n vs p'.registry)
  unfolding process_deposit
  turn-joins q {vs₀} p h d {p'} e f =
      whichever (is_withdrawn q p.registry d) e (λ w e. applied p.processed_amount e)
      (λ w e. whichever (is_exited p.registry d) e
      (λ x e. join_front h d (postponed-old n q.next_epoch vs₀ d (sym (rw (w, x) at (postponed-is h q d)))) ∙ ap (λ (x : Processing). value (behind n vs x.registry)) (value_same e))
      (λ x e. (let b = bound _ _ e in whichever (ltb q.available b.first) b.then (λ t e. absurd (apart (ap (λ (x : Processing). x.is_churn_limit_reached) (value_same e) ∙ f))) (λ t e. applied b.first e))))
    where
      applied : (s : ℕ) → bind (apply_pending_deposit r p.registry d) (λ a. value (moved_on a s p.deposits_to_postpone p)) ≡ value p' → joins r n (behind n vs p.registry) d ≡ value (behind n vs p'.registry)
      applied s e =
          let b = bound _ _ e in
          join-behind h d b.gave ∙ ap (λ (x : Processing). value (behind n vs x.registry)) (value_same b.then)

  joined-none : (reg : Registry) → joined r n reg [] ≡ value reg
  unfolding joined fold_until_checked
  joined-none reg = refl

  joined-one : (reg : Registry) (d : PendingDeposit) {next : Registry} (ds : List PendingDeposit) → joins r n reg d ≡ value next → joined r n reg (d ∷ ds) ≡ joined r n next ds
  unfolding joined fold_until_checked bind
  joined-one reg d ds e = rw e

  -- the loop: c deposits were done
  pub loop-joins : (q : Queueing) {vs₀ : List Validator} (p : Processing) → Kept n vs₀ p.registry → (ds : List PendingDeposit) {p' : Processing} → fold_until_checked (deposits_stop r q) (process_deposit r q) p ds ≡ value p' → (c : ℕ) → p'.next_deposit_index ≡ p.next_deposit_index + c → joined r n (behind n vs p.registry) (take c ds) ≡ value (behind n vs p'.registry)
  unfolding fold_until_checked
  loop-joins q p h [] e c i = rw (take-nil {A = PendingDeposit} c) (joined-none (behind n vs p.registry) ∙ ap (λ (x : Processing). value (behind n vs x.registry)) (value_same e))
  loop-joins q p h (d ∷ ds) {p'} e c i =
      whichever (deposits_stop r q p d) e (λ t e. none p (value_same e) refl refl)
      (λ t e. (let b = bound _ _ e in let w = turn-went r q h d b.gave in test_or b.first.is_churn_limit_reached
      (λ t. none (limit_reached p) (sym (w.left t) ∙ value_same (sym (left-full r q b.first ds t) ∙ b.then)) refl refl)
      (λ t. (let o = loop-done r q w.kept ds b.then in let s : c ≡ suc (c - 1) = omega (arith, i, o.index, w.moved t) in
      rw s (joined-one (behind n vs p.registry) d (take (c - 1) ds) (turn-joins q p h d b.gave t) ∙ loop-joins q b.first w.kept ds b.then (c - 1) (omega (arith, i, s, w.moved t)))))))
    where
      none : (m : Processing) → m ≡ p' → m.next_deposit_index ≡ p.next_deposit_index → m.registry ≡ p.registry → joined r n (behind n vs p.registry) (take c (d ∷ ds)) ≡ value (behind n vs p'.registry)
      none m z a o =
          let none : c ≡ 0 = omega (arith, i, a, ap (λ (x : Processing). x.next_deposit_index) z) in
          rw (none, ← o) (joined-none (behind n vs m.registry) ∙ ap (λ (x : Processing). value (behind n vs x.registry)) z)
