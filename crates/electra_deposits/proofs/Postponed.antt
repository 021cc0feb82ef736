-- Who is postponed is a test of the deposit and of the registry that the step opened with: the loop need not carry a list of them.
use mathlib.Core.Path.{◌≡◌, refl, sym, ap, ◌∙◌}
use mathlib.Core.Bool.{Bool, true, false, ◌&&◌, not}
use mathlib.Core.List.{List, [], ◌∷◌, ◌++◌, append-nil, append_assoc}
use Prim.Native.Nat.{ℕ, suc, ◌+◌, ◌≤◌, ◌<◌}
use native.Mathlib.Omega.{arith}
use borrow.Author.Tests.{lt-ltb, le-ltb, ltb-true}
use lib.Dec.{ltb, eqb}
use lib.ListN.{length, get_or, take, set, length-append, length-set, get_or-append, get_or-eq_default}
use lib.Seq.{get_or-set_same, get_or-set_other, get_or_at}
use Rattle.definitions.specs.Lists.{filter, range}
use Rattle.definitions.specs.Record.{Validator, FAR_FUTURE_EPOCH, nobody}
use Rattle.definitions.specs.Checked.{value, bind}
use Rattle.definitions.specs.Rust.Phase0.Helpers.{increase_balance}
use Rattle.laws.proofs.Checked.{bound, value_same}
use Rattle.laws.proofs.Tests.{and_false}
use Rattle.definitions_electra.specs.declared.ElectraRules.{ElectraRules}
use Rattle.definitions_electra.specs.declared.PendingDeposit.{PendingDeposit}
use Rattle.definitions_electra.specs.Loops.{fold_until_checked}
use Rattle.definitions_electra.specs.Record.{Registry, place_of}
use Rattle.definitions_electra.specs.Document.Electra.EpochProcessing.{Queueing, Processing, get_validator_from_deposit, add_validator_to_registry, is_known, place_in, put_validator, is_withdrawn, is_exited, moved_on, limit_reached, deposits_stop}
use Rattle.definitions_electra.specs.Evaluated.Electra.EpochProcessing.{apply_pending_deposit, process_deposit}
use Rattle.electra_deposits.specs.Alone.{is_postponed}
use Rattle.laws_electra.proofs.Cases.{same_or, less_or, test_or, whichever}
use Rattle.electra_deposits.proofs.Alike.{apart}
use Rattle.electra_deposits.proofs.Keys.{place-front, place-behind, place-range, place_outside, length-range}

-- the registry of the step, with the opening's n validators vs₀ at its front
pub record Kept (n : ℕ) (vs₀ : List Validator) (reg : Registry) : Type 0 where
  pub long : length reg.validators ≡ length reg.pubkeys
  pub long_too : length reg.compounding ≡ length reg.pubkeys
  pub least : n ≤ length reg.pubkeys
  pub old-keys : (key : ℕ) → key < n → place_of key reg.pubkeys ≡ key
  pub new-keys : (key : ℕ) → n ≤ key → n ≤ place_of key reg.pubkeys
  pub exits : (j : ℕ) → j < n → (get_or reg.validators j nobody).exit_epoch ≡ (get_or vs₀ j nobody).exit_epoch
  pub withdrawables : (j : ℕ) → j < n → (get_or reg.validators j nobody).withdrawable_epoch ≡ (get_or vs₀ j nobody).withdrawable_epoch
  pub news : (j : ℕ) → n ≤ j → j < length reg.pubkeys → (get_or reg.validators j nobody).exit_epoch ≡ FAR_FUTURE_EPOCH
  pub news_too : (j : ℕ) → n ≤ j → j < length reg.pubkeys → (get_or reg.validators j nobody).withdrawable_epoch ≡ FAR_FUTURE_EPOCH

-- the text's two tests are that one
pub postponed-is : {n : ℕ} {vs₀ : List Validator} {reg : Registry} → Kept n vs₀ reg → (q : Queueing) (d : PendingDeposit) → (not (is_withdrawn q reg d) && is_exited reg d) ≡ is_postponed n q.next_epoch vs₀ d
unfolding is_postponed
postponed-is {n} {vs₀} {reg} h q d =
    less_or d.pubkey n
    (λ l. rw (h.old-keys d.pubkey l, lt-ltb d.pubkey n l, lt-ltb d.pubkey (length reg.pubkeys) (omega (arith, l, h.least)), h.exits d.pubkey l, h.withdrawables d.pubkey l))
    (λ l. rw (le-ltb d.pubkey n l) (less_or (place_in reg d) (length reg.pubkeys)
    (λ k. rw (lt-ltb (place_in reg d) (length reg.pubkeys) k, h.news (place_in reg d) (h.new-keys d.pubkey l) k, le-ltb FAR_FUTURE_EPOCH FAR_FUTURE_EPOCH (omega arith)) (and_false (not (ltb (get_or reg.validators (place_in reg d) nobody).withdrawable_epoch q.next_epoch))))
    (λ k. rw (le-ltb (place_in reg d) (length reg.pubkeys) k))))

-- at the start
pub kept-none : (n : ℕ) (vs₀ : List Validator) (cs : List ℕ) → length vs₀ ≡ n → length cs ≡ n → Kept n vs₀ (record { validators = vs₀; pubkeys = range 0 n; compounding = cs })
kept-none n vs₀ cs l m =
    record {
      long = l ∙ sym (length-range 0 n);
      long_too = m ∙ sym (length-range 0 n);
      least = omega (arith, length-range 0 n);
      old-keys = λ key b. (let p = place-range 0 n key (omega arith) (omega arith) in omega (arith, p));
      new-keys = λ key b. (let p = place_outside 0 n key (omega arith) in omega (arith, p));
      exits = λ j b. refl;
      withdrawables = λ j b. refl;
      news = λ j a b. absurd (omega (arith, length-range 0 n));
      news_too = λ j a b. absurd (omega (arith, length-range 0 n));
    }

-- A turn keeps that

-- one of a list in which one was changed, or that is one longer
pub set_case : (P : Validator → Type 0) (vs : List Validator) (i : ℕ) (w : Validator) (j : ℕ) → (i ≡ j → i < length vs) → (i ≡ j → P w) → ((i ≡ j → ⊥) → P (get_or vs j nobody)) → P (get_or (set vs i w) j nobody)
set_case P vs i w j l f g =
    same_or i j (λ q. rw (← q, get_or-set_same vs i w nobody (l q)) (f q))
    (λ q. rw (get_or-set_other vs i j w nobody (λ x. q (sym x))) (g q))

pub more_case : (P : Validator → Type 0) (vs : List Validator) (w : Validator) (j : ℕ) → (j < length vs → P (get_or vs j nobody)) → (length vs ≡ j → P w) → (length vs < j → P nobody) → P (get_or (vs ++ (w ∷ [])) j nobody)
more_case P vs w j f g h =
    less_or j (length vs) (λ l. rw (get_or-append vs (w ∷ []) nobody j l) (f l))
    (λ l. same_or (length vs) j (λ q. rw (get_or_at vs w [] nobody j q) (g q))
    (λ q. (let z : length (vs ++ (w ∷ [])) ≤ j = omega (arith, l, q, length-append vs (w ∷ [])) in rw (get_or-eq_default (vs ++ (w ∷ [])) nobody z) (h (omega (arith, l, q))))))

field_set : (f : Validator → ℕ) (vs : List Validator) (i : ℕ) (w : Validator) → i < length vs → f w ≡ f (get_or vs i nobody) → (j : ℕ) → f (get_or (set vs i w) j nobody) ≡ f (get_or vs j nobody)
field_set f vs i w l e j = set_case (λ v. f v ≡ f (get_or vs j nobody)) vs i w j (λ q. l) (λ q. rw (← q) e) (λ q. refl)

pub kept_put : {n : ℕ} {vs₀ : List Validator} {reg : Registry} → Kept n vs₀ reg → (i : ℕ) (w : Validator) → i < length reg.validators → w.exit_epoch ≡ (get_or reg.validators i nobody).exit_epoch → w.withdrawable_epoch ≡ (get_or reg.validators i nobody).withdrawable_epoch → Kept n vs₀ (put_validator reg i w)
kept_put {reg = reg} h i w l e f =
    let x = field_set (λ v. v.exit_epoch) reg.validators i w l e in
    let y = field_set (λ v. v.withdrawable_epoch) reg.validators i w l f in
    record {
      long = length-set reg.validators i w ∙ h.long;
      long_too = h.long_too;
      least = h.least;
      old-keys = h.old-keys;
      new-keys = h.new-keys;
      exits = λ j b. x j ∙ h.exits j b;
      withdrawables = λ j b. y j ∙ h.withdrawables j b;
      news = λ j a b. x j ∙ h.news j a b;
      news_too = λ j a b. y j ∙ h.news_too j a b;
    }

kept_add : {n : ℕ} {vs₀ : List Validator} {reg : Registry} → Kept n vs₀ reg → (r : ElectraRules) (d : PendingDeposit) → is_known reg d ≡ false → Kept n vs₀ (add_validator_to_registry r reg d)
unfolding add_validator_to_registry get_validator_from_deposit
kept_add {n} {vs₀} {reg} h r d u =
    let new = get_validator_from_deposit r d in
    let vs = reg.validators in
    let ks = reg.pubkeys in
    let lv : length (vs ++ (new ∷ [])) ≡ length vs + 1 = length-append vs (new ∷ []) in
    let lk : length (ks ++ (d.pubkey ∷ [])) ≡ length ks + 1 = length-append ks (d.pubkey ∷ []) in
    let lc : length (reg.compounding ++ (d.compounding ∷ [])) ≡ length reg.compounding + 1 = length-append reg.compounding (d.compounding ∷ []) in
    let front : (j : ℕ) → j < length vs → get_or (vs ++ (new ∷ [])) j nobody ≡ get_or vs j nobody = λ j b. get_or-append vs (new ∷ []) nobody j b in
    record {
      long = omega (arith, lv, lk, h.long);
      long_too = omega (arith, lk, lc, h.long_too);
      least = omega (arith, lk, h.least);
      old-keys = λ key b. (let p = h.old-keys key b in place-front key ks (d.pubkey ∷ []) (omega (arith, p, b, h.least)) ∙ p);
      new-keys = λ key b. less_or (place_of key ks) (length ks) (λ l. rw (place-front key ks (d.pubkey ∷ []) l) (h.new-keys key b)) (λ l. rw (place-behind key ks (d.pubkey ∷ []) l) (omega (arith, h.least)));
      exits = λ j b. ap (λ (v : Validator). v.exit_epoch) (front j (omega (arith, b, h.least, h.long))) ∙ h.exits j b;
      withdrawables = λ j b. ap (λ (v : Validator). v.withdrawable_epoch) (front j (omega (arith, b, h.least, h.long))) ∙ h.withdrawables j b;
      news = λ j a b. more_case (λ v. v.exit_epoch ≡ FAR_FUTURE_EPOCH) vs new j (λ l. h.news j a (omega (arith, l, h.long))) (λ q. refl) (λ l. absurd (omega (arith, l, b, lk, h.long)));
      news_too = λ j a b. more_case (λ v. v.withdrawable_epoch ≡ FAR_FUTURE_EPOCH) vs new j (λ l. h.news_too j a (omega (arith, l, h.long))) (λ q. refl) (λ l. absurd (omega (arith, l, b, lk, h.long)));
    }

pub kept-apply : {n : ℕ} {vs₀ : List Validator} {reg : Registry} → Kept n vs₀ reg → (r : ElectraRules) (d : PendingDeposit) {reg' : Registry} → apply_pending_deposit r reg d ≡ value reg' → Kept n vs₀ reg'
unfolding apply_pending_deposit increase_balance
kept-apply {reg = reg} h r d e =
    whichever (is_known reg d) e
    (λ k z. (let b = bound _ _ z in let w = value_same (bound _ _ b.gave).then in rw (← value_same b.then) (kept_put h (place_in reg d) b.first (omega (arith, ltb-true (place_in reg d) (length reg.pubkeys) k, h.long)) (rw (← w)) (rw (← w)))))
    (λ k z. rw (← value_same z) (test_or (eqb d.valid 1) (λ t. rw t (kept_add h r d k)) (λ t. rw t h)))

-- What a turn does to the list of the postponed
pub record Went (n : ℕ) (vs₀ : List Validator) (q : Queueing) (p : Processing) (d : PendingDeposit) (p' : Processing) : Type 0 where
  pub kept : Kept n vs₀ p'.registry
  pub moved : p'.is_churn_limit_reached ≡ false → p'.next_deposit_index ≡ p.next_deposit_index + 1
  pub more : p'.is_churn_limit_reached ≡ false → p'.deposits_to_postpone ≡ p.deposits_to_postpone ++ filter (is_postponed n q.next_epoch vs₀) (d ∷ [])
  pub left : p'.is_churn_limit_reached ≡ true → p' ≡ limit_reached p

pub with_none : {A : Type 0} (xs : List A) → xs ++ [] ≡ xs
with_none xs = append-nil xs

pub filter-append : {A : Type 0} (f : A → Bool) (xs ys : List A) → filter f (xs ++ ys) ≡ filter f xs ++ filter f ys
unfolding filter
filter-append f [] ys = refl
filter-append f (x ∷ xs) ys = rw (filter-append f xs ys) (test_or (f x) (λ t. rw t) (λ t. rw t))

module _ {n : ℕ} {vs₀ : List Validator} (r : ElectraRules) (q : Queueing) {p : Processing} (h : Kept n vs₀ p.registry) (d : PendingDeposit) where
  -- it is applied, and not postponed
  went_on : {p' : Processing} (s : ℕ) → is_postponed n q.next_epoch vs₀ d ≡ false → bind (apply_pending_deposit r p.registry d) (λ a. value (moved_on a s p.deposits_to_postpone p)) ≡ value p' → Went n vs₀ q p d p'
  unfolding filter
  went_on s f e =
      let b = bound _ _ e in
      rw (← value_same b.then) (record { kept = kept-apply h r d b.gave; moved = λ e. refl; more = λ e. rw f (sym (with_none p.deposits_to_postpone)); left = λ e. absurd (apart (sym e)) })

  pub turn-went : {p' : Processing} → process_deposit r q p d ≡ value p' → Went n vs₀ q p d p'
  unfolding process_deposit filter
  turn-went e =
      let z = postponed-is h q d in
      whichever (is_withdrawn q p.registry d) e (λ w e. went_on p.processed_amount (sym (rw w at z)) e)
      (λ w e. whichever (is_exited p.registry d) e
      (λ x e. rw (← value_same e) (record { kept = h; moved = λ e. refl; more = λ e. rw (← (rw (w, x) at z)); left = λ e. absurd (apart (sym e)) }))
      (λ x e. (let b = bound _ _ e in whichever (ltb q.available b.first) b.then
      (λ t e. rw (← value_same e) (record { kept = h; moved = λ e. absurd (apart e); more = λ e. absurd (apart e); left = λ e. refl }))
      (λ t e. went_on b.first (sym (rw (w, x) at z)) e))))

-- The loop: c deposits on, those among them that pass the test are postponed, in the queue's order
pub record Done (n : ℕ) (vs₀ : List Validator) (q : Queueing) (p : Processing) (ds : List PendingDeposit) (p' : Processing) : Type 0 where
  pub count : ℕ
  pub index : p'.next_deposit_index ≡ p.next_deposit_index + count
  pub within : count ≤ length ds
  pub postponed : p'.deposits_to_postpone ≡ p.deposits_to_postpone ++ filter (is_postponed n q.next_epoch vs₀) (take count ds)
  pub kept : Kept n vs₀ p'.registry

done_none : {n : ℕ} {vs₀ : List Validator} {q : Queueing} (p p' : Processing) (ds : List PendingDeposit) → Kept n vs₀ p'.registry → p'.next_deposit_index ≡ p.next_deposit_index → p'.deposits_to_postpone ≡ p.deposits_to_postpone → Done n vs₀ q p ds p'
unfolding filter
done_none p p' ds h i o = record { count = 0; index = omega (arith, i); within = omega arith; postponed = o ∙ sym (with_none p.deposits_to_postpone); kept = h }

-- a limit that was reached leaves the loop
pub left-full : (r : ElectraRules) (q : Queueing) (p : Processing) (ds : List PendingDeposit) → p.is_churn_limit_reached ≡ true → fold_until_checked (deposits_stop r q) (process_deposit r q) p ds ≡ value p
unfolding fold_until_checked deposits_stop
left-full r q p [] e = refl
left-full r q p (d ∷ ds) e = rw e

pub loop-done : {n : ℕ} {vs₀ : List Validator} (r : ElectraRules) (q : Queueing) {p : Processing} → Kept n vs₀ p.registry → (ds : List PendingDeposit) {p' : Processing} → fold_until_checked (deposits_stop r q) (process_deposit r q) p ds ≡ value p' → Done n vs₀ q p ds p'
unfolding fold_until_checked filter
loop-done r q {p} h [] e = rw (← value_same e) (done_none p p [] h refl refl)
loop-done {n} {vs₀} r q {p} h (d ∷ ds) {p'} e =
    whichever (deposits_stop r q p d) e (λ t e. rw (← value_same e) (done_none p p (d ∷ ds) h refl refl))
    (λ t e. (let b = bound _ _ e in next b.first (turn-went r q h d b.gave) b.then (λ k. loop-done r q {p = b.first} k ds b.then)))
  where
    next : (m : Processing) → Went n vs₀ q p d m → fold_until_checked (deposits_stop r q) (process_deposit r q) m ds ≡ value p' → (Kept n vs₀ m.registry → Done n vs₀ q m ds p') → Done n vs₀ q p (d ∷ ds) p'
    next m w e rec =
        let f = is_postponed n q.next_epoch vs₀ in
        let o = p.deposits_to_postpone in
        let i = rec w.kept in
        test_or m.is_churn_limit_reached
        (λ t. rw (← value_same (sym (left-full r q m ds t) ∙ e), w.left t) (done_none p (limit_reached p) (d ∷ ds) h refl refl))
        (λ t. record {
          kept = i.kept;
          within = omega (arith, i.within);
          count = suc i.count;
          index = omega (arith, i.index, w.moved t);
          postponed = i.postponed ∙ ap (λ (xs : List PendingDeposit). xs ++ filter f (take i.count ds)) (w.more t) ∙ append_assoc o (filter f (d ∷ [])) (filter f (take i.count ds)) ∙ ap (λ (xs : List PendingDeposit). o ++ xs) (sym (filter-append f (d ∷ []) (take i.count ds)));
        })
