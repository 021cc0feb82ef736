-- The pending deposits: no balance falls, and who is added stands at the end.
use mathlib.Core.Path.{◌≡◌, sym, ap, ◌∙◌}
use mathlib.Core.Bool.{Bool, true, false, cond}
use mathlib.Core.List.{List, [], ◌∷◌, ◌++◌}
use Prim.Native.Nat.{ℕ, zero, suc, ◌+◌, ◌-◌, ◌%◌, ◌≤◌, ◌<◌, min}
use native.Mathlib.Omega.{arith}
use lib.Dec.{eqb, ltb}
use lib.ListN.{length, get_or, drop, length-set, length-append}
use Rattle.definitions.specs.Record.{Validator, nobody}
use Rattle.definitions.specs.Updates.{with_balance}
use Rattle.definitions.specs.Checked.{Checked, value, bind, add64}
use Rattle.definitions.specs.Rust.Phase0.Helpers.{increase_balance}
use Rattle.laws.proofs.Checked.{value_same, bound, add64-value}
use Rattle.laws_close.specs.Nine.{balance_at}
use Rattle.definitions_electra.specs.declared.ElectraRules.{ElectraRules}
use Rattle.definitions_electra.specs.declared.PendingDeposit.{PendingDeposit}
use Rattle.definitions_electra.specs.Loops.{fold_until_checked}
use Rattle.definitions_electra.specs.Record.{Registry, ElectraState, registry_of, with_deposits}
use Rattle.definitions_electra.specs.Document.Electra.Helpers.{has_compounding_withdrawal_credential, get_max_effective_balance}
use Rattle.definitions_electra.specs.Document.Electra.EpochProcessing.{get_validator_from_deposit, add_validator_to_registry, is_known, place_in, put_validator, Processing, started, Queueing, is_withdrawn, is_exited, moved_on, limit_reached, deposits_stop}
use Rattle.definitions_electra.specs.Evaluated.Electra.EpochProcessing.{apply_pending_deposit, process_deposit, queueing, left_to_consume, process_pending_deposits}
use Rattle.definitions_electra_close.specs.Amounts.{deposit_amounts}
use Rattle.laws_electra_close.proofs.Lists.{set_keeps}
use Rattle.theorems_electra_close.proofs.Lists.{front_at}
use Rattle.theorems_electra_close.proofs.Moves.{Below, effective-set}

pub record Grown (r : ElectraRules) (a b : Registry) : Type 0 where
  pub more : length a.validators ≤ length b.validators
  pub balance : (i : ℕ) → i < length a.validators → balance_at a.validators i ≤ balance_at b.validators i
  -- a validator for each of the credentials
  pub columns : length a.compounding ≡ length a.validators → length b.compounding ≡ length b.validators
  pub below : (most : ℕ) → r.electra.min_activation_balance ≤ most → r.electra.max_effective_balance_electra ≤ most → Below most a.validators → Below most b.validators

grown-same : {r : ElectraRules} {a b : Registry} → a ≡ b → Grown r a b
grown-same {r} {a} e = rw (← e) (record { more = omega arith; balance = λ i l. omega arith; columns = λ h. h; below = λ most m n h. h })

grown-then : {r : ElectraRules} {a b c : Registry} → Grown r a b → Grown r b c → Grown r a c
grown-then h k =
    record {
      more = omega (arith, h.more, k.more);
      balance = λ i l. omega (arith, h.balance i l, k.balance i (omega (arith, l, h.more)));
      columns = λ e. k.columns (h.columns e);
      below = λ most m n e. k.below most m n (h.below most m n e);
    }

-- One deposit

below_more : (most : ℕ) (vs : List Validator) (v : Validator) → Below most vs → v.effective_balance ≤ most → Below most (vs ++ (v ∷ []))
below_more most [] v h l zero = l
below_more most [] v h l (suc j) = omega arith
below_more most (w ∷ vs) v h l zero = h 0
below_more most (w ∷ vs) v h l (suc j) = below_more most vs v (λ k. h (suc k)) l j

module _ (r : ElectraRules) (reg : Registry) (deposit : PendingDeposit) where
  grown-put : (v : Validator) → balance_at reg.validators (place_in reg deposit) ≤ v.balance → v.effective_balance ≡ (get_or reg.validators (place_in reg deposit) nobody).effective_balance → Grown r reg (put_validator reg (place_in reg deposit) v)
  grown-put v h same =
      let e = length-set reg.validators (place_in reg deposit) v in
      record {
        more = omega (arith, e);
        balance = λ i l. set_keeps (λ (u w : Validator). u.balance ≤ w.balance) (λ u. omega arith) nobody reg.validators (place_in reg deposit) v h i;
        columns = λ k. k ∙ sym e;
        below = λ most m n k j. rw (effective-set reg.validators (place_in reg deposit) v same j) (k j);
      }

  -- the least of the amount and one of the two maxima
  new-below : (most : ℕ) → r.electra.min_activation_balance ≤ most → r.electra.max_effective_balance_electra ≤ most → (get_validator_from_deposit r deposit).effective_balance ≤ most
  unfolding get_validator_from_deposit get_max_effective_balance
  new-below most m n = go (has_compounding_withdrawal_credential deposit.compounding)
    where
      go : (t : Bool) → min (deposit.amount - deposit.amount % r.settings.effective_balance_increment) (cond t r.electra.max_effective_balance_electra r.electra.min_activation_balance) ≤ most
      go true = omega (arith, n)
      go false = omega (arith, m)

  grown-added : Grown r reg (add_validator_to_registry r reg deposit)
  unfolding add_validator_to_registry
  grown-added =
      let vs = reg.validators in
      let v = get_validator_from_deposit r deposit in
      let e = length-append vs (v ∷ []) in
      let f = length-append reg.compounding (deposit.compounding ∷ []) in
      record {
        more = omega (arith, e);
        balance = λ i l. (let k = ap (λ (u : Validator). u.balance) (front_at nobody vs (v ∷ []) i l) in omega (arith, k));
        columns = λ k. omega (arith, k, e, f);
        below = λ most m n h. below_more most vs v h (new-below most m n);
      }

  grown-applied : {after : Registry} → apply_pending_deposit r reg deposit ≡ value after → Grown r reg after
  unfolding apply_pending_deposit increase_balance
  grown-applied {after} e = go (is_known reg deposit) e
    where
      v : Validator
      v = get_or reg.validators (place_in reg deposit) nobody

      raised : Checked Validator
      raised = bind (add64 v.balance deposit.amount) (λ balance. value (with_balance balance v))

      added : (t : Bool) → cond t (add_validator_to_registry r reg deposit) reg ≡ after → Grown r reg after
      added true e = grown-then grown-added (grown-same e)
      added false e = grown-same e

      go : (t : Bool) → cond t (bind raised (λ w. value (put_validator reg (place_in reg deposit) w))) (value (cond (eqb deposit.valid 1) (add_validator_to_registry r reg deposit) reg)) ≡ value after → Grown r reg after
      go true e =
          let a = bound raised (λ w. value (put_validator reg (place_in reg deposit) w)) e in
          let b = bound (add64 v.balance deposit.amount) (λ balance. value (with_balance balance v)) a.gave in
          let sum : a.first.balance ≡ v.balance + deposit.amount = ap (λ (u : Validator). u.balance) (sym (value_same b.then)) ∙ sym (add64-value _ _ b.gave) in
          let same : a.first.effective_balance ≡ v.effective_balance = ap (λ (u : Validator). u.effective_balance) (sym (value_same b.then)) in
          grown-then (grown-put a.first (omega (arith, sum)) same) (grown-same (value_same a.then))
      go false e = added (eqb deposit.valid 1) (value_same e)

-- The queue

module _ (r : ElectraRules) (q : Queueing) where
  by-registry : {p after : Processing} → p ≡ after → p.registry ≡ after.registry
  by-registry e = ap (λ (u : Processing). u.registry) e

  grown-turn : (p : Processing) (deposit : PendingDeposit) {after : Processing} → process_deposit r q p deposit ≡ value after → Grown r p.registry after.registry
  unfolding process_deposit
  grown-turn p deposit {after} e = go (is_withdrawn q reg deposit) e
    where
      reg : Registry
      reg = p.registry

      postponed : List PendingDeposit
      postponed = p.deposits_to_postpone

      applied : Checked Registry
      applied = apply_pending_deposit r reg deposit

      apply : (processed : ℕ) → bind applied (λ now. value (moved_on now processed postponed p)) ≡ value after → Grown r reg after.registry
      apply processed e =
          let a = bound applied (λ now. value (moved_on now processed postponed p)) e in
          grown-then (grown-applied r reg deposit a.gave) (grown-same (by-registry (value_same a.then)))

      limited : (processed : ℕ) (t : Bool) → cond t (value (limit_reached p)) (bind applied (λ now. value (moved_on now processed postponed p))) ≡ value after → Grown r reg after.registry
      limited processed true e = grown-same (by-registry (value_same e))
      limited processed false e = apply processed e

      summed : Checked ℕ
      summed = add64 p.processed_amount deposit.amount

      rest : ℕ → Checked Processing
      rest processed = cond (ltb q.available processed) (value (limit_reached p)) (bind applied (λ now. value (moved_on now processed postponed p)))

      exited : (t : Bool) → cond t (value (moved_on reg p.processed_amount (postponed ++ (deposit ∷ [])) p)) (bind summed rest) ≡ value after → Grown r reg after.registry
      exited true e = grown-same (by-registry (value_same e))
      exited false e = let a = bound summed rest e in limited a.first (ltb q.available a.first) a.then

      go : (t : Bool) → cond t (bind applied (λ now. value (moved_on now p.processed_amount postponed p))) (cond (is_exited reg deposit) (value (moved_on reg p.processed_amount (postponed ++ (deposit ∷ [])) p)) (bind summed rest)) ≡ value after → Grown r reg after.registry
      go true e = apply p.processed_amount e
      go false e = exited (is_exited reg deposit) e

  grown-step : (t : Bool) (p : Processing) (d : PendingDeposit) (ds : List PendingDeposit) {after : Processing} → cond t (value p) (bind (process_deposit r q p d) (λ c. fold_until_checked (deposits_stop r q) (process_deposit r q) c ds)) ≡ value after → ((c : Processing) → fold_until_checked (deposits_stop r q) (process_deposit r q) c ds ≡ value after → Grown r c.registry after.registry) → Grown r p.registry after.registry
  grown-step true p d ds e rest = grown-same (by-registry (value_same e))
  grown-step false p d ds e rest =
      let a = bound (process_deposit r q p d) (λ c. fold_until_checked (deposits_stop r q) (process_deposit r q) c ds) e in
      grown-then (grown-turn p d a.gave) (rest a.first a.then)

  grown-all : (ds : List PendingDeposit) (p : Processing) {after : Processing} → fold_until_checked (deposits_stop r q) (process_deposit r q) p ds ≡ value after → Grown r p.registry after.registry
  unfolding fold_until_checked
  grown-all [] p e = grown-same (by-registry (value_same e))
  grown-all (d ∷ ds) p e = grown-step (deposits_stop r q p d) p d ds e (λ c t. grown-all ds c t)

pub record Deposited (r : ElectraRules) (st after : ElectraState) : Type 0 where
  pub grown : Grown r (registry_of st) (registry_of after)
  pub queue : after.pending_consolidations ≡ st.pending_consolidations

pub deposited : (r : ElectraRules) (st : ElectraState) {after : ElectraState} → process_pending_deposits r st ≡ value after → Deposited r st after
unfolding process_pending_deposits
deposited r st {after} e =
    let a = bound (queueing r st) _ e in
    let b = bound (fold_until_checked (deposits_stop r a.first) (process_deposit r a.first) (started (registry_of st)) st.pending_deposits) _ a.then in
    let p = b.first in
    let queue = drop p.next_deposit_index st.pending_deposits ++ p.deposits_to_postpone in
    let c = bound (left_to_consume a.first.available p) (λ left. value (with_deposits p.registry left queue st)) b.then in
    let is : with_deposits p.registry c.first queue st ≡ after = value_same c.then in
    record {
      grown = grown-then (grown-all r a.first st.pending_deposits (started (registry_of st)) b.gave) (grown-same (ap registry_of is));
      queue = ap (λ (s : ElectraState). s.pending_consolidations) (sym is);
    }

-- what was added to the balance; of a new validator all of it
pub deposit-at : (vs ws : List Validator) → length vs ≤ length ws → ((i : ℕ) → i < length vs → balance_at vs i ≤ balance_at ws i) → (i : ℕ) → i < length ws → balance_at vs i + get_or (deposit_amounts vs ws) i 0 ≡ balance_at ws i
unfolding deposit_amounts
deposit-at vs [] m h i l = absurd (omega arith)
deposit-at [] (w ∷ ws) m h zero l = let e : 0 + w.balance ≡ w.balance = omega arith in e
deposit-at [] (w ∷ ws) m h (suc i) l = deposit-at [] ws (omega arith) (λ j k. absurd (omega arith)) i (omega arith)
deposit-at (v ∷ vs) (w ∷ ws) m h zero l = let k = h 0 (omega arith) in omega (arith, k)
deposit-at (v ∷ vs) (w ∷ ws) m h (suc i) l = deposit-at vs ws (omega arith) (λ j k. h (suc j) (omega arith)) i (omega arith)
