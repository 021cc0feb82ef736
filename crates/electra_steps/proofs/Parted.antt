-- The deposits take nobody away, give as many credentials as validators, and leave those of the n in front.
use mathlib.Core.Path.{◌≡◌, refl, sym, ◌∙◌}
use mathlib.Core.Bool.{Bool, true, false, cond}
use mathlib.Core.List.{List, [], ◌∷◌, ◌++◌}
use Prim.Native.Nat.{ℕ, ◌≤◌}
use native.Mathlib.Omega.{arith}
use lib.Dec.{ltb, eqb}
use lib.ListN.{length, get_or, take, length-set, length-append, length-take}
use lib.Seq.{take_all, take-append-le}
use Rattle.definitions.specs.Lists.{all}
use Rattle.definitions.specs.Record.{Validator, nobody}
use Rattle.definitions.specs.Checked.{Checked, value, refused, bind, add64}
use Rattle.definitions.specs.Rust.Phase0.Helpers.{increase_balance}
use Rattle.laws.proofs.Checked.{value_same, not_value, bound}
use Rattle.definitions_electra.specs.declared.ElectraRules.{ElectraRules}
use Rattle.definitions_electra.specs.declared.PendingDeposit.{PendingDeposit}
use Rattle.definitions_electra.specs.Record.{Registry, ElectraState, registry_of}
use Rattle.definitions_electra.specs.Document.Electra.EpochProcessing.{add_validator_to_registry, is_known, place_in, put_validator, Processing, started, Queueing, is_withdrawn, is_exited, moved_on, limit_reached, deposits_stop, get_validator_from_deposit}
use Rattle.definitions_electra.specs.Evaluated.Electra.EpochProcessing.{apply_pending_deposit, process_deposit}
use Rattle.laws_electra_close.proofs.Beside.{fold_keeps}
use Rattle.electra_steps.specs.Last.{Six, six_by}
use Rattle.electra_steps.specs.Finds.{Finds}
use Rattle.electra_steps.proofs.Whole.{Parted}

pub record Least (n : ℕ) (cs : List ℕ) (reg : Registry) : Type 0 where
  pub least : n ≤ length reg.validators
  pub same : length reg.compounding ≡ length reg.validators
  pub front : take n reg.compounding ≡ cs

record Going (n : ℕ) (cs : List ℕ) (p : Processing) : Type 0 where
  registry : Least n cs p.registry

-- what the sixth step finds
pub found : {n : ℕ} {deposits : List ℕ} {st : ElectraState} → Finds n deposits st → Least n st.compounding (registry_of st)
found {n} {st = st} f = record { least = omega (arith, f.validators); same = f.credentials ∙ sym f.validators; front = take_all n st.compounding (omega (arith, f.credentials)) }

pub any : {A : Type 0} (xs : List A) → all (λ x. true) xs ≡ true
unfolding all
any [] = refl
any (x ∷ xs) = any xs

module _ (r : ElectraRules) (n : ℕ) (cs : List ℕ) where
  applied : (reg : Registry) (d : PendingDeposit) → Least n cs reg → (after : Registry) → apply_pending_deposit r reg d ≡ value after → Least n cs after
  unfolding apply_pending_deposit add_validator_to_registry bind
  applied reg d h after = go (is_known reg d) (eqb d.valid 1) (increase_balance (get_or reg.validators (place_in reg d) nobody) d.amount)
    where
      by : {other : Registry} → Least n cs other → other ≡ after → Least n cs after
      by l e = rw e at l

      grown : Least n cs (add_validator_to_registry r reg d)
      grown =
          let v = length-append reg.validators (get_validator_from_deposit r d ∷ []) in
          let c = length-append reg.compounding (d.compounding ∷ []) in
          record { least = omega (arith, v, h.least); same = omega (arith, v, c, h.same); front = take-append-le n reg.compounding (d.compounding ∷ []) (omega (arith, h.least, h.same)) ∙ h.front }

      go : (k t : Bool) (m : Checked Validator) → cond k (bind m (λ v. value (put_validator reg (place_in reg d) v))) (value (cond t (add_validator_to_registry r reg d) reg)) ≡ value after → Least n cs after
      go true t (refused p) e = absurd (not_value e)
      go true t (value v) e =
          let s = length-set reg.validators (place_in reg d) v in
          by (record { least = omega (arith, s, h.least); same = omega (arith, s, h.same); front = h.front }) (value_same e)
      go false true m e = by grown (value_same e)
      go false false m e = by h (value_same e)

  turned : (q : Queueing) (p : Processing) (d : PendingDeposit) → Going n cs p → true ≡ true → (after : Processing) → process_deposit r q p d ≡ value after → Going n cs after
  unfolding process_deposit bind
  turned q p d h o after = go (is_withdrawn q p.registry d) (is_exited p.registry d) (apply_pending_deposit r p.registry d) refl (add64 p.processed_amount d.amount)
    where
      by : {other : Processing} → Least n cs other.registry → other ≡ after → Going n cs after
      by {other} l e = let g : Going n cs other = record { registry = l } in rw e at g

      put : (processed : ℕ) (m : Checked Registry) → apply_pending_deposit r p.registry d ≡ m → bind m (λ applied. value (moved_on applied processed p.deposits_to_postpone p)) ≡ value after → Going n cs after
      put processed (refused w) g e = absurd (not_value e)
      put processed (value reg) g e = by (applied p.registry d h.registry reg g) (value_same e)

      go : (w x : Bool) (m : Checked Registry) → apply_pending_deposit r p.registry d ≡ m → (y : Checked ℕ) → cond w (bind m (λ applied. value (moved_on applied p.processed_amount p.deposits_to_postpone p))) (cond x (value (moved_on p.registry p.processed_amount (p.deposits_to_postpone ++ (d ∷ [])) p)) (bind y (λ processed. cond (ltb q.available processed) (value (limit_reached p)) (bind m (λ applied. value (moved_on applied processed p.deposits_to_postpone p)))))) ≡ value after → Going n cs after
      go true x m g y e = put p.processed_amount m g e
      go false true m g y e = by h.registry (value_same e)
      go false false m g (refused w) e = absurd (not_value e)
      go false false m g (value processed) e = on (ltb q.available processed) e
        where
          on : (t : Bool) → cond t (value (limit_reached p)) (bind m (λ applied. value (moved_on applied processed p.deposits_to_postpone p))) ≡ value after → Going n cs after
          on true e = by h.registry (value_same e)
          on false e = put processed m g e

  -- of what the sixth step leaves
  pub left_over : (st : ElectraState) → Least n cs (registry_of st) → (x : Six) → six_by r st ≡ value x → Least n cs x.processing.registry
  unfolding six_by
  left_over st h x e =
      let a = bound _ _ e in
      let b = bound _ _ a.then in
      let c = bound _ _ b.then in
      let is : record { queueing = a.first; processing = b.first; left = c.first } ≡ x = value_same c.then in
      let g = fold_keeps (deposits_stop r a.first) (process_deposit r a.first) (Going n cs) (λ d. true) (turned a.first) (started (registry_of st)) st.pending_deposits (record { registry = h }) (any st.pending_deposits) b.first b.gave in
      by g.registry is
    where
      by : {y : Six} → Least n cs y.processing.registry → y ≡ x → Least n cs x.processing.registry
      by l q = rw q at l

  -- as many of the opening as there were
  pub parted : (st : ElectraState) → Least n cs (registry_of st) → (x : Six) → six_by r st ≡ value x → Parted n x
  parted st h x e =
      let l = left_over st h x e in
      let front : length (take n x.processing.registry.validators) ≡ n = simp length-take (omega (arith, l.least)) in
      let credentials : length (take n x.processing.registry.compounding) ≡ n = simp length-take (omega (arith, l.least, l.same)) in
      record { front = front; fits = credentials ∙ sym front }
