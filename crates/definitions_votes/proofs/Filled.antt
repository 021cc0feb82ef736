-- A filled registry: who is active stays, and the weight of a target lies between that with no unknown flag set and that with all set.
use mathlib.Core.Path.{◌≡◌, refl, ap, ◌∙◌}
use mathlib.Core.Bool.{Bool, true, false, cond, ◌&&◌, not}
use mathlib.Core.List.{List, [], ◌∷◌, map}
use Prim.Native.Nat.{ℕ, zero, suc, ◌+◌, ◌-◌, ◌/◌, ◌%◌, ◌≤◌, ◌<◌}
use native.Mathlib.Omega.{arith}
use borrow.Author.Tests.{eq-eqb, ne_eqb, eqb-true, eqb-false}
use lib.ListN.{length, get_or, drop}
use Rattle.definitions.specs.Lists.{sum}
use Rattle.definitions.specs.Record.{Validator, is_slashed, nobody}
use Rattle.definitions.specs.Rust.Phase0.Helpers.{is_active_validator}
use Rattle.definitions.specs.Rust.Altair.Helpers.{add_flag, has_flag, is_unslashed_participating}
use Rattle.definitions.specs.Document.Phase0.EpochProcessing.{bit}
use Rattle.definitions_votes.specs.Filling.{previous_unknown, current_unknown, Vote, Filling, with_target, filled_flags, filled_one, filled}

-- the target flag of filled flags
pub target-of : (hit : Bool) (flags : ℕ) → has_flag (with_target hit flags) 1 ≡ hit
unfolding has_flag add_flag with_target
target-of true flags = go (bit 1 flags) refl
  where
    go : (t : Bool) → bit 1 flags ≡ t → bit 1 (cond t flags (flags + 2)) ≡ true
    go true e = e
    go false e = let n = eqb-false (flags / 2 % 2) 1 e in eq-eqb ((flags + 2) / 2 % 2) 1 (omega arith)
target-of false flags = go (bit 1 flags) refl
  where
    go : (t : Bool) → bit 1 flags ≡ t → bit 1 (cond t (flags - 2) flags) ≡ false
    go true e = let n = eqb-true (flags / 2 % 2) 1 e in ne_eqb ((flags - 2) / 2 % 2) 1 (λ q. omega arith)
    go false e = e

pub target-filled : (unknown hit : Bool) (flags : ℕ) → has_flag (filled_flags unknown hit flags) 1 ≡ cond unknown hit (has_flag flags 1)
target-filled true true flags = target-of true flags
target-filled true false flags = target-of false flags
target-filled false hit flags = refl

-- Who participates in a filled registry
module _ (current_epoch : ℕ) (mark : ℕ) (vote : Vote) (v : Validator) where
  pub active-filled : (epoch : ℕ) → is_active_validator (filled_one mark vote v) epoch ≡ is_active_validator v epoch
  unfolding filled_one is_active_validator
  active-filled epoch = refl

  pub balance-filled : (filled_one mark vote v).effective_balance ≡ v.effective_balance
  unfolding filled_one
  balance-filled = refl

  pub current-filled : is_unslashed_participating current_epoch 1 current_epoch (filled_one mark vote v) ≡ (is_active_validator v current_epoch && cond (current_unknown mark) vote.current (has_flag v.current_epoch_participation 1) && not (is_slashed v))
  unfolding filled_one is_unslashed_participating is_active_validator
  current-filled = rw (eq-eqb current_epoch current_epoch refl, target-filled (current_unknown mark) vote.current v.current_epoch_participation)

  pub previous-filled : (epoch : ℕ) → (epoch ≡ current_epoch → ⊥) → is_unslashed_participating current_epoch 1 epoch (filled_one mark vote v) ≡ (is_active_validator v epoch && cond (previous_unknown mark) vote.previous (has_flag v.previous_epoch_participation 1) && not (is_slashed v))
  unfolding filled_one is_unslashed_participating is_active_validator
  previous-filled epoch n = rw (ne_eqb epoch current_epoch n, target-filled (previous_unknown mark) vote.previous v.previous_epoch_participation)

-- Sums

abbrev pub weight : (Validator → Bool) → Validator → ℕ
weight p v = cond (p v) v.effective_balance 0

-- the balance of those that pass a test, in a filled registry
abbrev pub balance_in : (Validator → Bool) → List ℕ → Filling → List Validator → ℕ
balance_in p marks f vs = sum (map (weight p) (filled marks f vs))

-- what no filling changes
pub sum_kept : (p : Validator → Bool) → ((mark : ℕ) (vote : Vote) (v : Validator) → weight p (filled_one mark vote v) ≡ weight p v) → (marks : List ℕ) (f : Filling) (vs : List Validator) → balance_in p marks f vs ≡ sum (map (weight p) vs)
unfolding filled sum
sum_kept p k marks f [] = refl
sum_kept p k marks f (v ∷ vs) = omega (arith, k (get_or marks 0 0) (f 0) v, sum_kept p k (drop 1 marks) (λ i. f (suc i)) vs)

-- one filling's weights are at most another's
pub sum_below : (p : Validator → Bool) (marks : List ℕ) (f g : Filling) → ((i mark : ℕ) (v : Validator) → weight p (filled_one mark (f i) v) ≤ weight p (filled_one mark (g i) v)) → (vs : List Validator) → balance_in p marks f vs ≤ balance_in p marks g vs
unfolding filled sum
sum_below p marks f g k [] = omega arith
sum_below p marks f g k (v ∷ vs) = omega (arith, k 0 (get_or marks 0 0) v, sum_below p (drop 1 marks) (λ i. f (suc i)) (λ i. g (suc i)) (λ i mark v. k (suc i) mark v) vs)

weight-below : (a b : Bool) (w : ℕ) → (a ≡ true → b ≡ true) → cond a w 0 ≤ cond b w 0
weight-below true true w h = omega arith
weight-below true false w h = absurd (let z : ◌≡◌ {A = ℕ} 0 1 = ap (λ (t : Bool). cond t 1 0) (h refl) in omega arith)
weight-below false b w h = omega arith

unknown-below : (active unknown hit hit' flag live : Bool) → (hit ≡ true → hit' ≡ true) → (active && cond unknown hit flag && live) ≡ true → (active && cond unknown hit' flag && live) ≡ true
unknown-below true true true hit' flag live h e = rw (h refl) e
unknown-below true true false hit' flag live h e = absurd (let z : ◌≡◌ {A = ℕ} 0 1 = ap (λ (t : Bool). cond t 1 0) e in omega arith)
unknown-below true false hit hit' flag live h e = e
unknown-below false unknown hit hit' flag live h e = absurd (let z : ◌≡◌ {A = ℕ} 0 1 = ap (λ (t : Bool). cond t 1 0) e in omega arith)

-- The two targets

module _ (cur : ℕ) where
  abbrev pub current_target : Validator → Bool
  current_target = is_unslashed_participating cur 1 cur

  module _ (marks : List ℕ) (vs : List Validator) where
    pub current-below : (f g : Filling) → ((i : ℕ) → (f i).current ≡ true → (g i).current ≡ true) → balance_in current_target marks f vs ≤ balance_in current_target marks g vs
    current-below f g h =
        sum_below current_target marks f g
        (λ i mark v.
        let live = not (is_slashed v) in
        let flag = has_flag v.current_epoch_participation 1 in
        rw (current-filled cur mark (f i) v, current-filled cur mark (g i) v, balance-filled cur mark (f i) v, balance-filled cur mark (g i) v)
        (weight-below (from_vote (f i) mark v) (from_vote (g i) mark v) v.effective_balance (unknown-below (is_active_validator v cur) (current_unknown mark) (f i).current (g i).current flag live (h i))))
        vs
      where
        from_vote : Vote → ℕ → Validator → Bool
        from_vote vote mark v = is_active_validator v cur && cond (current_unknown mark) vote.current (has_flag v.current_epoch_participation 1) && not (is_slashed v)

  module _ (epoch : ℕ) (n : epoch ≡ cur → ⊥) (marks : List ℕ) (vs : List Validator) where
    pub previous-below : (f g : Filling) → ((i : ℕ) → (f i).previous ≡ true → (g i).previous ≡ true) → balance_in (is_unslashed_participating cur 1 epoch) marks f vs ≤ balance_in (is_unslashed_participating cur 1 epoch) marks g vs
    previous-below f g h =
        sum_below (is_unslashed_participating cur 1 epoch) marks f g
        (λ i mark v.
        let live = not (is_slashed v) in
        let flag = has_flag v.previous_epoch_participation 1 in
        rw (previous-filled cur mark (f i) v epoch n, previous-filled cur mark (g i) v epoch n, balance-filled cur mark (f i) v, balance-filled cur mark (g i) v)
        (weight-below (from_vote (f i) mark v) (from_vote (g i) mark v) v.effective_balance (unknown-below (is_active_validator v epoch) (previous_unknown mark) (f i).previous (g i).previous flag live (h i))))
        vs
      where
        from_vote : Vote → ℕ → Validator → Bool
        from_vote vote mark v = is_active_validator v epoch && cond (previous_unknown mark) vote.previous (has_flag v.previous_epoch_participation 1) && not (is_slashed v)

  -- who is active does not depend on the filling
  pub active-kept : (marks : List ℕ) (f : Filling) (vs : List Validator) → balance_in (λ v. is_active_validator v cur) marks f vs ≡ sum (map (weight (λ v. is_active_validator v cur)) vs)
  active-kept marks f vs = sum_kept (λ v. is_active_validator v cur) (λ mark vote v. rw (active-filled cur mark vote v cur, balance-filled cur mark vote v)) marks f vs

-- one validator of a filled registry
pub length-filled : (marks : List ℕ) (f : Filling) (vs : List Validator) → length (filled marks f vs) ≡ length vs
unfolding filled
length-filled marks f [] = refl
length-filled marks f (v ∷ vs) = ap suc (length-filled (drop 1 marks) (λ i. f (suc i)) vs)

pub filled_at : (marks : List ℕ) (f : Filling) (vs : List Validator) (i : ℕ) → i < length vs → get_or (filled marks f vs) i nobody ≡ filled_one (get_or marks i 0) (f i) (get_or vs i nobody)
unfolding filled
filled_at marks f [] i l = absurd (omega arith)
filled_at marks f (v ∷ vs) zero l = refl
filled_at marks f (v ∷ vs) (suc i) l = filled_at (drop 1 marks) (λ i. f (suc i)) vs i (omega arith) ∙ ap (λ (m : ℕ). filled_one m (f (suc i)) (get_or vs i nobody)) (mark-at marks i)
  where
    mark-at : (marks : List ℕ) (i : ℕ) → get_or (drop 1 marks) i 0 ≡ get_or marks (suc i) 0
    mark-at [] i = refl
    mark-at (m ∷ ms) i = refl
