-- One stored closing for all, registry included, is shut out: two records of five validators that are both closed, and whose closing
-- registries differ. So is a registry that stays as it was opened, by one of them.
use mathlib.Core.Path.{◌≡◌, refl, sym, ap, ◌∙◌}
use mathlib.Core.List.{List, [], ◌∷◌}
use Prim.Native.Nat.{ℕ}
use native.Mathlib.Omega.{arith}
use lib.ListN.{get_or}
use Rattle.definitions.specs.Record.{FAR_FUTURE_EPOCH}
use Rattle.definitions.specs.Close.{Call, close}
use Rattle.history.proofs.Computing.{computing}
use Rattle.history.proofs.Small.{settings, validator, far, record_of, call}

-- number 1 waits behind two others, or before them: of the churn limit's two it is none, or the first
abbrev behind : Call
behind = call settings 50 (record_of 15 3 1 2 1 (validator 0 0 7 7 ∷ validator 1 far 0 0 ∷ validator 0 far 0 0 ∷ validator 0 far 0 0 ∷ validator 1 far 0 0 ∷ []))

abbrev before : Call
before = call settings 50 (record_of 15 3 1 2 1 (validator 0 0 7 7 ∷ validator 0 far 0 0 ∷ validator 1 far 0 0 ∷ validator 1 far 0 0 ∷ validator 1 far 0 0 ∷ []))

pub not_one_stored : (stored : List ℕ) → ((c : Call) → (close c).refusal ≡ 0 → (close c).closing_registry ≡ stored) → ⊥
unfolding computing
not_one_stored stored h =
    let same = h behind refl ∙ sym (h before refl) in
    let activation : ◌≡◌ {A = ℕ} FAR_FUTURE_EPOCH 8 = ap (λ xs. get_or xs 13 0) same in
    omega arith

-- the opening handed back; justification done and the other seven steps skipped
pub not_as_opened : ((c : Call) → (close c).refusal ≡ 0 → (close c).closing_registry ≡ c.registry) → ⊥
unfolding computing
not_as_opened h =
    let activation : ◌≡◌ {A = ℕ} 8 FAR_FUTURE_EPOCH = ap (λ xs. get_or xs 13 0) (h before refl) in
    omega arith
