-- The premises are needed: without one of them, the others met, the claim is false.
use mathlib.Core.Path.{◌≡◌, refl}
use mathlib.Core.List.{List, [], ◌∷◌}
use Prim.Native.Nat.{ℕ, zero, suc, ◌≤◌, ◌<◌}
use native.Mathlib.Omega.{arith}
use lib.Dec.{T, leb}
use lib.ListN.{length}
use Rattle.definitions.specs.Lists.{all}
use Rattle.definitions.specs.Record.{Validator, FAR_FUTURE_EPOCH}
use Rattle.definitions.specs.LeafRefusals.{exit_tests}
use Rattle.history.proofs.Computing.{computing}
use Rattle.history.proofs.Induction.{All}
use Rattle.history.proofs.Small.{settings_with, settings}
use Rattle.history.specs.ExitEpochs.{exit_epoch, Others, after, met, Claim}
use Rattle.history.proofs.ExitEpochs.Runs.{Run, events, close_of, exit_of, full, low, leaving, follow}

-- a run that meets these premises, and of which the claim is false
pub record Fails (Between : List Validator → List Validator → Type 0) (Churn : List ℕ → Type 0) : Type 0 where
  pub start : List Validator
  pub run : Run
  pub handed : All (λ r e. Between r e.opening) after start (events run)
  pub churn : Churn (met (events run))
  pub not_claimed : Claim start (events run) → ⊥

abbrev positive : List ℕ → Type 0
positive limits = T (all (leb 1) limits)

-- the parts of `Others`
abbrev Old : List Validator → List Validator → Type 0
Old r o = (i : ℕ) → i < length r → exit_epoch o i ≡ exit_epoch r i

abbrev New : List Validator → List Validator → Type 0
New r o = (i : ℕ) → length r ≤ i → i < length o → exit_epoch o i ≡ FAR_FUTURE_EPOCH

-- with churn limit 0 an epoch that nobody holds is full: the exit goes to epoch 9, one after the first
exit_without_churn : Fails Others (λ limits. limits ≡ 0 ∷ [])
unfolding computing exit_tests
exit_without_churn =
    record {
      start = full ∷ [];
      run = exit_of (settings_with 0) 0 (full ∷ []) ∷ [];
      handed = (follow (full ∷ []) (full ∷ []) (refl, tt), tt);
      churn = refl;
      not_claimed = λ c. absurd (omega (arith, c 9 (omega arith)));
    }

close_without_churn : Fails Others (λ limits. limits ≡ 0 ∷ [])
unfolding computing
close_without_churn =
    record {
      start = low ∷ [];
      run = close_of (settings_with 0) 10 (low ∷ []) ∷ [];
      handed = (follow (low ∷ []) (low ∷ []) (refl, tt), tt);
      churn = refl;
      not_claimed = λ c. absurd (omega (arith, c 9 (omega arith)));
    }

-- two hold epoch 8 with churn limit 2, and others give it to a third
exit_epoch-changed : Fails New positive
unfolding computing
exit_epoch-changed =
    record {
      start = leaving 8 full ∷ leaving 8 full ∷ full ∷ [];
      run = close_of settings 30 (leaving 8 full ∷ leaving 8 full ∷ leaving 8 full ∷ []) ∷ [];
      handed = (λ i l k. absurd (omega arith), tt);
      churn = tt;
      not_claimed = λ c. absurd (omega (arith, c 8 (omega arith)));
    }

-- and others add a third who holds it
newcomer_leaving : Fails Old positive
unfolding computing
newcomer_leaving =
    record {
      start = two;
      run = close_of settings 30 (leaving 8 full ∷ leaving 8 full ∷ leaving 8 full ∷ []) ∷ [];
      handed = (kept, tt);
      churn = tt;
      not_claimed = λ c. absurd (omega (arith, c 8 (omega arith)));
    }
  where
    two : List Validator
    two = leaving 8 full ∷ leaving 8 full ∷ []

    kept : Old two (leaving 8 full ∷ leaving 8 full ∷ leaving 8 full ∷ [])
    kept zero l = refl
    kept (suc zero) l = refl
    kept (suc (suc i)) l = absurd (omega arith)

pub record Needed : Type 0 where
  pub churn_of_exits : Fails Others (λ limits. limits ≡ 0 ∷ [])
  pub churn_of_closes : Fails Others (λ limits. limits ≡ 0 ∷ [])
  pub old : Fails New positive
  pub new : Fails Old positive

pub needed : Needed
needed = record { churn_of_exits = exit_without_churn; churn_of_closes = close_without_churn; old = exit_epoch-changed; new = newcomer_leaving }
