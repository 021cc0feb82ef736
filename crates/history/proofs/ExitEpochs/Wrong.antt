-- Wrong statements, and runs that refute them.
use mathlib.Core.Path.{refl}
use mathlib.Core.List.{List, [], ◌∷◌}
use Prim.Native.Nat.{ℕ, min, max, ◌≤◌, ◌<◌}
use native.Mathlib.Omega.{arith}
use Rattle.definitions.specs.Lists.{maximum}
use Rattle.definitions.specs.Record.{Validator, FAR_FUTURE_EPOCH}
use Rattle.definitions.specs.LeafRefusals.{exit_tests}
use Rattle.history.proofs.Computing.{computing}
use Rattle.history.proofs.Induction.{All, all-met}
use Rattle.history.proofs.Small.{settings_with, settings}
use Rattle.history.specs.ExitEpochs.{Event, Others, after, standing, met, holding, Premises}
use Rattle.history.proofs.ExitEpochs.Runs.{Run, events, close_of, exit_of, full, leaving, follow}

abbrev Statement : (List Validator → List Event → Type 0) → Type 0
Statement Claim = (start : List Validator) (run : Run) → Premises start (events run) → Claim start (events run)

-- The smallest limit met for the largest

abbrev pub smallest : List ℕ → ℕ
smallest [] = 0
smallest (l ∷ []) = l
smallest (l ∷ m ∷ ls) = min l (smallest (m ∷ ls))

-- two leave under limit 2 and hold epoch 8, and one under limit 1
abbrev three : Validator → Validator → List Validator
three v w = v ∷ w ∷ full ∷ []

unfoldable limits-differ : Run
limits-differ =
    exit_of settings 0 (three full full) ∷
    exit_of settings 1 (three (leaving 8 full) full) ∷
    exit_of (settings_with 1) 2 (three (leaving 8 full) (leaving 8 full)) ∷
    []

handed-differ : All (λ r e. Others r e.opening) after (three full full) (events limits-differ)
unfolding limits-differ computing exit_tests
handed-differ = (
  follow (three full full) (three full full) (refl, (refl, (refl, tt))),
  (
    follow (three (leaving 8 full) full) (three (leaving 8 full) full) (refl, (refl, (refl, tt))),
    (follow (three (leaving 8 full) (leaving 8 full)) (three (leaving 8 full) (leaving 8 full)) (refl, (refl, (refl, tt))), tt),
  ),
)

premises-differ : Premises (three full full) (events limits-differ)
unfolding limits-differ computing exit_tests
premises-differ = record { handed = all-met (λ r e. Others r e.opening) after (events limits-differ) (three full full) handed-differ; churn = tt }

pub not_the_smallest : Statement (λ start events. (x : ℕ) → x < FAR_FUTURE_EPOCH → holding x (standing start events) ≤ max (holding x start) (smallest (met events))) → ⊥
unfolding limits-differ computing exit_tests
not_the_smallest c = absurd (omega (arith, c (three full full) limits-differ premises-differ 8 (omega arith)))

-- The number at the start left out: three hold epoch 8 above the limit 2, and a close leaves them

abbrev crowded : List Validator
crowded = leaving 8 full ∷ leaving 8 full ∷ leaving 8 full ∷ []

unfoldable one-close : Run
one-close = close_of settings 30 crowded ∷ []

premises-crowded : Premises crowded (events one-close)
unfolding one-close computing
premises-crowded = record { handed = all-met (λ r e. Others r e.opening) after (events one-close) crowded (follow crowded crowded (refl, (refl, (refl, tt))), tt); churn = tt }

pub not_without_the_start : Statement (λ start events. (x : ℕ) → x < FAR_FUTURE_EPOCH → holding x (standing start events) ≤ maximum 0 (met events)) → ⊥
unfolding one-close computing
not_without_the_start c = absurd (omega (arith, c crowded one-close premises-crowded 8 (omega arith)))

-- FAR counted: one at the start, and others add two, so that three have none

unfoldable joined : Run
joined = close_of settings 30 (full ∷ full ∷ full ∷ []) ∷ []

premises-joined : Premises (full ∷ []) (events joined)
unfolding joined computing
premises-joined = record { handed = all-met (λ r e. Others r e.opening) after (events joined) (full ∷ []) (follow (full ∷ []) (full ∷ full ∷ full ∷ []) (refl, (refl, (refl, tt))), tt); churn = tt }

pub not_far : Statement (λ start events. (x : ℕ) → x ≤ FAR_FUTURE_EPOCH → holding x (standing start events) ≤ max (holding x start) (maximum 0 (met events))) → ⊥
unfolding joined computing
not_far c = absurd (omega (arith, c (full ∷ []) joined premises-joined FAR_FUTURE_EPOCH (omega arith)))
