-- The bound is met exactly, by a close and exits together.
use mathlib.Core.Path.{◌≡◌, refl}
use mathlib.Core.List.{List, [], ◌∷◌, map}
use Prim.Native.Nat.{◌+◌, max}
use Rattle.definitions.specs.Lists.{maximum}
use Rattle.definitions.specs.Record.{Validator}
use Rattle.definitions.specs.LeafRefusals.{exit_tests}
use Rattle.history.proofs.Computing.{computing}
use Rattle.history.proofs.Induction.{All, all-met}
use Rattle.history.proofs.Small.{settings, validator, far}
use Rattle.history.specs.ExitEpochs.{Others, after, standing, met, holding, Premises, Claim}
use Rattle.history.proofs.ExitEpochs.Runs.{Run, events, close_of, exit_of, full, low, rotated, leaving, follow}
use Rattle.history.proofs.ExitEpochs.EveryRun.{exit-epochs}

abbrev pub start : List Validator
start = low ∷ low ∷ low ∷ full ∷ full ∷ []

-- after a close with churn limit 2: two of the ejected have epoch 8, and one has 9
abbrev closed : List Validator
closed = leaving 8 (rotated low) ∷ leaving 8 (rotated low) ∷ leaving 9 (rotated low) ∷ rotated full ∷ rotated full ∷ []

-- others add one; then number 3 leaves
abbrev added : Validator → List Validator
added v = leaving 8 (rotated low) ∷ leaving 8 (rotated low) ∷ leaving 9 (rotated low) ∷ v ∷ rotated full ∷ validator far far 0 0 ∷ []

-- a close, and exits of 3, of 0 who leaves already, of 9 who is not there, and of 4
unfoldable pub run : Run
run =
    close_of settings 50 start ∷
    exit_of settings 3 (added (rotated full)) ∷
    exit_of settings 0 (added (leaving 9 (rotated full))) ∷
    exit_of settings 9 (added (leaving 9 (rotated full))) ∷
    exit_of settings 4 (added (leaving 9 (rotated full))) ∷
    []

handed : All (λ r e. Others r e.opening) after start (events run)
unfolding run computing exit_tests
handed = (
  follow start start (refl, (refl, (refl, (refl, (refl, tt))))),
  (
    follow closed (added (rotated full)) (refl, (refl, (refl, (refl, (refl, (refl, tt)))))),
    (again, (again, (again, tt))),
  ),
)
  where
    again : Others (added (leaving 9 (rotated full))) (added (leaving 9 (rotated full)))
    again = follow (added (leaving 9 (rotated full))) (added (leaving 9 (rotated full))) (refl, (refl, (refl, (refl, (refl, (refl, tt))))))

pub premises : Premises start (events run)
unfolding run computing exit_tests
premises = record { handed = all-met (λ r e. Others r e.opening) after (events run) start handed; churn = tt }

-- epoch 8 is filled by the close, 9 by both; who leaves already meets no limit
pub record Exactly : Type 0 where
  pub answers : map (λ e. e.refusal) (events run) ≡ 0 ∷ 0 ∷ 0 ∷ 1 ∷ 0 ∷ []
  pub limits : met (events run) ≡ 2 ∷ 2 ∷ 2 ∷ []
  pub before : holding 8 start + holding 9 start + holding 10 start ≡ 0
  pub eight : holding 8 (standing start (events run)) ≡ max (holding 8 start) (maximum 0 (met (events run)))
  pub nine : holding 9 (standing start (events run)) ≡ max (holding 9 start) (maximum 0 (met (events run)))
  pub ten : holding 10 (standing start (events run)) ≡ 1

pub exactly : Exactly
unfolding run computing exit_tests
exactly = record { answers = refl; limits = refl; before = refl; eight = refl; nine = refl; ten = refl }

pub claimed : Claim start (events run)
claimed = exit-epochs start run premises
