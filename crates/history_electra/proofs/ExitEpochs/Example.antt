-- The bound is met exactly, by a close and an exit together; the premises are needed; and what the first used up counts.
use mathlib.Core.Path.{◌≡◌, refl}
use mathlib.Core.Logic.{inl}
use mathlib.Core.Bool.{Bool, true, false}
use mathlib.Core.List.{List, [], ◌∷◌, map}
use Prim.Native.Nat.{ℕ, ◌+◌, ◌≤◌}
use native.Mathlib.Omega.{arith}
use Rattle.definitions.specs.Record.{Validator}
use Rattle.definitions.specs.Updates.{with_balance, with_effective_balance}
use Rattle.definitions.specs.Checked.{value, refused}
use Rattle.definitions.specs.declared.Refusal.TheVariants.{BadShape}
use Rattle.definitions_electra.specs.declared.ExitChurn.{ExitChurn}
use Rattle.definitions_electra.specs.Record.{ElectraState, with_churn}
use Rattle.history.proofs.Computing.{computing}
use Rattle.history.proofs.Induction.{All, all-met}
use Rattle.history.proofs.Small.{record_of, validator}
use Rattle.history_electra.specs.ExitEpochs.{Exit, epoch_of, used, given, balances, of_first, room, Event, after, made, Others, Premises, Claim, exit_made, exits_from, exits_made, Called, closing, exiting, event}
use Rattle.history_electra.proofs.Computing.{electra}
use Rattle.history_electra.proofs.Small.{rules, state}
use Rattle.history_electra.proofs.ExitEpochs.Calls.{exit-epochs}

abbrev pair : ℕ → ℕ → ExitChurn
pair left epoch = record { exit_balance_to_consume = left; earliest_exit_epoch = epoch }

-- active, with this effective balance
abbrev holds : ℕ → Validator
holds balance = with_balance balance (with_effective_balance balance (validator 0 0 0 0))

-- at this slot, four of which are an epoch: the least exit epoch is 5 in the first, 6 in the second
abbrev with : ℕ → ExitChurn → List Validator → ElectraState
with slot p vs = with_churn p (state (record_of slot 0 0 0 0 vs) (0 ∷ 1 ∷ []) (0 ∷ 0 ∷ []) 0 [])

-- by a limit of c: a close, and an order of the first validator's exit
abbrev closes : ℕ → ExitChurn → List Validator → Bool × Called
closes c p vs = (false, closing (rules 4 1 c) (value tt) (with 0 p vs))

abbrev exits : ℕ → ℕ → ExitChurn → ℕ → Bool × Called
exits c slot p balance = (false, exiting (rules 4 1 c) (value tt) (with slot p (holds balance ∷ [])) 0)

-- A close ejects one of 11 with a limit of 10, which uses up epoch 5 and opens 6; others add one of 9, whose exit is ordered: refused, and then accepted
unfoldable pub run : List Event
run =
    event (closes 10 (pair 0 0) (holds 11 ∷ holds 32 ∷ [])) ∷
    event (true, exiting (rules 4 1 10) (refused BadShape) (with 0 (pair 9 6) (holds 9 ∷ [])) 0) ∷
    event (exits 10 0 (pair 9 6) 9) ∷
    []

abbrev calls : List (Bool × Called)
calls =
    closes 10 (pair 0 0) (holds 11 ∷ holds 32 ∷ []) ∷
    (true, exiting (rules 4 1 10) (refused BadShape) (with 0 (pair 9 6) (holds 9 ∷ [])) 0) ∷
    exits 10 0 (pair 9 6) 9 ∷
    []

pub premises : Premises 10 (pair 0 0) run
unfolding run computing electra exit_made exits_from exits_made
premises =
    record {
      left = omega arith;
      handed = all-met (λ r e. Others 10 r e.opening) after (map event calls) (pair 0 0) (inl (refl, omega arith), (inl (refl, omega arith), (inl (refl, omega arith), tt)));
      limits = tt;
    }

-- epoch 6 is given 20: the limit, 10, and the 10 that the first used up of epoch 5
pub record Exactly : Type 0 where
  pub answers : map (λ e. e.refusal) run ≡ 0 ∷ 1 ∷ 0 ∷ []
  pub epochs : map epoch_of (made run) ≡ 6 ∷ 6 ∷ []
  pub first : of_first used (given 6 (made run)) ≡ 10
  pub met : balances (given 6 (made run)) ≡ 10 + of_first used (given 6 (made run))
  pub sharply : balances (given 6 (made run)) ≡ of_first room (given 6 (made run))

pub exactly : Exactly
unfolding run computing electra exit_made exits_from exits_made
exactly = record { answers = refl; epochs = refl; first = refl; met = refl; sharply = refl }

pub claimed : Claim 10 run
unfolding run
claimed = exit-epochs 10 (pair 0 0) calls premises

-- Wrong: one churn limit alone
pub not_one_limit : ((C : ℕ) (start : ExitChurn) (calls : List (Bool × Called)) → Premises C start (map event calls)
    → (x : ℕ) → balances (given x (made (map event calls))) ≤ C) → ⊥
unfolding run
not_one_limit h = absurd (omega (arith, exactly.met, exactly.first, h 10 (pair 0 0) calls premises 6))

-- Without one of the premises, the others met, the claim is false
pub record Fails (C : ℕ) (Left : ℕ → Type 0) (Between : ExitChurn → ExitChurn → Type 0) (Limit : ℕ → Type 0) : Type 0 where
  pub start : ExitChurn
  pub ordered : List (Bool × Called)
  pub left : Left start.exit_balance_to_consume
  pub handed : All (λ r e. Between r e.opening) after start (map event ordered)
  pub limits : All (λ (u : Unit {0}) (e : Exit). Limit e.limit) (λ u e. u) tt (made (map event ordered))
  pub not_claimed : Claim C (map event ordered) → ⊥

-- 100 are left of epoch 10 where the limit is 1
left-shown : Fails 1 (λ b. Unit {0}) (Others 1) (λ l. l ≤ 1)
unfolding computing electra exit_made
left-shown =
    record {
      start = pair 100 10;
      ordered = exits 1 0 (pair 100 10) 100 ∷ [];
      left = tt;
      handed = (inl (refl, omega arith), tt);
      limits = (omega arith, tt);
      not_claimed = λ c. absurd (omega (arith, c.full 10));
    }

-- the limit met is 10, and not 5
limit-shown : Fails 5 (λ b. b ≤ 5) (Others 5) (λ l. Unit {0})
unfolding computing electra exit_made
limit-shown =
    record {
      start = pair 0 0;
      ordered = exits 10 0 (pair 0 0) 10 ∷ [];
      left = omega arith;
      handed = (inl (refl, omega arith), tt);
      limits = (tt, tt);
      not_claimed = λ c. absurd (omega (arith, c.full 5));
    }

-- others give an epoch that is used up room again
refilled : Fails 10 (λ b. b ≤ 10) (λ r o. o.earliest_exit_epoch ≡ r.earliest_exit_epoch) (λ l. l ≤ 10)
unfolding computing electra exit_made
refilled =
    record {
      start = pair 0 0;
      ordered = exits 10 0 (pair 0 0) 10 ∷ exits 10 0 (pair 10 5) 10 ∷ [];
      left = omega arith;
      handed = (refl, (refl, tt));
      limits = (omega arith, (omega arith, tt));
      not_claimed = λ c. absurd (omega (arith, c.full 5));
    }

-- others go back to an earlier epoch: one of 2, by a limit of 1, is given epoch 6 and uses up 5, and in the next epoch one of 1 is given 6 too
back : Fails 1 (λ b. b ≤ 1) (λ r o. o.exit_balance_to_consume ≤ 1) (λ l. l ≤ 1)
unfolding computing electra exit_made
back =
    record {
      start = pair 0 0;
      ordered = exits 1 0 (pair 0 0) 2 ∷ exits 1 4 (pair 0 0) 1 ∷ [];
      left = omega arith;
      handed = (omega arith, (omega arith, tt));
      limits = (omega arith, (omega arith, tt));
      not_claimed = λ c. absurd (omega (arith, c.full 6));
    }

-- others go on to a later epoch of which more is left than the limit
overfull : Fails 1 (λ b. b ≤ 1) (λ r o. r.earliest_exit_epoch ≤ o.earliest_exit_epoch) (λ l. l ≤ 1)
unfolding computing electra exit_made
overfull =
    record {
      start = pair 0 0;
      ordered = exits 1 0 (pair 100 10) 100 ∷ [];
      left = omega arith;
      handed = (omega arith, tt);
      limits = (omega arith, tt);
      not_claimed = λ c. absurd (omega (arith, c.full 10));
    }

pub record Needed : Type 0 where
  pub start_left : Fails 1 (λ b. Unit {0}) (Others 1) (λ l. l ≤ 1)
  pub largest-limit : Fails 5 (λ b. b ≤ 5) (Others 5) (λ l. Unit {0})
  pub others_use : Fails 10 (λ b. b ≤ 10) (λ r o. o.earliest_exit_epoch ≡ r.earliest_exit_epoch) (λ l. l ≤ 10)
  pub others_forward : Fails 1 (λ b. b ≤ 1) (λ r o. o.exit_balance_to_consume ≤ 1) (λ l. l ≤ 1)
  pub others_leave : Fails 1 (λ b. b ≤ 1) (λ r o. r.earliest_exit_epoch ≤ o.earliest_exit_epoch) (λ l. l ≤ 1)

pub needed : Needed
needed = record { start_left = left-shown; largest-limit = limit-shown; others_use = refilled; others_forward = back; others_leave = overfull }
