-- What the amounts hold where the parts of a close have ended, in the parts' own terms.
use Rattle.std.specs.Prelude.{◌≡◌, cond, List, [], ℕ, ◌+◌, ◌-◌, ◌*◌, ◌≤◌, ◌<◌, eqb, length, get_or, take}
use Rattle.definitions.specs.Record.{Validator}
use Rattle.definitions.specs.Checked.{value}
use Rattle.definitions_close.specs.Amounts.{booked_by_rewards}
use Rattle.definitions_electra.specs.declared.ElectraRules.{ElectraRules}
use Rattle.definitions_electra.specs.Loops.{fold_until_checked}
use Rattle.definitions_electra.specs.Record.{PendingConsolidation}
use Rattle.definitions_electra.specs.Document.Electra.EpochProcessing.{consolidations_stop}
use Rattle.definitions_electra_close.specs.Amounts.{move_consolidation}
use Rattle.electra_consolidations.specs.Moves.{moved_to}
use Rattle.electra_first.specs.Taken.{balance_at}
use Rattle.electra_first.specs.First.{Five}
use Rattle.electra_steps.specs.Last.{Six, under}

-- the last two columns of n rows, from rows where they were 0
pub record MovesIn (n next : ℕ) (vs : List Validator) (pairs : List PendingConsolidation) (xs : List ℕ) : Type 0 where
  pub lent : List ℕ
  pub none : (i k : ℕ) → i < n → 10 ≤ k → k < 12 → get_or lent (12 * i + k) 0 ≡ 0
  pub moved : List Validator
  pub count : ℕ
  pub booked : fold_until_checked (λ m. consolidations_stop next m.consolidating) move_consolidation (moved_to n vs 0 lent) pairs
      ≡ value (moved_to n moved count xs)

abbrev pub registered : Six → List Validator
registered x = x.processing.registry.validators

-- of the n validators of the opening, and of those added
pub record Twelve (n : ℕ) (r : ElectraRules) (v : Five) (x : Six) (next : ℕ) (pairs : List PendingConsolidation) (xs : List ℕ) : Type 0 where
  pub long : length xs ≡ 12 * length (registered x)
  pub least : n ≤ length (registered x)
  pub nine : (es : List (List ℕ))
      → booked_by_rewards (under r) (under r).inactivity_penalty_quotient_altair v.finality.slot
      v.finality.finalized_checkpoint.epoch v.four.paid.scored ≡ value es
      → (i k : ℕ) → i < n → k < 8 → get_or xs (12 * i + k) 0 ≡ get_or (get_or es i []) k 0
  pub ninth : (i : ℕ) → i < n → get_or xs (12 * i + 8) 0 ≡ balance_at v.four.taken.updated.validators i - balance_at v.four.taken.lessened i
  pub tenth : (i : ℕ) → i < n → get_or xs (12 * i + 9) 0 ≡ balance_at (registered x) i - balance_at v.four.taken.lessened i
  pub moves : MovesIn n next (take n (registered x)) pairs xs
  pub added : (i k : ℕ) → n ≤ i → i < length (registered x) → k < 12 → get_or xs (12 * i + k) 0 ≡ cond (eqb k 9) (balance_at (registered x) i) 0
