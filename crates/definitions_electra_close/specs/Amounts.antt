-- The amounts of an Electra close. Document 03, F-3: "twelve amounts a validator ..: R-4's nine, then deposited, consolidated out, consolidated in".
use Rattle.std.specs.Prelude.{cond, List, [], ◌∷◌, ◌++◌, ℕ, ◌+◌, ◌-◌, ◌/◌, ◌%◌, ◌^◌, min, length, get_or, set, replicate}
use Rattle.definitions.specs.declared.Settings.{Settings}
use Rattle.definitions.specs.Lists.{range}
use Rattle.definitions.specs.Record.{Validator, nobody, is_slashed}
use Rattle.definitions.specs.Checked.{Checked, value, bind, add64, mul64, sum64, map_checked}
use Rattle.definitions.specs.Rules.{in_place}
use Rattle.definitions.specs.Rust.Phase0.Helpers.{get_total_active_balance}
use Rattle.definitions.specs.Rust.Altair.EpochProcessing.{is_slashing_due}
use Rattle.definitions_close.specs.Amounts.{booked_by_rewards}
use Rattle.definitions_electra.specs.declared.ElectraRules.{ElectraRules}
use Rattle.definitions_electra.specs.Loops.{fold_until_checked}
use Rattle.definitions_electra.specs.Record.{PendingConsolidation, ElectraState}
use Rattle.definitions_electra.specs.Document.Electra.EpochProcessing.{current_epoch_of, finalized_epoch_of, consolidated_balance, Consolidating, consolidations_stop}
use Rattle.definitions_electra.specs.Evaluated.Electra.EpochProcessing.{process_consolidation, close_up_to}

-- Rewards and penalties: R-4's eight numbers a validator, as the third step finds the state

unfoldable pub reward_amounts : ElectraRules → ElectraState → Checked (List (List ℕ))
reward_amounts r st =
    let quotient = r.bellatrix.inactivity_penalty_quotient_bellatrix in
    booked_by_rewards (in_place r.bellatrix r.settings) quotient st.altair.finality.slot (finalized_epoch_of st) st.altair.validators

-- Slashings: the ninth, as the fifth step finds the state. "An amount cut off at balance 0 is given as cut."

-- beside `slash`
unfoldable pub taken_from : Settings → ℕ → ℕ → Validator → Checked ℕ
taken_from s epoch penalty_per_effective_balance_increment v =
    bind (is_slashing_due s epoch v) (λ due.
    cond due
    (bind (mul64 penalty_per_effective_balance_increment (v.effective_balance / s.effective_balance_increment)) (λ penalty. value (min v.balance penalty)))
    (value 0))

-- beside `process_slashings`
unfoldable pub slashing_amounts : ElectraRules → ElectraState → Checked (List ℕ)
slashing_amounts r st =
    let s = r.settings in
    let vs = st.altair.validators in
    bind (get_total_active_balance s st.altair.finality.slot vs) (λ total_balance.
    bind (sum64 st.altair.slashings) (λ slashed.
    bind (mul64 slashed r.bellatrix.proportional_slashing_multiplier_bellatrix) (λ product.
    let per_increment = min product total_balance / (total_balance / s.effective_balance_increment) in
    map_checked (taken_from s (current_epoch_of r st) per_increment) vs)))

-- Pending deposits: what the sixth step added to the balance; of a new validator all of it

unfoldable pub deposit_amounts : List Validator → List Validator → List ℕ
deposit_amounts before [] = []
deposit_amounts [] (w ∷ after) = w.balance ∷ deposit_amounts [] after
deposit_amounts (v ∷ before) (w ∷ after) = (w.balance - v.balance) ∷ deposit_amounts before after

-- Pending consolidations: beside the seventh step's loop, what each took from its source and gave to its target. A sum that leaves 64 bits is given
-- by its last 64: docs/DIFFERENCES.md.

pub record Moved : Type 0 where
  pub consolidating : Consolidating
  pub out : List ℕ
  pub into : List ℕ

abbrev pub add_at : List ℕ → ℕ → ℕ → List ℕ
add_at xs index x = set xs index ((get_or xs index 0 + x) % (2 ^ 64))

unfoldable pub move_consolidation : Moved → PendingConsolidation → Checked Moved
move_consolidation m c =
    let source = get_or m.consolidating.validators c.source_index nobody in
    let moved = cond (is_slashed source) 0 (consolidated_balance source) in
    bind (process_consolidation m.consolidating c) (λ next.
    value (record { consolidating = next; out = add_at m.out c.source_index moved; into = add_at m.into c.target_index moved }))

unfoldable pub consolidation_amounts : ElectraRules → ElectraState → Checked Moved
consolidation_amounts r st =
    let vs = st.altair.validators in
    let none : List ℕ = replicate (length vs) 0 in
    let begin : Moved = record { consolidating = record { validators = vs; next_pending_consolidation = 0 }; out = none; into = none } in
    bind (add64 (current_epoch_of r st) 1) (λ next.
    fold_until_checked (λ m. consolidations_stop next m.consolidating) move_consolidation begin st.pending_consolidations)

-- The close

-- of the validator at an index; one that the close has added has none of the first nine
abbrev pub twelve : List (List ℕ) → List ℕ → List ℕ → Moved → ℕ → List ℕ
twelve eights ninths deposited m i =
    get_or eights i (replicate 8 0) ++ (get_or ninths i 0 ∷ get_or deposited i 0 ∷ get_or m.out i 0 ∷ get_or m.into i 0 ∷ [])

unfoldable pub rows : (ℕ → List ℕ) → List ℕ → List ℕ
rows row [] = []
rows row (i ∷ is) = row i ++ rows row is

-- the rewards step is the third, slashings the fifth, deposits the sixth and consolidations the seventh: each as it finds the state
unfoldable pub electra_amounts : ElectraRules → ElectraState → Checked (List ℕ)
electra_amounts r st =
    bind (close_up_to 2 r st) (λ scored.
    bind (reward_amounts r scored) (λ eights.
    bind (close_up_to 4 r st) (λ updated.
    bind (slashing_amounts r updated) (λ ninths.
    bind (close_up_to 5 r st) (λ slashed.
    bind (close_up_to 6 r st) (λ applied.
    bind (consolidation_amounts r applied) (λ moved.
    let deposited = deposit_amounts slashed.altair.validators applied.altair.validators in
    value (rows (twelve eights ninths deposited moved) (range 0 (length applied.altair.validators))))))))))
