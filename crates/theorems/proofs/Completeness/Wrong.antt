-- Wrong statements and wrong calls, shut out: that on 3 the closing buffers hold the opening, as on 4 and 5; that the activation queue goes by
-- the validators' numbers alone; that with a stop those ahead are counted below it alone, or once others have been activated; a justification
-- that refuses every record.
use mathlib.Core.Path.{◌≡◌, refl, ap}
use mathlib.Core.Bool.{Bool, cond, ◌&&◌}
use mathlib.Core.List.{List, [], ◌∷◌, map, foldl}
use mathlib.Core.Logic.{inl}
use Prim.Native.Nat.{ℕ}
use native.Mathlib.Omega.{arith}
use lib.Dec.{ltb}
use lib.ListN.{length, get_or, set, take, replicate}
use Rattle.definitions.specs.declared.Checkpoint.{Checkpoint}
use Rattle.definitions.specs.declared.CloseAnswer.{CloseAnswer}
use Rattle.definitions.specs.declared.JustificationAnswer.{JustificationAnswer}
use Rattle.definitions.specs.declared.Settings.{Settings}
use Rattle.definitions.specs.Lists.{all, filter, range, insert, sorted, every}
use Rattle.definitions.specs.Record.{Validator, BeaconState, FAR_FUTURE_EPOCH, decode_one, decode, decode_first, nobody}
use Rattle.definitions.specs.Updates.{with_activation}
use Rattle.definitions.specs.Checked.{bind}
use Rattle.definitions.specs.Refusals.{in_order, settings_shaped, registry_shaped, good_settings, good_finality, good_registry, justification_tests, after_tests, closing_buffer}
use Rattle.definitions.specs.Raised.{none_raised}
use Rattle.definitions.specs.Rust.Altair.EpochProcessing.{process_justification_and_finalization}
use Rattle.definitions.specs.Rules.{settings_under, altair_rules, rules_shaped, good_rules}
use Rattle.definitions.specs.Document.Phase0.Helpers.{is_eligible_for_activation, get_current_epoch, compute_epoch_at_slot}
use Rattle.definitions.specs.Document.Phase0.EpochProcessing.{activation_queue, dequeued}
use Rattle.definitions.specs.RegisterOrder.{ahead, map_below, activated_at, activated}
use Rattle.definitions.specs.Close.{Call, state_of, limited_step, limited_tests, closed, close}
use Rattle.agreement.specs.Restored.{OneOf, Opening}
use Rattle.theorems.specs.Completeness.Records.{least, call_of}
use Rattle.theorems.specs.Completeness.DocumentIn64Bits as in64
use Rattle.theorems.specs.Completeness.Told.{JustificationTold}

-- 16 is no number of four bits, and the closing slashings hold 1 where the opening has 0
abbrev bad_bits : Call
bad_bits =
    let checkpoint : Checkpoint = record { epoch = 0; root = replicate 32 0 } in
    record {
      rules = altair_rules (least 1 0 0);
      finality = record {
        slot = 0;
        justification_bits = 16;
        previous_justified_checkpoint = checkpoint;
        current_justified_checkpoint = checkpoint;
        finalized_checkpoint = checkpoint;
      };
      registry = [];
      slashings = 0 ∷ [];
      roots = replicate 32 0;
      closing_registry = [];
      closing_slashings = 1 ∷ [];
    }

pub not_restored_on_three : ((c : Call) → OneOf (close c).refusal (3 ∷ 4 ∷ 5 ∷ []) → Opening c) → ⊥
unfolding close closed limited_tests settings_under rules_shaped good_rules after_tests closing_buffer bind in_order settings_shaped registry_shaped good_settings good_finality good_registry decode decode_first all every
not_restored_on_three h = let e : ◌≡◌ {A = ℕ} 1 0 = ap (λ xs. get_or xs 0 0) (h bad_bits (inl refl)).slashings in omega arith

-- those with fewer than `limit` eligible ones of smaller numbers
abbrev activated_by_number : ℕ → ℕ → ℕ → List Validator → List Validator
activated_by_number epoch limit finalized_epoch vs =
    let eligible : ℕ → Bool = λ i. is_eligible_for_activation finalized_epoch (get_or vs i nobody) in
    let ahead : ℕ → ℕ = λ i. length (filter (λ j. eligible j && ltb j i) (range 0 (length vs))) in
    map (λ i. let v = get_or vs i nobody in cond (eligible i && ltb (ahead i) limit) (with_activation epoch v) v) (range 0 (length vs))

-- eligible since this epoch, and waiting
abbrev waiting : ℕ → Validator
waiting epoch = decode_one (32_000_000_000 ∷ 0 ∷ epoch ∷ FAR_FUTURE_EPOCH ∷ FAR_FUTURE_EPOCH ∷ FAR_FUTURE_EPOCH ∷ 32_000_000_000 ∷ 0 ∷ 0 ∷ 0 ∷ [])

-- the second has waited longer, and is the one that is activated
pub not_by_number : ((epoch limit finalized_epoch : ℕ) (vs : List Validator) → activated_by_number epoch limit finalized_epoch vs ≡ dequeued epoch limit finalized_epoch vs) → ⊥
unfolding dequeued activation_queue is_eligible_for_activation filter range sorted insert
not_by_number h =
    let e : ◌≡◌ {A = ℕ} 9 FAR_FUTURE_EPOCH = ap (λ vs. (get_or vs 0 nobody).activation_epoch) (h 9 1 2 (waiting 2 ∷ waiting 1 ∷ [])) in
    omega arith

-- R-6: those ahead are counted among those below the stop
abbrev counted_below : ℕ → ℕ → ℕ → ℕ → List Validator → List Validator
counted_below epoch limit finalized_epoch stop vs = map_below stop (activated_at epoch limit finalized_epoch (take stop vs)) vs

-- the first is behind the second, which is not below the stop
pub not_counted_below : ((epoch limit finalized_epoch stop : ℕ) (vs : List Validator) → counted_below epoch limit finalized_epoch stop vs ≡ activated epoch limit finalized_epoch stop vs) → ⊥
unfolding activated activated_at ahead map_below is_eligible_for_activation filter range
not_counted_below h =
    let e : ◌≡◌ {A = ℕ} 9 FAR_FUTURE_EPOCH = ap (λ vs. (get_or vs 0 nobody).activation_epoch) (h 9 1 2 1 (waiting 2 ∷ waiting 1 ∷ [])) in
    omega arith

-- those ahead are counted on the registry as it then stands
abbrev counted_after : ℕ → ℕ → ℕ → ℕ → List Validator → List Validator
counted_after epoch limit finalized_epoch stop vs =
    foldl (λ us i. set us i (activated_at epoch limit finalized_epoch us i (get_or us i nobody))) vs (range 0 stop)

-- once the first is activated nobody is ahead of the second
pub not_counted_after : ((epoch limit finalized_epoch stop : ℕ) (vs : List Validator) → counted_after epoch limit finalized_epoch stop vs ≡ activated epoch limit finalized_epoch stop vs) → ⊥
unfolding activated activated_at ahead map_below is_eligible_for_activation filter range
not_counted_after h =
    let e : ◌≡◌ {A = ℕ} 9 FAR_FUTURE_EPOCH = ap (λ vs. (get_or vs 1 nobody).activation_epoch) (h 9 1 2 2 (waiting 1 ∷ waiting 1 ∷ [])) in
    omega arith

-- Justification: the same refusal for every record, 4 or 5 among them. At epoch 0 nothing is asked for that could be refused.
abbrev pub refusing : ℕ → BeaconState → JustificationAnswer
refusing n st = record { refusal = n; finality = st.finality; raised = none_raised; test = 0 }

pub not_refusing_all :
    (n : ℕ) → (n ≡ 0 → ⊥)
    → ((s : Settings) (st : BeaconState) (registry : List ℕ) → decode registry ≡ st.validators → JustificationTold s st registry (refusing n st)) → ⊥
unfolding decode decode_first bind after_tests limited_step in64.limited_step process_justification_and_finalization justification_tests settings_under rules_shaped good_rules in_order settings_shaped registry_shaped good_settings good_finality good_registry all every get_current_epoch compute_epoch_at_slot
not_refusing_all n z h =
    let c = call_of (least 1 0 0) [] 0 0 in
    z (ap (λ (a : CloseAnswer). a.refusal) (h (least 1 0 0) (state_of c) [] refl).call.complete)
