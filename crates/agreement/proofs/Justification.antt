-- Agreement of justification and finalization.
use mathlib.Core.Path.{◌≡◌, refl}
use mathlib.Core.Bool.{Bool, true, false, cond}
use mathlib.Core.List.{List, []}
use mathlib.Core.Logic.{inr}
use Prim.Native.Nat.{ℕ, ◌+◌, ◌*◌}
use lib.Dec.{leb, ltb}
use Rattle.definitions.specs.declared.Settings.{Settings}
use Rattle.definitions.specs.declared.ActivationLimit.{ActivationLimit}
use Rattle.definitions.specs.declared.Finality.{Finality}
use Rattle.definitions.specs.Record.{BeaconState}
use Rattle.definitions.specs.Updates.{with_finality}
use Rattle.definitions.specs.Document.Phase0.Helpers as document_helpers
use Rattle.definitions.specs.Document.Phase0.EpochProcessing as document_epoch
use Rattle.definitions.specs.Document.Phase0.EpochProcessing.{weighed}
use Rattle.definitions.specs.Document.Altair.EpochProcessing as document
use Rattle.definitions.specs.Rust.Phase0.Helpers as rust_helpers
use Rattle.definitions.specs.Rust.Phase0.EpochProcessing as rust_epoch
use Rattle.definitions.specs.Rust.Altair.EpochProcessing as rust
use Rattle.definitions.specs.Close.{limited_step, justification_step}
use Rattle.agreement.proofs.Agrees.{Agrees, IsOverflow, IsOverflowOrNoRoot, or_more, value-agrees, equal-agrees, refused-agrees, bind-agrees, cond-agrees, either-agrees, add64-agrees, mul64-agrees}
use Rattle.agreement.proofs.Helpers.{start-slot, total-balance, total_active_balance}

block_root_at_slot : (s : Settings) (roots : List ℕ) (state_slot slot : ℕ) → Agrees IsOverflowOrNoRoot (rust_helpers.get_block_root_at_slot s roots state_slot slot) (document_helpers.get_block_root_at_slot s roots slot)
unfolding rust_helpers.get_block_root_at_slot
block_root_at_slot s roots state_slot slot =
    either-agrees (leb state_slot slot) (refused-agrees (inr refl))
    (bind-agrees _ (or_more (add64-agrees _ _)) (either-agrees (ltb (slot + s.slots_per_historical_root) state_slot) (refused-agrees (inr refl)) value-agrees))

pub block_root : (s : Settings) (roots : List ℕ) (state_slot epoch : ℕ) → Agrees IsOverflowOrNoRoot (rust_helpers.get_block_root s roots state_slot epoch) (document_helpers.get_block_root s roots epoch)
unfolding rust_helpers.get_block_root document_helpers.get_block_root
block_root s roots state_slot epoch = bind-agrees _ (or_more (start-slot s epoch)) (block_root_at_slot s roots state_slot _)

justified : (target total : ℕ) → Agrees IsOverflow (rust_epoch.is_justified target total) (leb (total * 2) (target * 3))
unfolding rust_epoch.is_justified
justified target total = bind-agrees _ (mul64-agrees _ _) (bind-agrees _ (mul64-agrees _ _) value-agrees)

root_where_lem : (passed : Bool) (s : Settings) (roots : List ℕ) (state_slot epoch : ℕ) → Agrees IsOverflowOrNoRoot (rust_epoch.root_where passed s roots state_slot epoch) (cond passed (document_helpers.get_block_root s roots epoch) [])
unfolding rust_epoch.root_where
root_where_lem passed s roots state_slot epoch = cond-agrees passed (block_root s roots state_slot epoch) value-agrees

-- the root of a test that failed is not read
roots-read : (previous_epoch current_epoch : ℕ) (previous current : Bool) (previous_root current_root : List ℕ) (old : Finality) → weighed previous_epoch current_epoch previous current previous_root current_root old ≡ weighed previous_epoch current_epoch previous current (cond previous previous_root []) (cond current current_root []) old
unfolding weighed
roots-read p c true true r q old = refl
roots-read p c true false r q old = refl
roots-read p c false true r q old = refl
roots-read p c false false r q old = refl

weigh : (s : Settings) (roots : List ℕ) (old : Finality) (total previous_target current_target : ℕ) → Agrees IsOverflowOrNoRoot (rust_epoch.weigh_justification_and_finalization s roots old total previous_target current_target) (document_epoch.weigh_justification_and_finalization s roots old total previous_target current_target)
unfolding rust_epoch.weigh_justification_and_finalization document_epoch.weigh_justification_and_finalization
weigh s roots old total previous_target current_target =
    bind-agrees _ (or_more (justified previous_target total))
    (bind-agrees _ (root_where_lem _ s roots _ _)
    (bind-agrees _ (or_more (justified current_target total))
    (bind-agrees _ (root_where_lem _ s roots _ _) (equal-agrees (roots-read _ _ (leb (total * 2) (previous_target * 3)) (leb (total * 2) (current_target * 3)) _ _ old)))))

-- where nothing is weighed the state is the old one
kept : (t : Bool) (f : Finality) (st : BeaconState) → cond t st (with_finality f st) ≡ with_finality (cond t st.finality f) st
kept true f st = refl
kept false f st = refl

pub justification : (l : ActivationLimit) (s : Settings) (st : BeaconState) → Agrees IsOverflowOrNoRoot (limited_step l s st justification_step) (document.process_justification_and_finalization s st)
unfolding limited_step rust.process_justification_and_finalization document.process_justification_and_finalization
justification l s st =
    let early = leb (document_helpers.get_current_epoch s st.finality.slot) 1 in
    bind-agrees _
    (cond-agrees early value-agrees
    (bind-agrees _ (or_more (total_active_balance s _ _))
    (bind-agrees _ (or_more (total-balance s _))
    (bind-agrees _ (or_more (total-balance s _)) (weigh s _ _ _ _ _)))))
    (equal-agrees (kept early _ st))
