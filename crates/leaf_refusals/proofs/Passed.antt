-- What a leaf's tests give once passed. `x` is what their code answered.
use mathlib.Core.Bool.{Bool, true}
use mathlib.Core.List.{List, [], ◌∷◌}
use mathlib.Core.Path.{◌≡◌, sym, ◌∙◌}
use Prim.Native.Nat.{ℕ, ◌^◌, ◌≤◌, ◌<◌}
use borrow.Author.Tests.{leb-true, eqb-true}
use lib.ListN.{length}
use Rattle.definitions.specs.declared.Settings.{Settings}
use Rattle.definitions.specs.Checked.{Checked, value}
use Rattle.definitions.specs.LeafRefusals.{entry_shaped, good_entry, is_participation_epoch, entry_tests, finalized_entry_tests, settings_entry_tests, slot_entry_tests, participation_entry_tests}
use Rattle.definitions.specs.Record.{decode_one}
use Rattle.definitions.specs.Refusals.{settings_shaped, is_small, good_settings}
use Rattle.laws.proofs.Tests.{InOrder, in_order-value}
use Rattle.refusals.proofs.Laws.{SettingsShape, settings-shaped, GoodSettings, good-settings, small, GoodValidator, good-validator}

pub record GoodEntry (entry : List ℕ) : Type 0 where
  pub long : length entry ≡ 10
  pub good : GoodValidator (decode_one entry)

pub good-entry : (entry : List ℕ) → entry_shaped entry ≡ true → good_entry entry ≡ true → GoodEntry entry
good-entry entry a b = record { long = eqb-true (length entry) 10 a; good = good-validator (decode_one entry) b }

pub entry-passed : (entry : List ℕ) {x : Checked (Unit {0})} → x ≡ entry_tests entry → x ≡ value tt → GoodEntry entry
unfolding entry_tests
entry-passed entry e z = let p = in_order-value _ _ _ (sym e ∙ z) in good-entry entry (p.shaped 0) (p.recorded 0)

pub record FinalizedEntry (finalized_epoch : ℕ) (entry : List ℕ) : Type 0 where
  pub finalized : finalized_epoch < 2 ^ 48
  pub own : GoodEntry entry

pub finalized_entry_passed : (finalized_epoch : ℕ) (entry : List ℕ) {x : Checked (Unit {0})} → x ≡ finalized_entry_tests finalized_epoch entry → x ≡ value tt → FinalizedEntry finalized_epoch entry
unfolding finalized_entry_tests
finalized_entry_passed finalized_epoch entry e z =
    let p = in_order-value _ _ _ (sym e ∙ z) in
    record { finalized = small finalized_epoch (p.recorded 0); own = good-entry entry (p.shaped 0) (p.recorded 1) }

pub record SettingsEntry (s : Settings) (entry : List ℕ) : Type 0 where
  pub shape : SettingsShape s
  pub settings : GoodSettings s
  pub own : GoodEntry entry

pub settings_entry_passed : (s : Settings) (entry : List ℕ) {x : Checked (Unit {0})} → x ≡ settings_entry_tests s entry → x ≡ value tt → SettingsEntry s entry
unfolding settings_entry_tests
settings_entry_passed s entry e z =
    let p = in_order-value _ _ _ (sym e ∙ z) in
    record { shape = settings-shaped s (p.shaped 0); settings = good-settings s (p.settings 0); own = good-entry entry (p.shaped 1) (p.recorded 0) }

pub record SlotEntry (s : Settings) (state_slot : ℕ) (entry : List ℕ) : Type 0 where
  pub shape : SettingsShape s
  pub settings : GoodSettings s
  pub slot : state_slot < 2 ^ 48
  pub own : GoodEntry entry

-- settings and entry are the first two of 1, slot and entry all of 3
slot-entry : (s : Settings) (state_slot : ℕ) (entry : List ℕ) {others : List Bool} → InOrder (settings_shaped s ∷ entry_shaped entry ∷ others) (good_settings s ∷ []) (is_small state_slot ∷ good_entry entry ∷ []) → SlotEntry s state_slot entry
slot-entry s state_slot entry p =
    record { shape = settings-shaped s (p.shaped 0); settings = good-settings s (p.settings 0); slot = small state_slot (p.recorded 0); own = good-entry entry (p.shaped 1) (p.recorded 1) }

pub slot_entry_passed : (s : Settings) (state_slot : ℕ) (entry : List ℕ) {x : Checked (Unit {0})} → x ≡ slot_entry_tests s state_slot entry → x ≡ value tt → SlotEntry s state_slot entry
unfolding slot_entry_tests
slot_entry_passed s state_slot entry e z = slot-entry s state_slot entry (in_order-value _ _ _ (sym e ∙ z))

pub record ParticipationEntry (s : Settings) (state_slot flag_index epoch : ℕ) (entry : List ℕ) : Type 0 where
  pub others : SlotEntry s state_slot entry
  pub flag : flag_index ≤ 2
  pub near : is_participation_epoch s state_slot epoch ≡ true

pub participation_entry_passed : (s : Settings) (state_slot flag_index epoch : ℕ) (entry : List ℕ) {x : Checked (Unit {0})} → x ≡ participation_entry_tests s state_slot flag_index epoch entry → x ≡ value tt → ParticipationEntry s state_slot flag_index epoch entry
unfolding participation_entry_tests
participation_entry_passed s state_slot flag_index epoch entry e z =
    let p = in_order-value _ _ _ (sym e ∙ z) in
    record { others = slot-entry s state_slot entry p; flag = leb-true flag_index 2 (p.shaped 2); near = p.shaped 3 }
