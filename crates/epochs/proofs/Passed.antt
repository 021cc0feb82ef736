-- What the tests on settings and slot give once passed. `x` is the number that their code gave.
use mathlib.Core.Path.{◌≡◌, sym, ◌∙◌}
use Prim.Native.Nat.{ℕ, ◌^◌, ◌<◌}
use Rattle.definitions.specs.declared.Settings.{Settings}
use Rattle.definitions.specs.Checked.{Checked, value}
use Rattle.definitions.specs.LeafRefusals.{settings_tests, slot_tests}
use Rattle.laws.proofs.Tests.{in_order-value}
use Rattle.refusals.proofs.Laws.{SettingsShape, settings-shaped, GoodSettings, good-settings, small}

pub record SettingsPassed (s : Settings) : Type 0 where
  pub shape : SettingsShape s
  pub good : GoodSettings s

pub settings-passed : (s : Settings) {x : Checked (Unit {0})} → x ≡ settings_tests s → x ≡ value tt → SettingsPassed s
unfolding settings_tests
settings-passed s e z =
    let p = in_order-value _ _ _ (sym e ∙ z) in
    record { shape = settings-shaped s (p.shaped 0); good = good-settings s (p.settings 0) }

pub record SlotPassed (s : Settings) (state_slot : ℕ) : Type 0 where
  pub settings : SettingsPassed s
  pub slot : state_slot < 2 ^ 48

pub slot-passed : (s : Settings) (state_slot : ℕ) {x : Checked (Unit {0})} → x ≡ slot_tests s state_slot → x ≡ value tt → SlotPassed s state_slot
unfolding slot_tests
slot-passed s state_slot e z =
    let p = in_order-value _ _ _ (sym e ∙ z) in
    record { settings = record { shape = settings-shaped s (p.shaped 0); good = good-settings s (p.settings 0) }; slot = small state_slot (p.recorded 0) }
