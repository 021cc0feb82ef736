-- What the tests of an exit give once passed. `x` is the number that their code gave.
use mathlib.Core.Path.{◌≡◌, sym, ◌∙◌}
use mathlib.Core.List.{List}
use Prim.Native.Nat.{ℕ, ◌+◌, ◌/◌, ◌^◌, ◌<◌}
use borrow.Author.Tests.{ltb-true}
use lib.ListN.{length}
use Rattle.definitions.specs.declared.Settings.{Settings}
use Rattle.definitions.specs.Checked.{Checked, value}
use Rattle.definitions.specs.LeafRefusals.{exit_tests}
use Rattle.definitions.specs.Document.Phase0.Helpers as document
use Rattle.definitions.specs.Rust.Phase0.Helpers.{compute_activation_exit_epoch, get_current_epoch}
use Rattle.laws.proofs.Tests.{in_order-value}
use Rattle.leaf_refusals.proofs.registry_refusals.Passed.{SlotRegistry, slot-registry}
use Rattle.laws.proofs.Bounds.{bounds, given}

pub record ExitPassed (s : Settings) (state_slot index : ℕ) (registry : List ℕ) : Type 0 where
  pub others : SlotRegistry s state_slot registry
  pub known : index < length registry / 10
  pub fits : get_current_epoch s state_slot + 1 + s.max_seed_lookahead < 2 ^ 64
  pub least : compute_activation_exit_epoch s (get_current_epoch s state_slot) ≡ value (get_current_epoch s state_slot + 1 + s.max_seed_lookahead)

pub exit-passed : (s : Settings) (state_slot index : ℕ) (registry : List ℕ) {x : Checked (Unit {0})} → x ≡ exit_tests s state_slot index registry → x ≡ value tt → ExitPassed s state_slot index registry
unfolding exit_tests document.compute_activation_exit_epoch
exit-passed s state_slot index registry e z =
    let p = in_order-value _ _ _ (sym e ∙ z) in
    let k = slot-registry s state_slot registry p in
    record {
      others = k;
      known = ltb-true index (length registry / 10) (p.shaped 2);
      fits = (bounds s state_slot k.settings).activation_exit;
      least = (given s state_slot k.settings).activation_exit;
    }
