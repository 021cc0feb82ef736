use mathlib.Core.Path.{◌≡◌, sym, ap, ◌∙◌}
use Prim.Native.Nat.{◌+◌, ◌-◌, ◌*◌, ◌%◌}
use native.Mathlib.Omega.{arith}
use Rattle.definitions.specs.Checked.{value}
use Rattle.definitions.specs.Document.Phase0.Helpers as document
use Rattle.arithmetic.proofs.Laws.{carried}
use Rattle.epochs.proofs.roots.Lookups.{refused-done, slot-found}
use Rattle.epochs.proofs.roots.slot_root.Goals as goal

pub returns-in_err-slot_lookup : goal.returns-in_err-slot_lookup
returns-in_err-slot_lookup c = carried _ c.from_residual.ensures ∙ sym (refused-done _ c.slot_lookup.ensures c.in_err-slot_lookup.was)

pub returns : goal.returns
unfolding document.get_block_root_at_slot
returns c =
    let a = c.args in
    let start = 32 * (a.slot % a.s.slots_per_historical_root) in
    let k : start + 32 - start ≡ 32 = omega arith in
    ap value (rw k at c.copy_from_slice.ensures.after) ∙ sym (slot-found _ _ _ _ c.slot_lookup.ensures c.in_ok-slot_lookup.was)
