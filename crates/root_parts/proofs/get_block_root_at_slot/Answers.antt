use mathlib.Core.Path.{sym, ap, ◌∙◌}
use Rattle.definitions.specs.Rust.Phase0.Helpers.{get_block_root_at_slot}
use Rattle.root_parts.specs.Bytes.{bytes_of}
use Rattle.epochs.proofs.roots.Lookups.{slot-value}
use Rattle.root_parts.proofs.Lookups.{no_bytes, Found, found_after}
use Rattle.root_parts.proofs.get_block_root_at_slot.Goals.{Else-is_err}
use Rattle.root_parts.proofs.get_block_root_at_slot.Goals as goal

found : (c : Else-is_err) → let a = c.args in Found a.s a.roots.now a.state_slot (get_block_root_at_slot a.s a.roots.now a.state_slot a.slot)
found c = found_after _ _ _ _ c.get_block_root_at_slot_refusal.ensures (sym c.is_err.ensures.value ∙ c.if-is_err.false)

pub returns-then-is_err : goal.returns-then-is_err
returns-then-is_err c = no_bytes _ _ c.get_block_root_at_slot_refusal.ensures (sym c.is_err.ensures.value ∙ c.if-is_err.true)

pub slot_root-requires : goal.slot_root-requires
slot_root-requires c =
    let t = (found ((goal.at.slot_root-requires c).Else-is_err)).tests in
    record { roots_len = t.long; slots_per_historical_root_nonzero = t.slot.settings.shape.roots.least }

pub returns : goal.returns
returns c =
    let f = found ((goal.at.returns c).Else-is_err) in
    c.slot_root.ensures ∙ slot-value _ _ _ _ f.is ∙ sym (ap bytes_of f.after)
