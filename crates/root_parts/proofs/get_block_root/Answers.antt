use mathlib.Core.Path.{sym, ap, ◌∙◌}
use Rattle.definitions.specs.Rust.Phase0.Helpers.{get_block_root}
use Rattle.root_parts.specs.Bytes.{bytes_of}
use Rattle.root_parts.proofs.Lookups.{no_bytes, epoch-value, Found, found_after}
use Rattle.root_parts.proofs.get_block_root.Goals.{Else-is_err}
use Rattle.root_parts.proofs.get_block_root.Goals as goal

found : (c : Else-is_err) → let a = c.args in Found a.s a.roots.now a.state_slot (get_block_root a.s a.roots.now a.state_slot a.epoch)
found c = found_after _ _ _ _ c.get_block_root_refusal.ensures (sym c.is_err.ensures.value ∙ c.if-is_err.false)

pub returns-then-is_err : goal.returns-then-is_err
returns-then-is_err c = no_bytes _ _ c.get_block_root_refusal.ensures (sym c.is_err.ensures.value ∙ c.if-is_err.true)

pub epoch_root-requires : goal.epoch_root-requires
epoch_root-requires c =
    let f = found ((goal.at.epoch_root-requires c).Else-is_err) in
    record { roots_len = f.tests.long; slots_per_historical_root_nonzero = f.tests.slot.settings.shape.roots.least; slots_per_epoch_bound = (epoch-value _ _ _ _ f.is).fits }

pub returns : goal.returns
returns c =
    let f = found ((goal.at.returns c).Else-is_err) in
    c.epoch_root.ensures ∙ (epoch-value _ _ _ _ f.is).is ∙ sym (ap bytes_of f.after)
