use Rattle.root_parts.proofs.Roots.{answered-at_slot, code-done}
use Rattle.exports.proofs.phase0_helpers.altair_get_block_root_at_slot.Goals as goal

pub returns : goal.returns
returns c = answered-at_slot _ _ _ c.plain_root.ensures _ (code-done _ c.code.ensures c.get_block_root_at_slot_refusal-answer.ensures) c.get_block_root_at_slot.ensures
