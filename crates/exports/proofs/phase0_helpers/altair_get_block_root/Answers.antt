use Rattle.root_parts.proofs.Roots.{answered-at_epoch, code-done}
use Rattle.exports.proofs.phase0_helpers.altair_get_block_root.Goals as goal

pub returns : goal.returns
returns c = answered-at_epoch _ _ _ c.plain_root.ensures _ (code-done _ c.code.ensures c.get_block_root_refusal-answer.ensures) c.get_block_root.ensures
