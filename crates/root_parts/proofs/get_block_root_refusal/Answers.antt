use mathlib.Core.Path.{sym, ap, ◌∙◌}
use Rattle.definitions.specs.Checked.{done}
use Rattle.arithmetic.proofs.Laws.{carried}
use Rattle.refusals.proofs.Answers.{after-passed, after-refused}
use Rattle.root_parts.proofs.get_block_root_refusal.Goals as goal

pub returns-in_err-root_refusal : goal.returns-in_err-root_refusal
returns-in_err-root_refusal c = carried _ c.from_residual.ensures ∙ ap done (sym (after-refused _ _ c.root_refusal.ensures c.in_err-root_refusal.was))

pub returns : goal.returns
returns c = c.epoch_lookup.ensures ∙ ap done (sym (after-passed _ _ c.root_refusal.ensures c.in_ok-root_refusal.was))
