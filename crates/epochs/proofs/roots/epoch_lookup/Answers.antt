use mathlib.Core.Path.{sym, ap, ◌∙◌}
use Rattle.definitions.specs.Checked.{done}
use Rattle.definitions.specs.Rust.Phase0.Helpers.{compute_start_slot_at_epoch, get_block_root}
use Rattle.arithmetic.proofs.Laws.{carried, bind-value, bind-refused}
use Rattle.epochs.proofs.roots.epoch_lookup.Goals as goal

pub returns-in_err-first : goal.returns-in_err-first
unfolding get_block_root compute_start_slot_at_epoch
returns-in_err-first c = carried _ c.from_residual.ensures ∙ ap done (sym (bind-refused _ (sym c.mul64.ensures ∙ c.in_err-first.was)))

pub returns : goal.returns
unfolding get_block_root compute_start_slot_at_epoch
returns c = c.slot_lookup.ensures ∙ ap done (sym (bind-value _ (sym c.mul64.ensures ∙ c.in_ok-first.was)))
