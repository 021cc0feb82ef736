use mathlib.Core.Path.{sym, ap, ◌∙◌}
use Rattle.definitions.specs.Checked.{done}
use Rattle.arithmetic.proofs.Laws.{carried}
use Rattle.epochs.proofs.roots.Lookups.{late, over, old, found}
use Rattle.epochs.proofs.roots.slot_lookup.Goals as goal

pub returns-then-state_slot-slot : goal.returns-then-state_slot-slot
returns-then-state_slot-slot c = ap done (sym (late _ _ _ _ c.if-state_slot-slot.true))

pub returns-in_err-last : goal.returns-in_err-last
returns-in_err-last c = carried _ c.from_residual.ensures ∙ ap done (sym (over _ _ _ _ c.if-state_slot-slot.false (sym c.add64.ensures ∙ c.in_err-last.was)))

pub returns-then-last-state_slot : goal.returns-then-last-state_slot
returns-then-last-state_slot c = ap done (sym (old _ _ _ _ c.if-state_slot-slot.false (sym c.add64.ensures ∙ c.in_ok-last.was) c.if-last-state_slot.true))

pub returns : goal.returns
returns c = ap done (sym (found _ _ _ _ c.if-state_slot-slot.false (sym c.add64.ensures ∙ c.in_ok-last.was) c.if-last-state_slot.false))
