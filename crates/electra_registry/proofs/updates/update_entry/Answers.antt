use Rattle.electra_registry.proofs.Turns.{turn-queued, turn-ejected, turn-activated, turn-stays}
use mathlib.Core.Path.{sym, ◌∙◌}
use Rattle.electra_registry.proofs.updates.update_entry.Goals as goal

pub returns-then-entry_is_queued : goal.returns-then-entry_is_queued
returns-then-entry_is_queued c = turn-queued _ _ _ c.requires.0 (sym c.entry_is_queued.ensures ∙ c.if-entry_is_queued.true)

pub returns-then-entry_is_ejected : goal.returns-then-entry_is_ejected
returns-then-entry_is_ejected c = turn-ejected _ _ _ c.requires.0 (sym c.entry_is_queued.ensures ∙ c.if-entry_is_queued.false) (sym c.entry_is_ejected.ensures ∙ c.if-entry_is_ejected.true) c.exit_by_balance.ensures

pub returns-then-entry_is_eligible_for_activation : goal.returns-then-entry_is_eligible_for_activation
returns-then-entry_is_eligible_for_activation c =
    let queued = sym c.entry_is_queued.ensures ∙ c.if-entry_is_queued.false in
    let ejected = sym c.entry_is_ejected.ensures ∙ c.if-entry_is_ejected.false in
    turn-activated _ _ _ c.requires.0 queued ejected (sym c.entry_is_eligible_for_activation.ensures ∙ c.if-entry_is_eligible_for_activation.true)

pub returns-else-entry_is_eligible_for_activation : goal.returns-else-entry_is_eligible_for_activation
returns-else-entry_is_eligible_for_activation c =
    let queued = sym c.entry_is_queued.ensures ∙ c.if-entry_is_queued.false in
    let ejected = sym c.entry_is_ejected.ensures ∙ c.if-entry_is_ejected.false in
    turn-stays _ _ _ c.requires.0 queued ejected (sym c.entry_is_eligible_for_activation.ensures ∙ c.if-entry_is_eligible_for_activation.false)
