use mathlib.Core.Path.{sym, ◌∙◌}
use native.Mathlib.Omega.{arith}
use Rattle.arithmetic.proofs.Laws.{carried, bind-value, bind-refused}
use Rattle.electra_deposits.proofs.Steps.{applied-known, applied-invalid, applied-new, joined-front, joined-new}
use Rattle.electra_deposits.proofs.adding.join.Goals as goal

pub returns-then-d-n : goal.returns-then-d-n
returns-then-d-n c = joined-front _ _ _ _ _ _ _ c.requires.registry_len.0 c.if-d-n.true

pub returns-in_err-entry_increase_balance : goal.returns-in_err-entry_increase_balance
returns-in_err-entry_increase_balance c = joined-new _ _ _ _ _ _ _ c.if-d-n.false (applied-known _ _ _ _ _ _ _ _ c.requires.registry_len.0 c.if-place-ne0.true (omega arith) c.entry_increase_balance.ensures (carried _ c.from_residual.ensures ∙ sym (bind-refused _ c.in_err-entry_increase_balance.was)))

pub returns-then-place-ne0 : goal.returns-then-place-ne0
returns-then-place-ne0 c = joined-new _ _ _ _ _ _ _ c.if-d-n.false (applied-known _ _ _ _ _ _ _ _ c.requires.registry_len.0 c.if-place-ne0.true (omega arith) c.entry_increase_balance.ensures (sym (bind-value _ c.in_ok-entry_increase_balance.was)))

pub returns-then-d-ne1 : goal.returns-then-d-ne1
returns-then-d-ne1 c = joined-new _ _ _ _ _ _ _ c.if-d-n.false (applied-invalid _ _ _ _ _ _ _ _ c.requires.registry_len.0 c.if-place-ne0.false c.if-d-ne1.true)

pub returns : goal.returns
returns c =
    let new = c.append.ensures in
    joined-new _ _ _ _ _ _ _ c.if-d-n.false (applied-new _ _ _ _ _ _ _ _ c.requires.registry_len.0 c.if-place-ne0.false c.if-d-ne1.false c.new_effective-effective.ensures new.registry_after new.compounding_after new.places_after)
