use mathlib.Core.Path.{◌∙◌}
use native.Mathlib.Omega.{arith}
use Rattle.definitions.specs.Checked.{bind}
use Rattle.definitions_close.specs.Store.{entries_from, last_of}
use Rattle.definitions_close.specs.StoreClose.{rules_at_slot}
use Rattle.store.proofs.store_rules.Given.{last_positive, at_slot}
use Rattle.store.proofs.store_rules.rules_at_slot.Goals as goal

pub returns-then-n-eq0 : goal.returns-then-n-eq0
unfolding rules_at_slot last_of entries_from bind
returns-then-n-eq0 c = c.turned_away.ensures ∙ rw c.if-n-eq0.true

pub nonzero_div-slot : goal.nonzero_div-slot
nonzero_div-slot c =
    let a = c.args in
    omega (arith, last_positive a.n a.store.now (omega (arith, c.if-n-eq0.false)) c.requires.store_value)

pub returns : goal.returns
returns c =
    let a = c.args in
    rw (at_slot a.n a.store.now (omega (arith, c.if-n-eq0.false)) a.slot) c.rules_at.ensures
