use mathlib.Core.Path.{sym, ap, ◌∙◌}
use Rattle.refusals.proofs.All.{fails, passes}
use Rattle.laws.proofs.Loops.Entry.{entry-is}
use Rattle.orders.specs.Tried.{entry_may_exit}
use Rattle.orders.proofs.Tried.{unknown, cannot, early, exits, may_part, since-part, due-part}
use mathlib.Core.Bool.{not}
use Rattle.orders.proofs.try_order.Goals as goal

pub returns-then-n-index : goal.returns-then-n-index
returns-then-n-index c = unknown _ _ _ _ _ _ _ c.requires.registry_len.0 _ _ c.if-n-index.true

pub returns-then-not-entry_may_exit : goal.returns-then-not-entry_may_exit
returns-then-not-entry_may_exit c = let l = c.if-n-index.false in cannot _ _ _ _ _ _ _ c.requires.registry_len.0 _ _ l (sym (ap (entry_may_exit _) (entry-is _ _ _ c.requires.registry_len.0 l)) ∙ fails c.entry_may_exit.ensures (ap not c.if-not-entry_may_exit.true))

pub is_due-requires : goal.is_due-requires
is_due-requires c =
    let l = c.if-n-index.false in
    let x = c.args in
    since-part x.epoch x.period x.least x.limit x.delay x.n x.registry.now c.requires.registry_len.0 x.validator x.start l (passes c.entry_may_exit.ensures (ap not c.if-not-entry_may_exit.false))

pub returns-then-not-is_due : goal.returns-then-not-is_due
returns-then-not-is_due c =
    let l = c.if-n-index.false in
    let x = c.args in
    let e = may_part x.epoch x.period x.least x.limit x.delay x.n x.registry.now c.requires.registry_len.0 x.validator x.start l (passes c.entry_may_exit.ensures (ap not c.if-not-entry_may_exit.false)) in
    let d = due-part x.epoch x.period x.least x.limit x.delay x.n x.registry.now c.requires.registry_len.0 x.validator x.start l in
    early x.epoch x.period x.least x.limit x.delay x.n x.registry.now c.requires.registry_len.0 x.validator x.start l e (sym d ∙ fails c.is_due.ensures (ap not c.if-not-is_due.true))

-- places are found by their types, so that what is done with the exit's answer does not move them
pub returns : goal.returns
returns c =
    let l = c.if-n-index.false in
    let x = c.args in
    let e = may_part x.epoch x.period x.least x.limit x.delay x.n x.registry.now c.requires.registry_len.0 x.validator x.start l (passes c.entry_may_exit.ensures (ap not c.if-not-entry_may_exit.false)) in
    let d = due-part x.epoch x.period x.least x.limit x.delay x.n x.registry.now c.requires.registry_len.0 x.validator x.start l in
    exits x.epoch x.period x.least x.limit x.delay x.n x.registry.now c.requires.registry_len.0 x.validator x.start l e (sym d ∙ passes c.is_due.ensures (ap not c.if-not-is_due.false)) c.exit_in_place.ensures
