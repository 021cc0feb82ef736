use mathlib.Core.Path.{◌∙◌}
use Rattle.definitions_close.specs.Store.{entries, store_tests, rules_at, read_rules}
use Rattle.refusals.proofs.Answers.{after-passed, after-refused}
use Rattle.definitions_close.specs.Calls.{lent}
use Rattle.store.proofs.Passed.{store-passed}
use Rattle.store.proofs.read_rules.Goals as goal

pub returns-in-Err : goal.returns-in-Err
unfolding read_rules
returns-in-Err c =
    let a = c.args in
    let s = lent a.store.now a.count in
    c.turned_away.ensures ∙ rw (after-refused (store_tests s) (rules_at a.epoch (entries s)) c.store_tests.ensures c.in-Err.is, c.number.ensures)

pub rules_at-requires : goal.rules_at-requires
rules_at-requires c = (store-passed _ c.store_tests.ensures c.in_default.is).shape.fits

pub returns : goal.returns
unfolding read_rules
returns c =
    let a = c.args in
    let s = lent a.store.now a.count in
    c.rules_at.ensures ∙ rw (after-passed (store_tests s) (rules_at a.epoch (entries s)) c.store_tests.ensures c.in_default.is)
