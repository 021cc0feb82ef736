use mathlib.Core.Path.{◌∙◌, sym, ap}
use Rattle.definitions_close.specs.Store.{rules_answer_for}
use Rattle.store.proofs.store_rules.Given.{with-passed, with-refused, with-rules}
use Rattle.store.proofs.store_rules.rules_for.Goals as goal

pub returns-in-Err : goal.returns-in-Err
returns-in-Err c = c.turned_away.ensures ∙ with-refused _ _ _ _ _ _ _ c.call_tests.ensures _ c.in-Err.is c.number.ensures

pub rules_at_slot-requires : goal.rules_at_slot-requires
rules_at_slot-requires c =
    let p = with-passed _ _ _ _ _ _ _ c.call_tests.ensures c.in_default.is in
    record { n_in_bounds = p.shape.fits; store_value = p.entries-good }

pub returns : goal.returns
returns c = c.rules_at_slot.ensures ∙ ap rules_answer_for (sym (with-rules _ _ _ _ _ _ _ c.call_tests.ensures _ c.in_default.is))
