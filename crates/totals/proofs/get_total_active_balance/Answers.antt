use Rattle.leaf_refusals.proofs.registry_refusals.Passed.{slot_registry_passed}
use Rattle.refusals.proofs.Answers.{then-answers, refused-answers}
use Rattle.totals.proofs.get_total_active_balance.Goals as goal

pub returns-in_err-slot_registry_tests : goal.returns-in_err-slot_registry_tests
returns-in_err-slot_registry_tests c = refused-answers _ c.slot_registry_tests.ensures _ c.in_err-slot_registry_tests.was c.from_residual.ensures

pub current_epoch-epoch-requires : goal.current_epoch-epoch-requires
current_epoch-epoch-requires c = (slot_registry_passed _ _ _ c.slot_registry_tests.ensures c.in_ok-slot_registry_tests.was).positive.slots_per_epoch

pub active_total-requires : goal.active_total-requires
active_total-requires c = (slot_registry_passed _ _ _ c.slot_registry_tests.ensures c.in_ok-slot_registry_tests.was).shape.long

pub returns : goal.returns
returns c = rw (← c.current_epoch-epoch.ensures) (then-answers _ c.slot_registry_tests.ensures c.in_ok-slot_registry_tests.was c.active_total.ensures)
