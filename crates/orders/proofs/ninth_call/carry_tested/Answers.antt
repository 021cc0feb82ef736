use Rattle.refusals.proofs.Laws.{good-settings}
use Rattle.laws.proofs.Bounds.{bounds}
use Rattle.orders.proofs.ninth_call.Carried.{carried, real}
use native.Mathlib.Omega.{arith}
use Rattle.orders.proofs.ninth_call.carry_tested.Goals as goal

pub current_epoch-epoch-requires : goal.current_epoch-epoch-requires
current_epoch-epoch-requires c = (good-settings _ c.requires.settings.good).positive.slots_per_epoch

pub churn_limit-limit-requires : goal.churn_limit-limit-requires
churn_limit-limit-requires c = let a = c.requires in let p = (good-settings _ a.settings.good).positive in record { registry_len = a.long; slots_per_epoch_nonzero = (p.slots_per_epoch, p.churn_limit_quotient) }

pub overflow_add-least : goal.overflow_add-least
overflow_add-least c = omega (arith, c.current_epoch-epoch.ensures, (bounds _ _ c.requires.settings).activation_exit)

pub overflow_add-least-2 : goal.overflow_add-least-2
overflow_add-least-2 c = omega (arith, c.current_epoch-epoch.ensures, (bounds _ _ c.requires.settings).activation_exit)

pub try_all-after-requires : goal.try_all-after-requires
try_all-after-requires c = let a = c.requires in record { registry_len = (omega (arith, a.long), real _ _ a.settings c.current_epoch-epoch.ensures); first_value = a.queue; count_bound = (a.listed, a.answered) }

pub returns : goal.returns
returns c = carried _ _ _ _ _ _ c.requires c.current_epoch-epoch.ensures c.churn_limit-limit.ensures c.try_all-after.ensures
