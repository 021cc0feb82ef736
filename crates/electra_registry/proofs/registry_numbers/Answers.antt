use native.Mathlib.Omega.{arith}
use Rattle.electra_refusals.proofs.Passed.{good-electra}
use Rattle.registry.proofs.Epochs.{epochs}
use Rattle.electra_registry.proofs.registry_numbers.Goals as goal

pub current_epoch-epoch-requires : goal.current_epoch-epoch-requires
current_epoch-epoch-requires c = (good-electra _ c.requires.1).positive.slots_per_epoch

pub overflow_add-least : goal.overflow_add-least
overflow_add-least c = omega (arith, (epochs _ _ (good-electra _ c.requires.1).settings c.requires.2).fits, c.current_epoch-epoch.ensures)

pub overflow_add-least-2 : goal.overflow_add-least-2
overflow_add-least-2 c = omega (arith, (epochs _ _ (good-electra _ c.requires.1).settings c.requires.2).fits, c.current_epoch-epoch.ensures)

pub limit_number-requires : goal.limit_number-requires
limit_number-requires c = (c.requires.0, (good-electra _ c.requires.1).settings)

pub returns : goal.returns
returns c = rw (c.current_epoch-epoch.ensures, c.limit_number.ensures)
