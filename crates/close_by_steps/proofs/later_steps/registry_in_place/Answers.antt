use native.Mathlib.Omega.{arith}
use Rattle.selection.proofs.Picking.{blank-length, blank_part}
use Rattle.close_by_steps.proofs.later_steps.registry_in_place.Goals as goal

pub registry_core-requires : goal.registry_core-requires
registry_core-requires c = let a = c.requires in record { s_value = a.s_value; state_slot_bound = a.state_slot_bound; registry_len = a.registry_len; kept_len = (blank-length 64 64 (omega arith), blank_part 64 64 (omega arith) (omega arith)) }
