use Rattle.definitions.specs.Record.{encode}
use Rattle.arithmetic.proofs.Laws.{carried}
use Rattle.refusals.proofs.buffers.Closes.{closes-refused, closes-plain}
use Rattle.participation.proofs.participation_flags.Passed.{rotation_passed}
use Rattle.participation.proofs.participation_flags.process_participation_flag_updates.Goals as goal

pub returns-in_err-rotation_tests : goal.returns-in_err-rotation_tests
returns-in_err-rotation_tests c = rw (carried _ c.from_residual.ensures) (closes-refused encode _ c.rotation_tests.ensures _ c.in_err-rotation_tests.was)

pub copy-requires : goal.copy-requires
copy-requires c = (rotation_passed _ _ c.rotation_tests.ensures c.in_ok-rotation_tests.was).same

pub participation_flags_core-requires : goal.participation_flags_core-requires
participation_flags_core-requires c = rw c.copy.ensures (rotation_passed _ _ c.rotation_tests.ensures c.in_ok-rotation_tests.was).shape.long

pub returns : goal.returns
returns c = closes-plain encode _ c.rotation_tests.ensures _ c.in_ok-rotation_tests.was (rw c.copy.ensures at c.participation_flags_core.ensures)
