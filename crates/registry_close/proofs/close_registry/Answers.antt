use native.Mathlib.Omega.{arith}
use Rattle.selection.proofs.Picking.{blank-length, blank_part}
use Rattle.registry_close.proofs.close_registry.Goals as goal

pub close_kept-requires : goal.close_kept-requires
close_kept-requires c = record { tested = c.requires.tested; closing_registry_len = c.requires.closing_registry_len; kept_len = (blank-length 64 64 (omega arith), blank_part 64 64 (omega arith) (omega arith)) }

pub returns : goal.returns
returns c = c.close_kept.ensures
