use mathlib.Core.Path.{ap, ◌∙◌}
use Rattle.definitions.specs.Rust.Phase0.EpochProcessing.{reset_slashings}
use Rattle.electra_queues.proofs.last_two.Goals as goal

pub returns : goal.returns
returns c = record { closing_slashings_after = c.slashings_reset_core.ensures ∙ ap (reset_slashings c.args.s c.args.state_slot) c.copy.ensures; registry_after = c.participation_flags_core.ensures }
