use mathlib.Core.Path.{ap, ◌∙◌}
use Rattle.definitions.specs.Refusals.{settings_from}
use Rattle.fields.proofs.read_settings.Goals as goal

pub returns : goal.returns
returns c = c.settings_from.ensures ∙ ap settings_from c.read_numbers.ensures
