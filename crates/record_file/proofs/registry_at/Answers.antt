use mathlib.Core.Path.{ap, ◌∙◌}
use native.Mathlib.Omega.{arith}
use Rattle.definitions_file.specs.File.{validators_at}
use Rattle.laws_file.proofs.Passed.{good-header}
use Rattle.record_file.proofs.registry_at.Goals as goal

pub read_counts-counts-requires : goal.read_counts-counts-requires
read_counts-counts-requires c = (good-header _ c.requires).enough

pub validators_at-requires : goal.validators_at-requires
validators_at-requires c = let h = good-header _ c.requires in let v = c.read_counts-counts.ensures.3 in (omega (arith, h.some-version), omega (arith, h.known-version))

pub returns : goal.returns
returns c = c.validators_at.ensures ∙ ap validators_at c.read_counts-counts.ensures.3
