use Rattle.definitions.specs.Refusals.{rotation_tests}
use Rattle.participation.proofs.participation_flags.rotation_tests.Goals as goal

pub returns : goal.returns
unfolding rotation_tests
returns c = rw (c.registry_shaped.ensures, c.good_registry.ensures) at c.in_order.ensures
