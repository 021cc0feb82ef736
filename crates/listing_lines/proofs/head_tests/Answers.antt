use Rattle.definitions_file.specs.ListingAnswers.{head_tests}
use Rattle.listing_lines.proofs.head_tests.Goals as goal

pub returns : goal.returns
unfolding head_tests
returns c = rw (c.settings_shaped.ensures, c.registry_shaped.ensures, c.good_settings.ensures, c.good_finality.ensures, c.is_small.ensures, c.good_registry.ensures) at c.in_order.ensures
