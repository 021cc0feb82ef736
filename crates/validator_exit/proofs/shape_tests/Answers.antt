use Rattle.validator_exit.proofs.shape_tests.Goals as goal

pub returns : goal.returns
returns c = rw (c.settings_shaped.ensures, c.registry_shaped.ensures, c.good_settings.ensures, c.is_small.ensures) at c.in_order.ensures
