use Rattle.registry_step.proofs.step_tests.Goals as goal

pub returns : goal.returns
returns c = rw (c.settings_shaped.ensures, c.registry_shaped.ensures, c.good_settings.ensures, c.is_small.ensures, c.is_small-2.ensures) at c.in_order.ensures
