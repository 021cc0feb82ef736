use Rattle.electra_close_tests.proofs.lent_shaped.Goals as goal

pub returns : goal.returns
returns c = rw (c.settings_shaped.ensures, c.registry_shaped.ensures, c.roots_shaped.ensures, c.deposits_shaped.ensures, c.keys_shaped.ensures, c.consolidations_shaped.ensures, c.indices_shaped.ensures) at c.all_pass.ensures
