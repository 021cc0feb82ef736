use Rattle.fields.proofs.put_settings.Goals as goal

pub returns : goal.returns
returns c = rw c.settings_numbers.ensures at c.put_numbers.ensures
