use Rattle.electra_balances.proofs.Turns.{settles-own}
use Rattle.electra_balances.proofs.entry_update_own.Goals as goal

pub entry_update-requires : goal.entry_update-requires
entry_update-requires c = (c.requires.len.0, rw c.own_settings-own.ensures c.requires.len.1)

pub returns : goal.returns
returns c = settles-own c.args.rules c.requires.settings_value _ (rw c.own_settings-own.ensures at c.entry_update.ensures)
