use native.Mathlib.Omega.{arith}
use Rattle.refusals.proofs.Laws.{good-settings}
use Rattle.electra_appended.proofs.add_behind.Goals as goal

pub add_deposits-requires : goal.add_deposits-requires
add_deposits-requires c =
    let h = c.requires.buffers in
    let long = c.copy_front.auto.to in
    let some = (good-settings c.args.rules.settings c.requires.settings_value.0).positive.effective_balance_increment in
    record { registry_len = (omega (arith, long, h.room), omega (arith, long, h.room_too), rw c.new_numbers-k.ensures some); places_value = (rw h.table at (c.fill.ensures.after (λ y e. e)), h.keys, c.requires.settings_value.1) }

pub returns : goal.returns
returns c =
    let e = c.add_deposits.ensures in
    rw (c.new_numbers-k.ensures, c.copy_front.ensures) at e
