use mathlib.Core.Path.{ap}
use native.Mathlib.Omega.{arith}
use lib.ListN.{length}
use Rattle.definitions.specs.Record.{encode}
use Rattle.definitions.specs.Rules.{settings_under}
use Rattle.definitions.specs.Rust.Altair.EpochProcessing.{process_rewards_and_penalties}
use Rattle.arithmetic.proofs.Laws.{carried}
use Rattle.refusals.proofs.Laws.{good-settings}
use Rattle.refusals.proofs.buffers.Closes.{closes-refused, step-put_back}
use Rattle.rewards_step.proofs.Tests.{rewards-passed}
use Rattle.rewards_step.proofs.process_rewards_and_penalties.Goals as goal

pub returns-in_err-rewards_tests : goal.returns-in_err-rewards_tests
returns-in_err-rewards_tests c = rw (carried _ c.from_residual.ensures) (closes-refused encode _ c.rewards_tests.ensures _ c.in_err-rewards_tests.was)

pub copy-requires : goal.copy-requires
copy-requires c = (rewards-passed _ _ _ _ _ c.rewards_tests.ensures c.in_ok-rewards_tests.was).same

pub rewards_core-done-requires : goal.rewards_core-done-requires
rewards_core-done-requires c =
    let p = rewards-passed _ _ _ _ _ c.rewards_tests.ensures c.in_ok-rewards_tests.was in
    rw c.settings_under-s.ensures (record { s_value = p.good; quotient_nonzero = (good-settings _ p.good).positive.inactivity_penalty_quotient_altair; registry_len = omega (arith, p.shape.long, ap length c.copy.ensures) })

pub put_back-requires : goal.put_back-requires
put_back-requires c = omega (arith, (rewards-passed _ _ _ _ _ c.rewards_tests.ensures c.in_ok-rewards_tests.was).same)

pub returns : goal.returns
returns c =
    let a = c.args in
    let s = settings_under a.rules in
    step-put_back (process_rewards_and_penalties s s.inactivity_penalty_quotient_altair a.state_slot a.finalized_epoch) _ c.rewards_tests.ensures c.in_ok-rewards_tests.was c.copy.ensures (rw c.settings_under-s.ensures at c.rewards_core-done.ensures) c.put_back.ensures
