-- what the tests gave
use mathlib.Core.Path.{refl}
use Prim.Native.Nat.{◌<◌, ◌^◌}
use native.Mathlib.Omega.{arith}
use Rattle.definitions.specs.Record.{decode}
use Rattle.refusals.proofs.Laws.{good-settings}
use Rattle.arithmetic.proofs.Laws.{carried}
use Rattle.laws.proofs.Checked.{not_value}
use Rattle.laws.proofs.Loops.Ran.{ran-refused}
use Rattle.registry.proofs.Epochs.{Epochs, epochs}
use Rattle.write_steps.proofs.Accepted.{Accepted, none_lacks, not_accepted}
use Rattle.write_steps.proofs.Made.{queue-few, passed-code}
use Rattle.write_steps.proofs.Steps.{steps-run}
use Rattle.rewards_step.proofs.flag_rewards.Totals.{total-least}
use Rattle.definitions.specs.declared.Settings.{Settings}
use Prim.Native.Nat.{ℕ}
use mathlib.Core.List.{List}
use Rattle.write_steps.proofs.write_found.Goals.{After-current_epoch-current, Start}
use Rattle.write_steps.proofs.write_found.Goals as goal

ep : (c : Start) → Epochs c.args.s c.args.state_slot
ep c = epochs c.args.s c.args.state_slot c.requires.s_value.0 c.requires.s_value.1

abbrev Accepted-at : Settings → ℕ → ℕ → List ℕ → List ℕ → Type 0
Accepted-at s state_slot finalized_epoch slashings opening = Accepted s state_slot finalized_epoch slashings (decode opening)

current-small : (c : After-current_epoch-current) → c.current_epoch-current.result < 2 ^ 48
current-small c = rw c.current_epoch-current.ensures (epochs c.args.s c.args.state_slot c.requires.s_value.0 c.requires.s_value.1).small

pub plan_for-requires : goal.plan_for-requires
plan_for-requires c = (c.requires.s_value.0, total-least _ _ c.requires.found.totals.active)

-- the plan's refusal is 5
pub returns-in_err-p : goal.returns-in_err-p
returns-in_err-p c =
    let lacks = c.plan_for.ensures.none _ c.in_err-p.was in
    rw (carried _ c.from_residual.ensures, c.plan_for.ensures.why _ c.in_err-p.was)
    (record { ran_under = record { under = λ by cut. ran-refused (not_accepted by _ _ _ (ep (goal.at.returns-in_err-p c).Start) _ _ (λ (g : Accepted-at c.args.s c.args.state_slot c.args.finalized_epoch c.args.slashings.now c.args.opening.now). none_lacks g lacks)) }; books = record { booked = λ z. absurd (omega (arith, z)) }; pair_in = record { pair = λ q e. absurd (not_value e) } })

pub current_epoch-current-requires : goal.current_epoch-current-requires
current_epoch-current-requires c =
    (good-settings _ c.requires.s_value.0).positive.slots_per_epoch

pub overflow_add-course-2 : goal.overflow_add-course-2
overflow_add-course-2 c = omega (arith, current-small (goal.at.overflow_add-course-2 c).After-current_epoch-current, (good-settings _ c.requires.s_value.0).small.max_seed_lookahead)

pub write_all-requires : goal.write_all-requires
write_all-requires c =
    let m = (c.plan_for.ensures.given _ c.in_ok-p.was).makes in
    record { planned = m.planned; opening_len = c.requires.opening_len; current_epoch_bound = (rw m.is (ep (goal.at.write_all-requires c).Start).small, queue-few c.args.opening.now c.requires.opening_len.0 c.requires.found.queue) }

pub returns : goal.returns
returns c =
    let by = c.plan_for.ensures.given _ c.in_ok-p.was in
    let wrote = c.write_all.ensures in
    record { ran_under = steps-run (ep (goal.at.returns c).Start) c.args.slashings.now _ c.requires.found refl (rw c.current_epoch-current.ensures refl) by wrote.ran; books = record { booked = λ z long. record { totals = c.args.totals; plan = _; summed = c.requires.found.totals; planned = by; filled = wrote.fills.filled (passed-code _ z) long } }; pair_in = wrote.pair_in }

pub overflow_add-course : goal.overflow_add-course
overflow_add-course c = omega (arith, current-small (goal.at.overflow_add-course c).After-current_epoch-current)
