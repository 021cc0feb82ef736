-- what the tests gave
use mathlib.Core.Path.{sym, ◌∙◌}
use mathlib.Core.Bool.{true≢false}
use Prim.Native.Nat.{◌<◌, ◌^◌}
use native.Mathlib.Omega.{arith}
use Rattle.definitions.specs.Record.{decode}
use Rattle.refusals.proofs.All.{fails, passes}
use Rattle.refusals.proofs.Laws.{good-settings}
use Rattle.laws.proofs.Checked.{not_value}
use Rattle.laws.proofs.Loops.Ran.{ran-refused}
use Rattle.registry.proofs.Epochs.{Epochs, epochs}
use Rattle.write_steps.proofs.Accepted.{Accepted, not_accepted}
use Rattle.write_steps.proofs.Made.{plain-fit, found_all}
use mathlib.Core.Path.{ap}
use mathlib.Core.Bool.{not}
use Rattle.definitions.specs.declared.Settings.{Settings}
use Prim.Native.Nat.{ℕ}
use mathlib.Core.List.{List}
use Rattle.write_steps.proofs.write_registry.Goals.{After-current_epoch-epoch, Start}
use Rattle.write_steps.proofs.write_registry.Goals as goal

ep : (c : Start) → Epochs c.args.s c.args.state_slot
ep c = epochs c.args.s c.args.state_slot c.requires.s_value.0 c.requires.s_value.1

abbrev Accepted-at : Settings → ℕ → ℕ → List ℕ → List ℕ → Type 0
Accepted-at s state_slot finalized_epoch slashings opening = Accepted s state_slot finalized_epoch slashings (decode opening)

-- the present epoch is small
current-small : (c : After-current_epoch-epoch) → c.current_epoch-epoch.result < 2 ^ 48
current-small c =
    rw c.current_epoch-epoch.ensures (epochs c.args.s c.args.state_slot c.requires.s_value.0 c.requires.s_value.1).small

pub returns-then-not-all_fit : goal.returns-then-not-all_fit
returns-then-not-all_fit c =
    let over = fails c.all_fit.ensures (ap not c.if-not-all_fit.true) in
    record { ran = ran-refused (not_accepted _ _ _ _ (ep (goal.at.returns-then-not-all_fit c).Start) _ _ (λ (g : Accepted-at c.args.s c.args.state_slot c.args.finalized_epoch c.args.slashings.now c.args.opening.now). true≢false (sym (plain-fit c.requires.finds g.plain) ∙ over))); books = record { booked = λ z. absurd (omega (arith, z)) }; pair_in = record { pair = λ q e. absurd (not_value e) } }

pub current_epoch-epoch-requires : goal.current_epoch-epoch-requires
current_epoch-epoch-requires c =
    (good-settings _ c.requires.s_value.0).positive.slots_per_epoch

pub churn_by-churn-requires : goal.churn_by-churn-requires
churn_by-churn-requires c =
    (good-settings _ c.requires.s_value.0).positive.churn_limit_quotient

pub overflow_add-least-2 : goal.overflow_add-least-2
overflow_add-least-2 c =
    omega (arith, current-small (goal.at.overflow_add-least-2 c).After-current_epoch-epoch, (good-settings _ c.requires.s_value.0).small.max_seed_lookahead)

pub cut_queue-cut-requires : goal.cut_queue-cut-requires
cut_queue-cut-requires c =
    let a = c.requires in
    record { registry_len = a.opening_len.0; epoch_bound = (omega (arith, current-small (goal.at.cut_queue-cut-requires c).After-current_epoch-epoch), omega (arith, a.s_value.2)); smallest = rw c.current_epoch-epoch.ensures a.finds.waiting }

pub write_found-requires : goal.write_found-requires
write_found-requires c =
    let e = c.current_epoch-epoch.ensures in
    record { s_value = (c.requires.s_value.0, c.requires.s_value.1); opening_len = c.requires.opening_len; found = found_all c.args.s c.args.state_slot (ep (goal.at.write_found-requires c).Start) c.args.opening.now c.requires.finds (passes c.all_fit.ensures (ap not c.if-not-all_fit.false)) c.raised_totals-totals.ensures c.churn_by-churn.ensures (rw e at c.start_pair-queue.ensures) }

pub returns : goal.returns
returns c =
    let wrote = c.write_found.ensures in
    record { ran = wrote.ran_under.under _ (rw (c.activation_limit-most.ensures, c.current_epoch-epoch.ensures) at c.cut_queue-cut.ensures); books = wrote.books; pair_in = wrote.pair_in }

pub overflow_add-least : goal.overflow_add-least
overflow_add-least c = omega (arith, current-small (goal.at.overflow_add-least c).After-current_epoch-epoch)
