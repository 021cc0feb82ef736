-- what the tests gave
use mathlib.Core.Path.{◌≡◌, refl, sym, ap, ◌∙◌}
use Prim.Native.Nat.{◌-◌, ◌*◌, ◌/◌, ◌<◌, ◌^◌}
use lib.ListN.{length, take, length-take}
use native.Mathlib.Omega.{arith}
use borrow.Author.Rules.{rules}
use Rattle.definitions.specs.Record.{decode}
use Rattle.refusals.proofs.Laws.{good-settings}
use Rattle.electra_refusals.proofs.Passed.{good-electra}
use Rattle.definitions.specs.Checked.{refused, done}
use Rattle.arithmetic.proofs.Laws.{carried}
use Rattle.slashings.proofs.Adjusted.{only-adjusted}
use Rattle.rewards_step.proofs.flag_rewards.Totals.{total-least}
use Rattle.registry.proofs.Epochs.{Epochs, epochs}
use Rattle.electra_slashings.proofs.Slashed.{some_increments}
use Rattle.write_steps.proofs.Only.{only-leak}
use Rattle.write_steps.proofs.Accepted.{none-gave}
use Rattle.electra_first.proofs.Accepted.{Accepted, four-refused}
use Rattle.electra_first.proofs.Columns.{back_long}
use Rattle.electra_first.proofs.Booked.{by-refused, by-ran}
use Rattle.definitions_electra.specs.declared.ElectraRules.{ElectraRules}
use Rattle.definitions.specs.declared.Settings.{Settings}
use Prim.Native.Nat.{ℕ}
use mathlib.Core.List.{List}
use Rattle.electra_first.proofs.four_steps.Goals.{After-make_plan-p, Start}
use Rattle.electra_first.proofs.four_steps.Goals as goal

eps : (c : Start) → Epochs c.args.s c.args.state_slot
eps c = epochs _ _ c.requires.rules_value.2 c.requires.rules_value.1

ep : (c : Start) → Epochs c.args.rules.settings c.args.state_slot
ep c = epochs _ _ (good-electra _ c.requires.rules_value.0).settings c.requires.rules_value.1

abbrev Accepted-at : ElectraRules → Settings → ℕ → ℕ → List ℕ → List ℕ → Type 0
Accepted-at rules s state_slot finalized_epoch slashings opening = Accepted rules s state_slot finalized_epoch slashings (decode opening)

-- the present epoch is small
small : (c : After-make_plan-p) → c.current_epoch-current.result < 2 ^ 48
small c = rw c.current_epoch-current.ensures (epochs _ _ c.requires.rules_value.2 c.requires.rules_value.1).small

pub current_epoch-current-requires : goal.current_epoch-current-requires
current_epoch-current-requires c = (good-settings _ c.requires.rules_value.2).positive.slots_per_epoch

pub previous_epoch-previous-requires : goal.previous_epoch-previous-requires
previous_epoch-previous-requires c = (good-settings _ c.requires.rules_value.2).positive.slots_per_epoch

pub leak_of-requires : goal.leak_of-requires
leak_of-requires c = ((good-settings _ c.requires.rules_value.2).positive.slots_per_epoch, c.current_epoch-current.ensures)

pub returns-in_err-leaking : goal.returns-in_err-leaking
returns-in_err-leaking c =
    let a = c.args in
    let e = sym c.leak_of.ensures ∙ c.in_err-leaking.was in
    let o = (only-leak _ _ _).why _ e in
    four-refused a.rules a.s a.state_slot a.finalized_epoch a.slashings.now a.churn c.requires.rules_value.3 c.requires.rules_value.0 (ep (goal.at.returns-in_err-leaking c).Start) (decode a.opening.now) (λ (g : Accepted-at c.args.rules c.args.s c.args.state_slot c.args.finalized_epoch c.args.slashings.now c.args.opening.now). none-gave (e ∙ ap refused o) g.sums.leak) (carried _ c.from_residual.ensures ∙ ap refused o)

pub returns-in_err-adjusted : goal.returns-in_err-adjusted
returns-in_err-adjusted c =
    let a = c.args in
    let e = sym c.adjusted_balance.ensures ∙ c.in_err-adjusted.was in
    let o = (only-adjusted _ _ _).why _ e in
    four-refused a.rules a.s a.state_slot a.finalized_epoch a.slashings.now a.churn c.requires.rules_value.3 c.requires.rules_value.0 (ep (goal.at.returns-in_err-adjusted c).Start) (decode a.opening.now) (λ (g : Accepted-at c.args.rules c.args.s c.args.state_slot c.args.finalized_epoch c.args.slashings.now c.args.opening.now). none-gave (e ∙ ap refused o) (g.adjusted _)) (carried _ c.from_residual-in_err-adjusted.ensures ∙ ap refused o)

pub nonzero_div-increments : goal.nonzero_div-increments
nonzero_div-increments c = (good-settings _ c.requires.rules_value.2).positive.effective_balance_increment

pub nonzero_div-adjusted : goal.nonzero_div-adjusted
nonzero_div-adjusted c =
    let a = c.requires in
    some_increments _ _ a.totals_of.active (good-settings _ a.rules_value.2).positive.effective_balance_increment

pub make_plan-p-requires : goal.make_plan-p-requires
make_plan-p-requires c =
    let a = c.requires in
    let p = (good-settings _ a.rules_value.2).positive in
    record { effective_balance_increment_nonzero = (p.effective_balance_increment, total-least _ _ a.totals_of.active); inactivity_score_bias_nonzero = (p.inactivity_score_bias, p.inactivity_penalty_quotient_altair) }

pub numbers_by-n-requires : goal.numbers_by-n-requires
numbers_by-n-requires c = (c.requires.rules_value.0, small (goal.at.numbers_by-n-requires c).After-make_plan-p)

pub overflow_mul-nines : goal.overflow_mul-nines
overflow_mul-nines c = omega (arith, c.well_formed.1.1.1.1.1.1.1.0)

pub slice_bounds-write_later-end : goal.slice_bounds-write_later-end
slice_bounds-write_later-end c = omega (arith, c.requires.opening_len)

pub write_later-requires : goal.write_later-requires
write_later-requires c =
    let a = c.requires in
    let m = c.make_plan-p.ensures in
    record { planned = m.planned; opening_len = (a.opening_len.0, a.opening_len.1); current_epoch_bound = (rw m.is (small (goal.at.write_later-requires c).After-make_plan-p), rw c.numbers_by-n.ensures (small (goal.at.write_later-requires c).After-make_plan-p)) }

pub returns-in_err-after : goal.returns-in_err-after
returns-in_err-after c =
    let a = c.args in
    let now = c.current_epoch-current.ensures in
    by-refused a.rules a.s a.state_slot a.finalized_epoch a.slashings.now a.churn c.requires.rules_value.3 c.requires.rules_value.0 (ep (goal.at.returns-in_err-after c).Start) (eps (goal.at.returns-in_err-after c).Start) a.opening.now c.requires.totals_of _ (sym c.leak_of.ensures ∙ c.in_ok-leaking.was) _ (sym c.adjusted_balance.ensures ∙ c.in_ok-adjusted.was) now c.previous_epoch-previous.ensures c.make_plan-p.ensures c.numbers_by-n.ensures c.write_later.ensures.swept c.in_err-after.was (carried _ c.from_residual-in_err-after.ensures)

pub returns : goal.returns
returns c =
    let a = c.args in
    let now = c.current_epoch-current.ensures in
    let wrote = c.write_later in
    let long = c.requires.opening_len in
    let nines : length (take (9 * (length a.opening.now / 10) - 0) a.amounts.now) ≡ 9 * (length a.opening.now / 10) = simp length-take (omega (arith, long)) in
    by-ran a.rules a.s a.state_slot a.finalized_epoch a.slashings.now a.churn c.requires.rules_value.3 c.requires.rules_value.0 (ep (goal.at.returns c).Start) (eps (goal.at.returns c).Start) a.opening.now c.requires.totals_of _ (sym c.leak_of.ensures ∙ c.in_ok-leaking.was) _ (sym c.adjusted_balance.ensures ∙ c.in_ok-adjusted.was) now c.previous_epoch-previous.ensures c.make_plan-p.ensures c.numbers_by-n.ensures wrote.ensures.swept long.0 (wrote.auto.closing ∙ long.1) _ (wrote.ensures.fills.filled (ap done c.in_ok-after.was) nines) refl c.spread.ensures (back_long (9 * (length a.opening.now / 10) - 0) wrote.new.amounts a.amounts.now wrote.auto.amounts ∙ long.2) c.in_ok-after.was
