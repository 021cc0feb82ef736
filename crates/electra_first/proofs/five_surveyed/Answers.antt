use mathlib.Core.Path.{◌≡◌, refl, ap}
use Prim.Native.Nat.{◌<◌, ◌^◌}
use Rattle.definitions.specs.Record.{decode}
use Rattle.definitions.specs.Checked.{refused}
use Rattle.definitions.specs.declared.Refusal.TheVariants.{Overflow}
use Rattle.arithmetic.proofs.Laws.{carried}
use Rattle.justification.specs.Given.{justified_by}
use Rattle.refusals.proofs.All.{fails, passes}
use Rattle.refusals.proofs.Laws.{good-settings, good-finality}
use Rattle.electra_refusals.proofs.Passed.{good-electra}
use Rattle.registry.proofs.Epochs.{epochs}
use Rattle.survey.proofs.Raised.{raised-totals}
use Rattle.survey.proofs.Found.{plain-sums}
use Rattle.registry_close.proofs.Justified.{totals-found}
use Rattle.electra_first.proofs.Accepted.{over-accepted, four-refused}
use Rattle.electra_first.proofs.Firsts.{first-refused, first_goes, four-stop, slot_kept}
use mathlib.Core.Bool.{not}
use Rattle.electra_first.proofs.five_surveyed.Goals.{After-justify, In_ok-justified}
use Rattle.electra_first.proofs.five_surveyed.Goals as goal

-- what justification answered, by the survey's sums
justified : (c : After-justify) → c.justify.result ≡ justified_by c.args.s c.args.roots.now c.args.finality (decode c.args.registry.now)
justified c =
    c.justify.ensures.of (decode c.args.registry.now) (totals-found c.args.s c.args.finality.slot c.args.registry.now c.requires.finds c.total_of-active.ensures c.total_of-target.ensures c.total_of-current_target.ensures)

same-slot : (c : In_ok-justified) → c.in_ok-justified.justified.finality.slot ≡ c.args.finality.slot
same-slot c = let a = c.args in slot_kept a.rules a.s a.finality a.churn a.registry.now a.slashings.now a.roots.now (c.justify.ensures.of (decode a.registry.now) (totals-found a.s a.finality.slot a.registry.now c.requires.finds c.total_of-active.ensures c.total_of-target.ensures c.total_of-current_target.ensures)) c.in_ok-justified.was

small : (c : In_ok-justified) → c.in_ok-justified.justified.finality.slot < 2 ^ 48
small c = rw (same-slot c) (good-finality _ c.requires.rules_value.3).slot

pub justify-requires : goal.justify-requires
justify-requires c = c.requires.finality_value

pub returns-in_err-justified : goal.returns-in_err-justified
returns-in_err-justified c =
    let a = c.args in
    first-refused a.rules a.s a.finality a.churn a.registry.now a.slashings.now a.roots.now (justified (goal.at.returns-in_err-justified c).After-justify) c.in_err-justified.was (carried _ c.from_residual.ensures)

pub returns-then-not-all_fit : goal.returns-then-not-all_fit
returns-then-not-all_fit c =
    let a = c.args in
    let j = c.in_ok-justified.justified.finality in
    let over = fails c.all_fit.ensures (ap not c.if-not-all_fit.true) in
    four-stop a.rules a.s a.finality a.churn a.registry.now a.slashings.now a.roots.now (justified (goal.at.returns-then-not-all_fit c).After-justify) c.in_ok-justified.was
    (four-refused a.rules a.s j.slot j.finalized_checkpoint.epoch a.slashings.now a.churn c.requires.rules_value.2 c.requires.rules_value.0 (epochs _ _ (good-electra _ c.requires.rules_value.0).settings (small (goal.at.returns-then-not-all_fit c).In_ok-justified)) (decode a.registry.now)
    (over-accepted a.rules a.s _ _ (same-slot (goal.at.returns-then-not-all_fit c).In_ok-justified) a.registry.now c.requires.finds over) {x = refused Overflow} refl)
    refl refl

pub finalizing_test-test-requires : goal.finalizing_test-test-requires
finalizing_test-test-requires c =
    let a = c.requires in
    ((good-settings _ a.rules_value.1).positive.slots_per_epoch, a.rules_value.3)

pub four_steps-requires : goal.four_steps-requires
four_steps-requires c =
    let a = c.requires in
    let fit = passes c.all_fit.ensures (ap not c.if-not-all_fit.false) in
    record { rules_value = (a.rules_value.0, small (goal.at.four_steps-requires c).In_ok-justified, a.rules_value.1, a.rules_value.2); opening_len = a.registry_len; totals_of = rw (same-slot (goal.at.four_steps-requires c).In_ok-justified, c.raised_totals.ensures) (raised-totals _ (plain-sums a.finds fit)) }

pub returns-in_err-moved : goal.returns-in_err-moved
returns-in_err-moved c =
    let a = c.args in
    four-stop a.rules a.s a.finality a.churn a.registry.now a.slashings.now a.roots.now (justified (goal.at.returns-in_err-moved c).After-justify) c.in_ok-justified.was c.four_steps.ensures c.in_err-moved.was (carried _ c.from_residual-in_err-moved.ensures)

pub returns : goal.returns
returns c =
    let a = c.args in
    first_goes a.rules a.s a.finality a.churn a.registry.now a.slashings.now a.roots.now (justified (goal.at.returns c).After-justify) c.in_ok-justified.was c.four_steps.ensures c.in_ok-moved.was c.finalizing_test-test.ensures
