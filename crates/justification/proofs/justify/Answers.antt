use mathlib.Core.Path.{ap, ◌∙◌}
use Prim.Native.Nat.{◌^◌, ◌<◌}
use native.Mathlib.Omega.{arith}
use Rattle.definitions.specs.declared.Raised.{Raised}
use Rattle.definitions.specs.Checked.{Checked, value}
use Rattle.arithmetic.proofs.Laws.{next, passes-on}
use Rattle.weighing.proofs.Passed.{weigh-passed}
use Rattle.totals.proofs.raising.Three.{three-raised}
use Rattle.justification.specs.declared.Justified.{Justified}
use Rattle.justification.proofs.Totals.{given}
use Rattle.justification.proofs.justify.Goals.{Start}
use Rattle.justification.proofs.justify.Goals as goal

small : (c : Start) → c.args.s.effective_balance_increment < 2 ^ 64
small c = omega arith

pub current_epoch-current-requires : goal.current_epoch-current-requires
current_epoch-current-requires c =
    (weigh-passed _ _ _ c.requires).settings.good.positive.slots_per_epoch

pub returns-in_err-finality : goal.returns-in_err-finality
returns-in_err-finality c =
    let a = c.args in
    record { of = λ vs h. passes-on _ (c.weigh_totals.ensures.of vs (given a.s a.old.slot vs h c.balance_of.ensures c.balance_of-2.ensures c.balance_of-3.ensures)) c.in_err-finality.was c.from_residual.ensures }

pub returns : goal.returns
returns c =
    let a = c.args in
    record {
      of = λ vs h.
          let g = given a.s a.old.slot vs h c.balance_of.ensures c.balance_of-2.ensures c.balance_of-3.ensures in
          let raised = c.raised_of-raised.ensures ∙ three-raised a.s (small (goal.at.returns c).Start) a.old.slot vs c.current_epoch-current.ensures h in
          let with : Raised → Checked Justified = λ x. value (record { finality = c.in_ok-finality.finality; raised = x }) in
          next _ (c.weigh_totals.ensures.of vs g) c.in_ok-finality.was (ap with raised);
    }
