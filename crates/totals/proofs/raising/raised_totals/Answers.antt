use mathlib.Core.Path.{◌∙◌}
use Prim.Native.Nat.{◌^◌, ◌<◌}
use native.Mathlib.Omega.{arith}
use Rattle.totals.proofs.raising.Three.{three-raised, three-totals}
use Rattle.totals.proofs.raising.raised_totals.Goals.{Start}
use Rattle.totals.proofs.raising.raised_totals.Goals as goal

small : (c : Start) → c.args.s.effective_balance_increment < 2 ^ 64
small c = omega arith

pub returns : goal.returns
returns c =
    let a = c.args in
    let now = c.current_epoch-now.ensures in
    c.raised_of.ensures ∙ three-raised a.s (small (goal.at.returns c).Start) a.state_slot _ now (three-totals a.s a.state_slot _ now c.previous_epoch-before.ensures c.active_total-active.ensures c.participating_total-previous.ensures c.participating_total-current.ensures)
