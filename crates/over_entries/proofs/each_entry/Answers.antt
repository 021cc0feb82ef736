use Rattle.arithmetic.proofs.Laws.{carried}
use Rattle.laws.proofs.Loops.Checking.{checking-none, checking-ten, checking-more, checking-stop, checking-all}
use Rattle.over_entries.proofs.each_entry.Goals as goal

pub loop-i-init : goal.loop-i-init
loop-i-init g c f k = checking-none f c.requires.registry_len

pub returns-in_err-rule : goal.returns-in_err-rule
returns-in_err-rule g c f k =
    let i = c.loop-i.invariant f k in
    rw (carried _ c.from_residual.ensures) (checking-stop i c.loop-i-test.true (k _ _ _ (checking-ten i c.loop-i-test.true) c.rule.ensures) c.in_err-rule.was)

pub loop-i-preserved : goal.loop-i-preserved
loop-i-preserved g c f k =
    let i = c.loop-i.invariant f k in
    checking-more i c.loop-i-test.true (k _ _ _ (checking-ten i c.loop-i-test.true) c.rule.ensures) c.in_ok-rule.was

pub returns : goal.returns
returns g c f k = checking-all (c.loop-i.invariant f k) c.loop-i-test.false
