use mathlib.Core.Path.{sym, ap, ◌∙◌}
use native.Mathlib.Omega.{arith}
use lib.ListN.{length}
use Rattle.definitions_file.specs.File.{contents_with}
use Rattle.outage.proofs.Ended.{run-refused, run-lines}
use Rattle.outage.proofs.put_run.Goals as goal

pub run_epochs-ran-requires : goal.run_epochs-ran-requires
run_epochs-ran-requires c = record { ready = c.requires.ready; room = c.requires.room }

pub put_refused-requires : goal.put_refused-requires
put_refused-requires c = omega (arith, c.run_epochs-ran.ensures.inside, c.run_epochs-ran.auto.text, c.requires.opening_in_bounds)

pub returns-then-ran-ne0 : goal.returns-then-ran-ne0
returns-then-ran-ne0 c =
    let a = c.args in
    let w = c.run_epochs-ran.ensures in
    let p = c.put_refused.ensures in
    rw c.requires.opening_value.1
    (run-refused (contents_with a.s a.finality a.registry.now a.roots.now a.slashings.now) w c.if-ran-ne0.true p.put (omega (arith, p.upper_bound, w.inside, c.requires.opening_in_bounds)))

pub put_rows-requires : goal.put_rows-requires
put_rows-requires c =
    let e = ap length c.requires.opening_value.1 in
    record { opening_value = (c.requires.opening_value.0, c.run_epochs-ran.auto.registry ∙ sym e); opening_in_bounds = omega (arith, c.run_epochs-ran.ensures.inside, c.run_epochs-ran.auto.text, c.requires.opening_in_bounds) }

pub returns : goal.returns
returns c =
    let a = c.args in
    let p = c.put_rows.ensures in
    let q = rw c.requires.opening_value.1 at p.put in
    rw c.requires.opening_value.1
    (run-lines (contents_with a.s a.finality a.registry.now a.roots.now a.slashings.now) c.run_epochs-ran.ensures c.if-ran-ne0.false q p.upper_bound)
