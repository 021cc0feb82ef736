use mathlib.Core.Path.{refl, ◌∙◌}
use native.Mathlib.Omega.{arith}
use Rattle.outage.proofs.outage_run.Slot.{went-small}
use Rattle.outage.proofs.outage_run.Running.{running_none, running_more, running-stop, running-all, ready-more, Lasting}
use Rattle.outage.proofs.outage_run.run_epochs.Goals.{After-try_epoch-closed}
use Rattle.outage.proofs.outage_run.run_epochs.Goals as goal

lasting : (c : After-try_epoch-closed) → let a = c.args in let left = c.try_epoch-closed.new in Lasting a.registry.now a.slashings.now a.roots.now a.closing_registry.now a.closing_slashings.now a.text.now left.registry left.slashings left.roots left.closing_registry left.closing_slashings left.text
lasting c =
    let k = c.loop-i.invariant.2 in
    let kept = c.try_epoch-closed.auto in
    record {
      entries = kept.registry ∙ k.entries;
      sums = kept.slashings ∙ k.sums;
      places = kept.roots ∙ k.places;
      closing-entries = kept.closing_registry ∙ k.closing-entries;
      closing-sums = kept.closing_slashings ∙ k.closing-sums;
      bytes = kept.text ∙ k.bytes;
    }

pub loop-i-init : goal.loop-i-init
loop-i-init c =
    (running_none _ _ _ _, c.requires.ready, record { entries = refl; sums = refl; places = refl; closing-entries = refl; closing-sums = refl; bytes = refl })

pub try_epoch-closed-requires : goal.try_epoch-closed-requires
try_epoch-closed-requires c =
    let g = c.loop-i.invariant in
    let k = g.2 in
    let r = c.requires.room in
    record { ready = g.1; room = record { entries = omega (arith, k.closing-entries, r.entries, k.entries); sums = omega (arith, k.closing-sums, r.sums, k.sums); few = omega arith; heads = omega (arith, g.0.inside, c.loop-i-test.true, r.heads, k.bytes) } }

pub returns-then-closed-ne0 : goal.returns-then-closed-ne0
returns-then-closed-ne0 c =
    running-stop c.loop-i.invariant.0 c.loop-i-test.true c.try_epoch-closed.ensures c.if-closed-ne0.true

pub loop-i-preserved : goal.loop-i-preserved
loop-i-preserved c =
    let g = c.loop-i.invariant in
    let kept = c.try_epoch-closed.auto in
    let w = c.try_epoch-closed.ensures in
    let z = c.if-closed-ne0.false in
    (running_more g.0 c.loop-i-test.true w z, ready-more g.1 (went-small _ w z) kept.registry kept.roots, lasting (goal.at.loop-i-preserved c).After-try_epoch-closed)

pub shape_of-registry-then-closed-ne0 : goal.shape_of-registry-then-closed-ne0
shape_of-registry-then-closed-ne0 c = (lasting (goal.at.shape_of-registry-then-closed-ne0 c).After-try_epoch-closed).entries

pub shape_of-slashings-then-closed-ne0 : goal.shape_of-slashings-then-closed-ne0
shape_of-slashings-then-closed-ne0 c = (lasting (goal.at.shape_of-slashings-then-closed-ne0 c).After-try_epoch-closed).sums

pub shape_of-roots-then-closed-ne0 : goal.shape_of-roots-then-closed-ne0
shape_of-roots-then-closed-ne0 c = (lasting (goal.at.shape_of-roots-then-closed-ne0 c).After-try_epoch-closed).places

pub shape_of-closing_registry-then-closed-ne0 : goal.shape_of-closing_registry-then-closed-ne0
shape_of-closing_registry-then-closed-ne0 c = (lasting (goal.at.shape_of-closing_registry-then-closed-ne0 c).After-try_epoch-closed).closing-entries

pub shape_of-closing_slashings-then-closed-ne0 : goal.shape_of-closing_slashings-then-closed-ne0
shape_of-closing_slashings-then-closed-ne0 c = (lasting (goal.at.shape_of-closing_slashings-then-closed-ne0 c).After-try_epoch-closed).closing-sums

pub shape_of-text-then-closed-ne0 : goal.shape_of-text-then-closed-ne0
shape_of-text-then-closed-ne0 c = (lasting (goal.at.shape_of-text-then-closed-ne0 c).After-try_epoch-closed).bytes

pub overflow_step-i : goal.overflow_step-i
overflow_step-i c = omega (arith, c.loop-i-test.true, c.requires.room.few)

pub loop-i-smaller : goal.loop-i-smaller
loop-i-smaller c = omega (arith, c.loop-i-test.true)

pub shape_of-registry : goal.shape_of-registry
shape_of-registry c = c.loop-i.invariant.2.entries

pub shape_of-slashings : goal.shape_of-slashings
shape_of-slashings c = c.loop-i.invariant.2.sums

pub shape_of-roots : goal.shape_of-roots
shape_of-roots c = c.loop-i.invariant.2.places

pub shape_of-closing_registry : goal.shape_of-closing_registry
shape_of-closing_registry c = c.loop-i.invariant.2.closing-entries

pub shape_of-closing_slashings : goal.shape_of-closing_slashings
shape_of-closing_slashings c = c.loop-i.invariant.2.closing-sums

pub shape_of-text : goal.shape_of-text
shape_of-text c = c.loop-i.invariant.2.bytes

pub returns : goal.returns
returns c = running-all c.loop-i.invariant.0 c.loop-i-test.false
