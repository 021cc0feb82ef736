use mathlib.Core.Path.{refl, sym}
use native.Mathlib.Omega.{arith}
use Rattle.refusals.proofs.All.{passed_none, passed-more, passed-stop, passed-all, fails, passes}
use Rattle.store.specs.Answers.{rules_pass}
use Rattle.store.proofs.store_entries.Entries.{blank, length-entries, part_length, part-tested}
use mathlib.Core.Path.{ap}
use mathlib.Core.Bool.{not}
use Rattle.store.proofs.store_entries.entries_pass.Goals as goal

pub loop-i-init : goal.loop-i-init
loop-i-init c = passed_none _ _

pub entry_rules-requires : goal.entry_rules-requires
entry_rules-requires c = part_length _ _ c.requires _ _ _ refl refl c.loop-i-test.true

pub returns-then-not-rules_pass : goal.returns-then-not-rules_pass
returns-then-not-rules_pass c =
    let e = c.entry_rules.ensures in
    let t = fails c.rules_pass.ensures (ap not c.if-not-rules_pass.true) in
    let at = part-tested _ _ c.requires _ _ _ refl refl c.loop-i-test.true (rules_pass c.args.test) e t in
    sym (passed-stop c.loop-i.invariant (omega (arith, length-entries c.args.n c.args.store.now)) blank at)

pub loop-i-preserved : goal.loop-i-preserved
loop-i-preserved c =
    let e = c.entry_rules.ensures in
    let t = passes c.rules_pass.ensures (ap not c.if-not-rules_pass.false) in
    let at = part-tested _ _ c.requires _ _ _ refl refl c.loop-i-test.true (rules_pass c.args.test) e t in
    passed-more c.loop-i.invariant (omega (arith, length-entries c.args.n c.args.store.now)) blank at

pub returns : goal.returns
returns c = sym (passed-all c.loop-i.invariant (omega (arith, length-entries c.args.n c.args.store.now)))
