use mathlib.Core.Path.{refl, ap, ◌∙◌}
use native.Mathlib.Omega.{arith}
use lib.ListN.{length-take}
use Rattle.definitions.specs.declared.Rules.{Rules}
use Rattle.refusals.specs.Refusal.{rules_refusal}
use Rattle.shelf_file.proofs.Parts.{front_length, behind-length}
use Rattle.shelf_file.proofs.Tests.{same-rules, tested}
use Rattle.shelf_file.proofs.file_tests.Goals as goal

pub slice_bounds-read_tests-end : goal.slice_bounds-read_tests-end
slice_bounds-read_tests-end c = omega (arith, length-take c.args.a c.args.numbers.now)

pub returns : goal.returns
returns c =
    let a = c.args in
    let p = c.requires.counted in
    let k = p.counts in
    let t = c.read_tests-tested in
    let e = c.rules_refusal.ensures ∙ ap (λ (r : Rules). rules_refusal r t.result.tested) (same-rules a.rules.fork a.rules.bellatrix a.file.now a.rules c.requires.settings_value refl refl) in
    tested a.rules.fork a.rules.bellatrix a.file.now k.header k.second _ _ (front_length p ∙ k.registry) (behind-length p) e t.ensures.is
