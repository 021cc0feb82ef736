use mathlib.Core.Path.{sym, ◌∙◌}
use Rattle.definitions.specs.Checked.{value}
use Rattle.refusals.proofs.Answers.{after-refused, refused-answers}
use Rattle.laws_file.proofs.Tests.{write_good}
use Rattle.laws_file.proofs.Tests.{is-file}
use Rattle.record_file.proofs.Writing.{write_refused}
use Rattle.record_file.proofs.write_file.Goals as goal

pub returns-in_err-write_tests : goal.returns-in_err-write_tests
returns-in_err-write_tests c =
    let e = c.write_tests.ensures in
    let z = c.in_err-write_tests.was in
    let handed = refused-answers _ e (value tt) z c.from_residual.ensures ∙ after-refused _ (value tt) e z in
    let m = sym e ∙ z in
    record { value = handed ∙ sym m; file_after = write_refused _ _ _ m }

pub put_record-requires : goal.put_record-requires
put_record-requires c =
    let w = write_good _ _ _ (sym c.write_tests.ensures ∙ c.in_ok-write_tests.was) in
    record { entries = w.good.entries; roots = w.good.roots; slashings = w.good.slashings; long = w.long }

pub returns : goal.returns
returns c =
    let m = sym c.write_tests.ensures ∙ c.in_ok-write_tests.was in
    record { value = sym m; file_after = c.put_record.ensures ∙ sym (is-file _ _ _ m) }
