use Rattle.definitions.specs.Refusals.{good_validator}
use Rattle.definitions.specs.Document.Phase0.Helpers.{is_active_validator}
use Rattle.survey.specs.Found.{found_after}
use Rattle.survey.proofs.survey_entry.Goals as goal

pub returns : goal.returns
unfolding found_after good_validator is_active_validator
returns c = rw (c.number_after.ensures, c.last_after.ensures, c.count_if.ensures, c.overs_after.ensures, c.sums_after.ensures, c.test_after.ensures, c.is_active-active.ensures, c.entry_sums-own.ensures)
