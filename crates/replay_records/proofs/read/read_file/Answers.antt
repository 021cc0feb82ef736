use mathlib.Core.Path.{◌∙◌}
use Rattle.record_file.proofs.Reading.{read-code, read-lengths}
use Rattle.replay_records.proofs.read.read_file.Goals as goal

pub file_roots-roots-requires : goal.file_roots-roots-requires
file_roots-roots-requires c = (read-lengths _ _ _ (c.read_file-answer.ensures.refusal_value ∙ read-code _ _ _) c.if-answer-ne0.false).header
