use Rattle.std.proofs.Common.{refl, eq-eqb}
use Rattle.definitions.specs.Document.Phase0.Helpers.{is_active_validator}
use Rattle.definitions.specs.Document.Altair.Helpers.{is_unslashed_participating}
use Rattle.survey.proofs.entry_sums.Goals as goal

pub returns : goal.returns
unfolding is_unslashed_participating is_active_validator
returns c =
    let epoch = c.args.current_epoch in
    rw (
      c.weight_where.ensures,
      c.weight_where-2.ensures,
      c.weight_where-3.ensures,
      c.weight_where-4.ensures,
      c.weight_where-5.ensures,
      c.participates-source.ensures,
      c.participates-target.ensures,
      c.participates-head.ensures,
      c.participates-current_target.ensures,
      c.is_active-active.ensures,
      c.is_active-was_active.ensures,
      c.flags_at-flags.ensures,
      eq-eqb epoch epoch refl,
    )
