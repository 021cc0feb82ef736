-- places are found by their types, so that other arguments of what follows do not move them
use mathlib.Core.Path.{refl, ap, ◌∙◌}
use native.Mathlib.Omega.{arith}
use borrow.Author.Rules.{rules}
use lib.ListN.{length}
use Rattle.definitions.specs.Rust.Phase0.EpochProcessing.{reset_slashings}
use Rattle.close.proofs.Worked.{closed-refused, closed-done}
use Rattle.close.proofs.close_surveyed.Goals as goal

pub copy-requires : goal.copy-requires
copy-requires c = c.requires.closing_registry_len.1

pub slashings_reset_core-requires : goal.slashings_reset_core-requires
slashings_reset_core-requires c = (ap length c.copy.ensures ∙ c.requires.tested.slashings, c.requires.tested.settings)

pub returns-then-answer-eq0 : goal.returns-then-answer-eq0
returns-then-answer-eq0 c =
    let stepped = c.run_steps-stepped.ensures in
    record { steps_closed = closed-done c.run_steps-stepped.ensures.limited_worked (omega (arith, c.if-answer-eq0.true)) (c.slashings_reset_core.ensures ∙ ap (reset_slashings _ _) c.copy.ensures); books = stepped.books; pair_of = stepped.pair_of }

pub copy-requires-2 : goal.copy-requires-2
copy-requires-2 c = omega (arith, c.requires.closing_registry_len.0, c.run_steps-stepped.auto.closing_registry)

pub returns : goal.returns
returns c = record { steps_closed = closed-refused c.run_steps-stepped.ensures.limited_worked (λ y. omega (arith, c.if-answer-eq0.false)) refl (λ same. search rules) (λ none. search rules) c.copy-2.ensures c.copy.ensures; books = record { booked = λ z. absurd (omega (arith, z, c.if-answer-eq0.false)) }; pair_of = record { pair = λ z. absurd (omega (arith, z, c.if-answer-eq0.false)) } }
