-- what justification answered, by the survey's sums
use mathlib.Core.Path.{◌≡◌, refl, sym, ap}
use Prim.Native.Nat.{ℕ}
use native.Mathlib.Omega.{arith}
use Rattle.definitions.specs.Record.{decode}
use Rattle.definitions.specs.Checked.{code_of}
use Rattle.definitions.specs.Raised.{raised_totals, close_answer_for}
use Rattle.definitions.specs.Rust.Phase0.EpochProcessing.{reset_slashings}
use Rattle.definitions.specs.Rust.Altair.EpochProcessing.{process_justification_and_finalization}
use Rattle.refusals.proofs.Laws.{small, good-finality}
use Rattle.registry_close.proofs.Justified.{totals-found}
use Rattle.registry_close.proofs.Worked.{answered, slot_kept, finalized-small, worked_unjustified, worked-refused, worked-done}
use Rattle.registry_close.proofs.run_steps.Goals.{After-justification_core-justified, Else-justified-ne0}
use Rattle.registry_close.proofs.run_steps.Goals as goal

justified : (c : After-justification_core-justified) → c.justification_core-justified.result ≡ close_answer_for (process_justification_and_finalization c.args.s c.args.roots.now c.args.finality (decode c.args.registry.now)) c.args.finality (raised_totals c.args.s c.args.finality.slot (decode c.args.registry.now))
justified c =
    c.justification_core-justified.ensures.of (decode c.args.registry.now) (totals-found c.args.s c.args.finality.slot c.args.registry.now c.requires.finds c.total_of-active.ensures c.total_of-target.ensures c.total_of-current_target.ensures)

-- it gave a finality; the test may stand either way round
given : (c : Else-justified-ne0) → c.justification_core-justified.result.refusal ≡ 0
given c = omega (arith, c.if-justified-ne0.false)

pub justification_core-justified-requires : goal.justification_core-justified-requires
justification_core-justified-requires c =
    c.requires.tested.weighs

pub returns-then-justified-ne0 : goal.returns-then-justified-ne0
returns-then-justified-ne0 c = record { limited_worked = worked_unjustified _ _ _ _ _ _ (justified (goal.at.returns-then-justified-ne0 c).After-justification_core-justified) (λ z. omega (arith, c.if-justified-ne0.true)); books = record { booked = λ z. absurd (omega (arith, z, c.if-justified-ne0.true)) }; pair_of = record { pair = λ z. absurd (omega (arith, z, c.if-justified-ne0.true)) } }

pub write_registry-wrote-requires : goal.write_registry-wrote-requires
write_registry-wrote-requires c =
    let slot = slot_kept c.args.limit _ _ _ c.args.slashings.now _ (justified (goal.at.write_registry-wrote-requires c).After-justification_core-justified) (given (goal.at.write_registry-wrote-requires c).Else-justified-ne0) in
    let finalized = finalized-small c.args.limit _ _ _ c.args.slashings.now _ (justified (goal.at.write_registry-wrote-requires c).After-justification_core-justified) (given (goal.at.write_registry-wrote-requires c).Else-justified-ne0) c.requires.tested.finality in
    let opening = good-finality c.args.finality c.requires.tested.finality in
    record { s_value = (c.requires.tested.settings.good, rw slot (small _ c.requires.tested.settings.small), omega (arith, finalized, opening.finalized)); opening_len = (c.requires.tested.registry, c.requires.closing_registry_len); finds = rw slot c.requires.finds }

pub returns-in-Err : goal.returns-in-Err
returns-in-Err c =
    record { limited_worked = worked-refused _ _ _ _ _ _ (justified (goal.at.returns-in-Err c).After-justification_core-justified) (given (goal.at.returns-in-Err c).Else-justified-ne0) c.write_registry-wrote.ensures.ran _ c.in-Err.is c.answer_with-refused.ensures; books = record { booked = λ z. absurd (answered _ _ _ c.answer_with-refused.ensures z) }; pair_of = record { pair = λ z. absurd (answered _ _ _ c.answer_with-refused.ensures z) } }

pub returns-in-Ok : goal.returns-in-Ok
returns-in-Ok c =
    let slot = slot_kept c.args.limit _ _ _ c.args.slashings.now _ (justified (goal.at.returns-in-Ok c).After-justification_core-justified) (given (goal.at.returns-in-Ok c).Else-justified-ne0) in
    let wrote = c.write_registry-wrote.ensures in record {
      limited_worked = worked-done _ _ _ _ _ _ (justified (goal.at.returns-in-Ok c).After-justification_core-justified) (given (goal.at.returns-in-Ok c).Else-justified-ne0) wrote.ran c.in-Ok.is
          (ap (λ (slot : ℕ). reset_slashings c.args.s slot c.args.slashings.now) (sym slot)) (omega (arith, given (goal.at.returns-in-Ok c).Else-justified-ne0)) refl refl;
      books = record { booked = λ z. wrote.books.booked (ap code_of c.in-Ok.is) };
      pair_of = record { pair = λ z. wrote.pair_in.pair _ c.in-Ok.is };
    }
