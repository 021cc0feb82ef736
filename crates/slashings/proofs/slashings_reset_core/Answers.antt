use native.Mathlib.Omega.{arith}
use native.Mathlib.Nat.{mod-lt}
use borrow.Author.Rules.{scaled_Fits}
use Rattle.definitions.specs.Document.Phase0.EpochProcessing.{reset_slashings}
use Rattle.laws.proofs.Bounds.{bounds}
use Rattle.refusals.proofs.Laws.{settings-shaped, good-settings}
use Rattle.slashings.proofs.slashings_reset_core.Goals as goal

pub current_epoch-next-requires : goal.current_epoch-next-requires
current_epoch-next-requires c = (good-settings _ c.requires.1.good).positive.slots_per_epoch

pub overflow_add-next : goal.overflow_add-next
overflow_add-next c = omega (arith, (bounds c.args.s c.args.state_slot c.requires.1).next_epoch, c.current_epoch-next.ensures)

pub nonzero_rem-at : goal.nonzero_rem-at
nonzero_rem-at c = omega (arith, (settings-shaped c.args.s c.requires.1.shaped).slashings.least)

pub offset_bounds-slashings-at : goal.offset_bounds-slashings-at
offset_bounds-slashings-at c = scaled_Fits _ c.args.s.epochs_per_slashings_vector _ (mod-lt _ (settings-shaped c.args.s c.requires.1.shaped).slashings.least) (omega (arith, (settings-shaped c.args.s c.requires.1.shaped).slashings.most))

pub bounds-slashings-at : goal.bounds-slashings-at
bounds-slashings-at c = rw c.requires.0 (mod-lt _ (settings-shaped c.args.s c.requires.1.shaped).slashings.least)

pub returns : goal.returns
unfolding reset_slashings
returns c = rw c.current_epoch-next.ensures
