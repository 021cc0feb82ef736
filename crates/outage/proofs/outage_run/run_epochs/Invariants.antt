use Prim.Native.Nat.{◌-◌, ◌/◌}
use lib.ListN.{length}
use Rattle.definitions_file.specs.File.{contents_with}
use Rattle.definitions_file.specs.OutageInput.{plan_of}
use Rattle.outage.specs.Ready.{Ready}
use Rattle.outage.proofs.outage_run.Running.{Running, Lasting}
use Rattle.outage.proofs.outage_run.run_epochs.Given as goal

abbrev pub invariant-loop-i : goal.invariant-loop-i
invariant-loop-i l =
    Running (plan_of l.root l.absences) l.epochs (contents_with l.s l.initial.standing l.initial.registry l.initial.roots l.initial.slashings) l.initial.text l.i (contents_with l.s l.standing l.registry l.roots l.slashings) l.text l.end
    × Ready l.s l.standing.slot (length l.registry / 10) l.registry l.roots l.root l.absences
    × Lasting l.initial.registry l.initial.slashings l.initial.roots l.initial.closing_registry l.initial.closing_slashings l.initial.text l.registry l.slashings l.roots l.closing_registry l.closing_slashings l.text

abbrev pub decreases-loop-i : goal.decreases-loop-i
decreases-loop-i l = l.epochs - l.i
