use mathlib.Core.Bool.{and-false}
use borrow.Author.Tests.{le-leb, lt-leb}
use Rattle.definitions_file.specs.OutagePreparation.{flags_at}
use Rattle.outage.proofs.outage_preparation.flags_at.Goals as goal

pub returns-then-epoch-first : goal.returns-then-epoch-first
unfolding flags_at
returns-then-epoch-first c = rw (lt-leb _ _ c.if-epoch-first.true)

pub returns-then-last-epoch : goal.returns-then-last-epoch
unfolding flags_at
returns-then-last-epoch c = rw (lt-leb _ _ c.if-last-epoch.true, and-false)

pub returns : goal.returns
unfolding flags_at
returns c = rw (le-leb _ _ c.if-epoch-first.false, le-leb _ _ c.if-last-epoch.false)
