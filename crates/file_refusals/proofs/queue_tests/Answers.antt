use mathlib.Core.Path.{◌≡◌, ap, ◌∙◌}
use native.Mathlib.Omega.{arith}
use Rattle.definitions.specs.Record.{decode}
use Rattle.definitions.specs.ExitQueue.{queue_of}
use Rattle.definitions_file.specs.File.{version_of, validators_at, contents_of}
use Rattle.refusals.proofs.All.{fails, passes}
use Rattle.file_refusals.proofs.ReadTests.{queue_worked_out, queue-stored, queue-wrong}
use mathlib.Core.Bool.{not}
use Rattle.file_refusals.proofs.queue_tests.Goals.{After-queue_at-own, Else-version-eq1}
use Rattle.file_refusals.proofs.queue_tests.Goals as goal

own : (c : After-queue_at-own) → c.queue_at-own.result ≡ queue_of (decode (contents_of c.args.bytes.now).registry)
unfolding contents_of
own c =
    let p = c.requires.version_value in
    rw (p.1 ∙ ap validators_at p.0, p.2) at c.queue_at-own.ensures

second : (c : Else-version-eq1) → version_of c.args.bytes.now ≡ 2
second c = omega (arith, c.requires, c.if-version-eq1.false)

pub returns-then-version-eq1 : goal.returns-then-version-eq1
returns-then-version-eq1 c = queue_worked_out _ (λ z. omega (arith, c.requires.version_value.0)) (own (goal.at.returns-then-version-eq1 c).After-queue_at-own)

pub returns-then-not-same_queue : goal.returns-then-not-same_queue
returns-then-not-same_queue c =
    rw c.refused.ensures (queue-wrong c.args.bytes.now (second (goal.at.returns-then-not-same_queue c).Else-version-eq1) c.read_queue-stored.ensures (own (goal.at.returns-then-not-same_queue c).After-queue_at-own) (fails c.same_queue.ensures (ap not c.if-not-same_queue.true)))

pub returns : goal.returns
returns c =
    queue-stored c.args.bytes.now (second (goal.at.returns c).Else-version-eq1) c.read_queue-stored.ensures (own (goal.at.returns c).After-queue_at-own) (passes c.same_queue.ensures (ap not c.if-not-same_queue.false))
