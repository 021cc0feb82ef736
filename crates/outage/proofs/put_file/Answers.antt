-- the places that the others are found from
use mathlib.Core.Path.{◌≡◌, ap, ◌∙◌}
use Prim.Native.Nat.{ℕ}
use native.Mathlib.Omega.{arith}
use Rattle.definitions_file.specs.File.{count_of}
use Rattle.definitions_file.specs.OutageInput.{good_tail}
use Rattle.refusals.proofs.All.{fails, passes}
use Rattle.outage.specs.Lent.{Exact, Opened}
use Rattle.outage.proofs.Text.{text-refused, text-tail}
use Rattle.outage.proofs.Filled.{exact_read, refusal-read, opened-from}
use mathlib.Core.Bool.{not}
use Rattle.outage.proofs.put_file.Goals.{After-good_tail, After-read_file-read, Else-read-ne0}
use Rattle.outage.proofs.put_file.Goals as goal

-- what was read is as long as the header calls for
exact : (c : After-read_file-read) → let a = c.args in let read = c.read_file-read.new in Exact a.file.now a.opening.now a.absences.now read.registry read.slashings a.roots.now a.closing_registry.now a.closing_slashings.now a.text.now
exact c = let kept = c.read_file-read.auto in exact_read c.requires kept.registry kept.slashings

opened : (c : Else-read-ne0) → let read = c.read_file-read.new in Opened c.args.file.now c.read_file-read.result.settings c.read_file-read.result.finality read.registry read.slashings
opened c =
    let e = c.read_file-read.ensures in
    opened-from c.requires e.refusal_value c.if-read-ne0.false e.settings_value e.finality_value e.registry_after e.slashings_after

tested : (c : After-good_tail) → let a = c.args in c.good_tail.result ≡ good_tail (count_of a.file.now) a.tail.now
tested c =
    c.good_tail.ensures ∙ ap (λ (n : ℕ). good_tail n c.args.tail.now) (let kept = c.read_file-read.auto in omega (arith, (exact_read c.requires kept.registry kept.slashings).entries))

pub returns-then-read-ne0 : goal.returns-then-read-ne0
returns-then-read-ne0 c =
    let p = c.put_refused.ensures in
    record {
      put = rw (text-refused c.args.file.now c.args.tail.now (refusal-read c.requires c.read_file-read.ensures.refusal_value) c.if-read-ne0.true) p.put;
      inside = omega (arith, p.upper_bound, c.requires.bytes);
    }

pub returns-then-not-good_tail : goal.returns-then-not-good_tail
returns-then-not-good_tail c =
    let p = c.put_refused-then-not-good_tail.ensures in
    record {
      put = rw (text-tail c.args.file.now c.args.tail.now (opened (goal.at.returns-then-not-good_tail c).Else-read-ne0).accepted (fails (tested (goal.at.returns-then-not-good_tail c).After-good_tail) (ap not c.if-not-good_tail.true))) (rw c.number.ensures at p.put);
      inside = omega (arith, p.upper_bound, c.requires.bytes);
    }

pub put_read-requires : goal.put_read-requires
put_read-requires c =
    record { exact = exact (goal.at.put_read-requires c).After-read_file-read; opened = opened (goal.at.put_read-requires c).Else-read-ne0; tail_value = passes (tested (goal.at.put_read-requires c).After-good_tail) (ap not c.if-not-good_tail.false) }

pub put_refused-requires : goal.put_refused-requires
put_refused-requires c = omega (arith, c.requires.bytes)

pub good_tail-requires : goal.good_tail-requires
good_tail-requires c = omega (arith, (exact (goal.at.good_tail-requires c).After-read_file-read).entries, (exact (goal.at.good_tail-requires c).After-read_file-read).few)

pub put_refused-requires-then-not-good_tail : goal.put_refused-requires-then-not-good_tail
put_refused-requires-then-not-good_tail c = omega (arith, c.requires.bytes)
