use native.Mathlib.Omega.{arith}
use lib.ListN.{length-take, length-drop}
use Rattle.definitions_file.specs.File.{count_of}
use Rattle.outage.proofs.Text.{text-run}
use Rattle.outage.proofs.Ended.{printed-same}
use Rattle.outage.proofs.Filled.{Tail, good-tail, roots-long, filled, shaped, ready, room, planned}
use borrow.Author.Rules.{rules}
use Rattle.outage.proofs.put_read.Goals.{Start}
use Rattle.outage.proofs.put_read.Goals as goal

behind : (s : Start) → Tail (count_of s.args.file.now) s.args.tail.now
behind s = good-tail (count_of s.args.file.now) s.args.tail.now s.requires.tail_value

pub put_bytes-requires : goal.put_bytes-requires
put_bytes-requires c =
    omega (arith, roots-long c.requires.exact c.requires.opened c.file_roots-read_roots.ensures)

pub put_run-requires : goal.put_run-requires
put_run-requires c =
    let x = c.requires.exact in
    let o = c.requires.opened in
    let t = behind (goal.at.put_run-requires c).Start in
    let n = c.read_number-epochs.ensures.0 in
    record {
      ready = ready x o c.put_bytes.auto.file (simp (length-take, length-drop) (omega (arith, t.long))) c.read_numbers.auto.numbers;
      room = room x o (omega (arith, n, t.few));
      opening_value = (shaped x o c.copy_from_slice.ensures.after, c.copy_from_slice.ensures.after);
      opening_in_bounds = omega (arith, n, t.few, c.copy_from_slice.auto.self, x.openings, x.few, x.bytes);
    }

pub returns : goal.returns
returns c =
    let x = c.requires.exact in
    let o = c.requires.opened in
    let run = text-run c.args.file.now c.args.tail.now o.accepted (filled x o c.copy_from_slice.ensures.after c.file_roots-read_roots.ensures c.put_bytes.ensures) (planned x o c.args.tail.now c.read_numbers.ensures) c.read_number-epochs.ensures.0 c.requires.tail_value in
    printed-same run c.put_run.ensures

pub copy_from_slice-requires : goal.copy_from_slice-requires
copy_from_slice-requires c = omega (arith, c.requires.exact.openings, c.requires.exact.entries)

pub file_roots-read_roots-requires : goal.file_roots-read_roots-requires
file_roots-read_roots-requires c = c.requires.exact.header

pub read_numbers-requires : goal.read_numbers-requires
read_numbers-requires c = omega (arith, c.requires.exact.pairs, (behind (goal.at.read_numbers-requires c).Start).long)

pub read_number-epochs-requires : goal.read_number-epochs-requires
read_number-epochs-requires c = omega (arith, (behind (goal.at.read_number-epochs-requires c).Start).long)

pub slice_bounds-put_run-end : goal.slice_bounds-put_run-end
slice_bounds-put_run-end c = omega (arith, (behind (goal.at.slice_bounds-put_run-end c).Start).long)

pub shape_of-opening : goal.shape_of-opening
shape_of-opening c = search rules

pub shape_of-absences : goal.shape_of-absences
shape_of-absences c = search rules

pub shape_of-roots : goal.shape_of-roots
shape_of-roots c = search rules
