use mathlib.Core.Path.{sym}
use native.Mathlib.Omega.{arith}
use lib.Seq.{length-take-le}
use Rattle.outage.proofs.Ended.{printed-same}
use Rattle.outage.proofs.file_outage.Ends.{outage-long, outage-short, parted}
use Rattle.outage.proofs.file_outage.put_input.Goals as goal

pub returns-then-input-gt-MOST_INPUT : goal.returns-then-input-gt-MOST_INPUT
returns-then-input-gt-MOST_INPUT c =
    let p = c.put_refused.ensures in
    record { put = rw (outage-long c.args.input.now c.if-input-gt-MOST_INPUT.true) (rw c.number.ensures at p.put); inside = omega (arith, p.upper_bound, c.requires) }

pub returns-then-input-lt80 : goal.returns-then-input-lt80
returns-then-input-lt80 c =
    let p = c.put_refused-then-input-lt80.ensures in
    record { put = rw (outage-short c.args.input.now c.if-input-lt80.true) (rw c.number-then-input-lt80.ensures at p.put); inside = omega (arith, p.upper_bound, c.requires) }

pub slice_bounds-put_text-end : goal.slice_bounds-put_text-end
slice_bounds-put_text-end c = sym (length-take-le c.file_end-end.result c.args.input.now c.file_end-end.ensures.upper_bound)

pub put_text-requires : goal.put_text-requires
put_text-requires c =
    record {
      short = omega (arith, length-take-le c.file_end-end.result c.args.input.now c.file_end-end.ensures.upper_bound, c.file_end-end.ensures.upper_bound, c.if-input-gt-MOST_INPUT.false);
      openings = omega (arith, c.numbers-opening.ensures);
      pairs = omega (arith, c.numbers-absences.ensures);
      entries = omega (arith, c.numbers-registry.ensures);
      sums = omega (arith, c.numbers-slashings.ensures);
      places = omega (arith, c.bytes-roots.ensures);
      closing-entries = omega (arith, c.numbers-closing_registry.ensures);
      closing-sums = omega (arith, c.numbers-closing_slashings.ensures);
      bytes = c.requires;
    }

pub returns : goal.returns
returns c =
    let f = c.file_end-end.ensures in
    printed-same (parted c.args.input.now c.file_end-end.result f.input_value.0 f.input_value.1 c.if-input-gt-MOST_INPUT.false) c.put_text.ensures
