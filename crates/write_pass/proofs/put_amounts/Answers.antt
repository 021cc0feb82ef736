use mathlib.Core.Path.{◌∙◌}
use Rattle.write_pass.specs.Filled.{left, Fits}
use Rattle.write_pass.proofs.Booked.{nine-booked}
use Rattle.write_pass.proofs.put_amounts.Goals as goal

pub book-first-requires : goal.book-first-requires
unfolding Fits
book-first-requires c = c.requires.fits.0.0

pub book-second-requires : goal.book-second-requires
unfolding Fits
book-second-requires c = rw c.book-first.ensures.left c.requires.fits.0.1.0

pub book-third-requires : goal.book-third-requires
unfolding Fits
book-third-requires c = rw (c.book-second.ensures.left, c.book-first.ensures.left) c.requires.fits.0.1.1.0

pub book-fourth-requires : goal.book-fourth-requires
unfolding Fits
book-fourth-requires c = rw (c.book-third.ensures.left, c.book-second.ensures.left, c.book-first.ensures.left) c.requires.fits.0.1.1.1.0

pub overflow_sub-fourth : goal.overflow_sub-fourth
unfolding left
overflow_sub-fourth c = rw (c.book-fourth.ensures.left, c.book-third.ensures.left, c.book-second.ensures.left, c.book-first.ensures.left) c.requires.fits.1

pub returns : goal.returns
returns c = c.put_nine.ensures ∙ nine-booked _ c.book-first.ensures c.book-second.ensures c.book-third.ensures c.book-fourth.ensures
