use mathlib.Core.Path.{sym, ◌∙◌}
use Rattle.arithmetic.proofs.Laws.{carried}
use Rattle.laws.proofs.Loops.Reading.{reading_ten}
use Rattle.votes.proofs.vote_sums.Counting.{counting_none, counting_at, counting_more, counting_over, counting_all, counted-value, counted-refused}
use Rattle.votes.proofs.vote_sums.count_votes.Goals as goal

pub loop-i-init : goal.loop-i-init
loop-i-init c = counting_none _ _ _ c.requires.registry_len

pub entry_sums-own-requires : goal.entry_sums-own-requires
entry_sums-own-requires c = record { len = reading_ten (counting_at c.loop-i.invariant) c.loop-i-test.true; previous_epoch_lt_current_epoch = c.requires.previous_epoch_lt_current_epoch }

pub returns-in_err-more : goal.returns-in_err-more
returns-in_err-more c =
    let e = sym c.added.ensures ∙ c.in_err-more.was in
    counted-refused _ _ e (counting_over c.loop-i.invariant c.loop-i-test.true c.entry_sums-own.ensures e) (carried _ c.from_residual.ensures)

pub loop-i-preserved : goal.loop-i-preserved
loop-i-preserved c = counting_more c.loop-i.invariant c.loop-i-test.true c.entry_sums-own.ensures (sym c.added.ensures ∙ c.in_ok-more.was)

pub returns : goal.returns
returns c = counted-value (counting_all c.loop-i.invariant c.loop-i-test.false)
