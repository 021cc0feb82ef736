use Prim.Native.Nat.{◌-◌}
use Rattle.votes.proofs.vote_sums.Counting.{Counting}
use Rattle.votes.proofs.vote_sums.count_votes.Given as goal

abbrev pub invariant-loop-i : goal.invariant-loop-i
invariant-loop-i l = Counting l.current_epoch l.previous_epoch l.n l.registry l.marks l.i l.sums

abbrev pub decreases-loop-i : goal.decreases-loop-i
decreases-loop-i l = l.n - l.i
