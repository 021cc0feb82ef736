use lib.ListN.{length-take, length-drop, length-set}
use native.Mathlib.Omega.{arith}
use Rattle.vectors.proofs.words.fill_all.Goals as goal

pub word_of-requires : goal.word_of-requires
word_of-requires c = simp (length-take, length-drop) (omega arith)

pub loop-i-preserved : goal.loop-i-preserved
loop-i-preserved c = simp length-set (omega arith)
