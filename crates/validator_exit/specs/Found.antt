-- The last tests, from what one pass over the registry found.
use Rattle.std.specs.Prelude.{cond}
use Rattle.definitions.specs.declared.ExitQueue.{ExitQueue}
use Rattle.definitions.specs.declared.Refusal.TheVariants.{WrongQueue}
use Rattle.definitions.specs.Checked.{Checked, value, refused, bind}
use Rattle.exit_queue.specs.Queue.{same_queue}

-- 8 where the pair is another than the one found
unfoldable pub pair_test : ExitQueue → ExitQueue → Checked (Unit {0})
pair_test queue found = cond (same_queue queue found) (value tt) (refused WrongQueue)

-- `tested` is refused by 3 where an entry failed; then 8
unfoldable pub found_tests : Checked (Unit {0}) → ExitQueue → ExitQueue → Checked (Unit {0})
found_tests tested queue found = bind tested (λ _. pair_test queue found)
