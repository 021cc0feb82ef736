-- The call that says how long a validator waits speaks of demand 3's own words.
use mathlib.Core.Path.{sym}
use Rattle.definitions_wait.specs.Wait.{wait_of}
use Rattle.history.specs.Wait.{WaitIsDemand3s}
use Rattle.history.proofs.Waiting.{finalized, waits-is, k-is}
use Rattle.history.proofs.Queue.{waits-eligible, same_ahead}

pub wait_is_demand_3s : WaitIsDemand3s
unfolding wait_of
wait_is_demand_3s s r i l =
    rw (waits-eligible (finalized r).epoch r.validators i l, same_ahead (finalized r).epoch r.validators i, sym (waits-is r i), sym (k-is r i))
