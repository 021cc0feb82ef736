-- The loop's turn by the few numbers that it reads of slot and registry, which the step works out once: `epoch` is the present epoch,
-- `least` its activation exit epoch, `limit` the churn limit. proofs/Churn.antt: it is the Rust's turn, all through the loop.
use Rattle.std.specs.Prelude.{cond, List, ℕ, ◌+◌, length, get_or, set}
use Rattle.definitions.specs.declared.Settings.{Settings}
use Rattle.definitions.specs.Lists.{range}
use Rattle.definitions.specs.Record.{Validator, nobody}
use Rattle.definitions.specs.Checked.{Checked, value, bind, fold_checked}
use Rattle.definitions.specs.Document.Phase0.EpochProcessing.{queue_eligible, is_ejected}
use Rattle.definitions.specs.RegisterOrder.{activated}
use Rattle.exit_queue.specs.Exits.{exit_at}
use Rattle.definitions.specs.declared.ExitQueue.{ExitQueue}
use Rattle.exit_queue.specs.Queue.{exit_by}

-- the activation exit epoch of an epoch
abbrev pub least_exit : Settings → ℕ → ℕ
least_exit s epoch = epoch + 1 + s.max_seed_lookahead

unfoldable pub update_at : Settings → ℕ → ℕ → ℕ → List Validator → ℕ → Checked (List Validator)
update_at s epoch least limit vs index =
    let queued = set vs index (queue_eligible s epoch (get_or vs index nobody)) in
    cond (is_ejected s epoch (get_or queued index nobody)) (exit_at least limit s.min_validator_withdrawability_delay queued index) (value queued)

-- the same turn on one validator, by the exit queue's pair. proofs/Turns.antt: it is updateAt's, all through the loop.
unfoldable pub turn_by : Settings → ℕ → ℕ → ExitQueue → Validator → Checked Validator
turn_by s epoch limit q v =
    let queued = queue_eligible s epoch v in
    cond (is_ejected s epoch queued) (exit_by limit s.min_validator_withdrawability_delay q queued) (value queued)

-- the step with a stop, by these numbers and `most`, the limit of activations: every turn, then activation below the stop
unfoldable pub updates_by : ℕ → Settings → ℕ → ℕ → ℕ → ℕ → List Validator → Checked (List Validator)
updates_by stop s epoch limit most finalized_epoch vs =
    bind (fold_checked (update_at s epoch (least_exit s epoch) limit) vs (range 0 (length vs))) (λ queued.
    value (activated (least_exit s epoch) most finalized_epoch stop queued))
