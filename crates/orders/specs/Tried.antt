-- Orders by the few numbers that they read of settings and slot, and what the code promises of them.
use Rattle.std.specs.Prelude.{◌≡◌, Bool, cond, ◌&&◌, List, [], ◌∷◌, ◌++◌, ℕ, eqb, get_or, drop}
use Rattle.definitions.specs.declared.ExitQueue.{ExitQueue}
use Rattle.definitions.specs.Record.{Validator, nobody, encode, decode, FAR_FUTURE_EPOCH}
use Rattle.definitions.specs.Checked.{Checked, refused, code_of, settle}
use Rattle.definitions.specs.declared.Refusal.TheVariants.{NoExit, TooEarly}
use Rattle.definitions.specs.ExitQueue.{queue_of}
use Rattle.definitions.specs.Rust.Phase0.Helpers.{is_active_validator}
use Rattle.definitions_close.specs.Orders.{Order, orders_in, may_exit, is_due}
use Rattle.exit_queue.specs.Exits.{exit_at}

-- a validator that is known
abbrev pub entry_may_exit : ℕ → Validator → Bool
entry_may_exit epoch v = is_active_validator v epoch && eqb v.exit_epoch FAR_FUTURE_EPOCH

-- proofs/Tried.antt: it is process_voluntary_exit
unfoldable pub order_by : ℕ → ℕ → ℕ → ℕ → ℕ → List Validator → Order → Checked (List Validator)
order_by epoch period least limit delay vs o =
    let index = o.validator in
    cond (may_exit epoch vs index)
    (cond (is_due epoch period (get_or vs index nobody) o.start) (exit_at least limit delay vs index) (refused TooEarly))
    (refused NoExit)

-- one after the other
unfoldable pub carried_by : (List Validator → Order → Checked (List Validator)) → List Validator → List Order → List Validator
carried_by f vs [] = vs
carried_by f vs (o ∷ os) = carried_by f (settle (f vs o) vs) os

unfoldable pub answers_by : (List Validator → Order → Checked (List Validator)) → List Validator → List Order → List ℕ
answers_by f vs [] = []
answers_by f vs (o ∷ os) = code_of (f vs o) ∷ answers_by f (settle (f vs o) vs) os

pub record AllTried (f : List Validator → Order → Checked (List Validator)) (before orders lent : List ℕ) (count : ℕ) (after answered : List ℕ) (r : ExitQueue) : Type 0 where
  pub registry : after ≡ encode (carried_by f (decode before) (orders_in count orders))
  pub answers : answered ≡ answers_by f (decode before) (orders_in count orders) ++ drop count lent
  pub queue : r ≡ queue_of (decode after)
