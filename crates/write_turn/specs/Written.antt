-- What the pass does to one validator, by the state that it carries.
use Rattle.std.specs.Prelude.{◌≡◌, cond, List, ℕ, ◌+◌, ◌-◌, ◌≤◌, eqb}
use Rattle.definitions.specs.declared.Settings.{Settings}
use Rattle.definitions.specs.Record.{Validator, decode_one}
use Rattle.definitions.specs.Checked.{Checked, value, refused, bind, done}
use Rattle.laws.specs.Cut.{queued_at, admit_one}
use Rattle.definitions.specs.declared.ExitQueue.{ExitQueue}
use Rattle.exit_queue.specs.Queue.{moved}
use Rattle.registry.specs.Updates.{turn_by}
use Rattle.definitions_electra.specs.declared.ExitChurn.{ExitChurn}
use Rattle.definitions_electra.specs.Evaluated.Electra.EpochProcessing.{slash as slash_later}
use Rattle.electra_registry.specs.declared.updates.RegistryNumbers.{RegistryNumbers}
use Rattle.electra_registry.specs.Turns.{turn_by as turn_by_balance}
use Rattle.rates.specs.declared.Rates.{Rates}
use Rattle.rates.specs.declared.reward_balances.Pairs.{Pairs}
use Rattle.rates.specs.Rated.{Fits}
use Rattle.rates.specs.Table.{TableOf}
use Rattle.rates.specs.Balances.{four_of}
use Rattle.rewards.specs.Shared.{totals_of}
use Rattle.write_turn.specs.Runs.{Runs}
use Rattle.write_turn.specs.Sweep.{Turning, after, first, last, along}
use Rattle.write_turn.specs.Steps.{Steps}
use Rattle.write_turn.specs.declared.Plan.{Plan}
use Rattle.write_turn.specs.Planned.{scored_by, paid_by, last_by}
use Rattle.write_turn.specs.declared.Course.{Course}
use Rattle.write_turn.specs.declared.Carry.{Carry}
use Rattle.write_turn.specs.declared.Moved.{Moved}
use Rattle.write_turn.specs.declared.Written.{Written}

abbrev pub TableFor : Settings → Plan → List ℕ → Type 0
TableFor s p xs = TableOf s p.shared p.source p.target p.head xs

-- those of this effective balance
pub record RatesFor (s : Settings) (p : Plan) (balance : ℕ) (rates : Rates) : Type 0 where
  pub fits : Fits s p.shared p.source p.target p.head rates
  pub same : rates.effective_balance ≡ balance

-- the four pairs of the validator v once its score is moved, by which rewards are worked out but at the genesis epoch
pub record PairsFor (s : Settings) (p : Plan) (v : Validator) (pairs : Pairs) : Type 0 where
  pub are : (p.shared.current_epoch ≡ 0 → ⊥)
      → (scored : Validator)
      → scored_by s p v ≡ value scored
      → four_of s p.quotient p.shared.current_epoch p.shared.previous_epoch (totals_of p.shared p.source) (totals_of p.shared p.target) (totals_of p.shared p.head) scored ≡ value pairs

-- scores and rewards, but at the genesis epoch
abbrev pub pay_of : Settings → Plan → Validator → Checked Validator
pay_of s p v = cond (eqb p.shared.current_epoch 0) (value v) (paid_by s p v)

-- eligibility and ejection, by the exit queue's pair
abbrev pub turn_with : Settings → ℕ → ℕ → Turning ExitQueue Validator
turn_with s epoch limit q v = bind (turn_by s epoch limit q v) (λ w. value (record { carry = moved q v w; held = w }))

-- activation, by what is left of the cut's quota
abbrev pub admit_with : ℕ → ℕ → ℕ → Turning ℕ Validator
admit_with epoch finalized_epoch bound left v =
    value (record { carry = left - cond (queued_at finalized_epoch bound v) 1 0; held = admit_one epoch finalized_epoch bound left v })

abbrev pub move_with : Settings → ℕ → Course → Turning (ExitQueue × ℕ) Validator
move_with s epoch t = after (turn_with s epoch t.limit) (admit_with t.activation_epoch t.finalized_epoch t.bound)

abbrev pub written_with : Settings → Plan → Course → Turning (ExitQueue × ℕ) Validator
written_with s p t = first (pay_of s p) (last (move_with s p.shared.current_epoch t) (last_by s p))

-- Electra's registry turn, by its two numbers of the exit queue
abbrev pub churn_with : RegistryNumbers → Turning ExitChurn Validator
churn_with n churn v = bind (turn_by_balance n churn v) (λ t. value (record { carry = t.churn; held = t.validator }))

abbrev pub turn_later : Settings → Plan → RegistryNumbers → Turning ExitChurn Validator
turn_later s p n = last (churn_with n) (slash_later s p.shared.current_epoch p.adjusted)

abbrev pub later_with : Settings → Plan → RegistryNumbers → Turning ExitChurn Validator
later_with s p n = first (pay_of s p) (turn_later s p n)

-- Either, each by its part of what is carried
abbrev pub queued : Settings → Plan → Course → Turning Carry Validator
queued s p t = along (λ c. (c.queue, c.left)) (λ c d. record { queue = d.0; left = d.1; churn = c.churn }) (written_with s p t)

abbrev pub churned : Settings → Plan → RegistryNumbers → Turning Carry Validator
churned s p n = along (λ c. c.churn) (λ c d. record { queue = c.queue; left = c.left; churn = d }) (later_with s p n)

abbrev pub written_by : ℕ → Settings → Plan → Course → RegistryNumbers → Turning Carry Validator
written_by later s p t n c v = cond (eqb later 0) (queued s p t c v) (churned s p n c v)

-- What the functions on one entry promise

pub record Pays (s : Settings) (p : Plan) (before after : List ℕ) (r : Checked Pairs) : Type 0 where
  pub runs : Runs (pay_of s p) before after (done r)
  pub pairs : (x : Pairs) → r ≡ value x → PairsFor s p (decode_one before) x

abbrev pub moved_of : Checked Moved → Checked (ExitQueue × ℕ)
moved_of (value m) = value (m.queue, m.left)
moved_of (refused p) = refused p

pub record Moves (s : Settings) (epoch : ℕ) (t : Course) (q : ExitQueue) (left : ℕ) (before after : List ℕ) (r : Checked Moved) : Type 0 where
  pub steps : Steps (move_with s epoch t) (q, left) before after (moved_of r)
  pub few : (m : Moved) → r ≡ value m → m.queue.number ≤ q.number + 1

abbrev pub written_of : Checked Written → Checked Carry
written_of (value w) = value w.carry
written_of (refused p) = refused p

pub record Writes (later : ℕ) (s : Settings) (p : Plan) (t : Course) (n : RegistryNumbers) (c : Carry) (before after : List ℕ) (r : Checked Written) : Type 0 where
  pub steps : Steps (written_by later s p t n) c before after (written_of r)
  pub few : (w : Written) → r ≡ value w → w.carry.queue.number ≤ c.queue.number + 1
  pub pairs : (w : Written) → r ≡ value w → PairsFor s p (decode_one before) w.pairs
