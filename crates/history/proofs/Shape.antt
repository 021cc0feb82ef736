-- What the claim over lists of events has to know about one accepted event: its interface. Whatever kind of close has it joins the claim.
use mathlib.Core.Path.{◌≡◌}
use mathlib.Core.Bool.{cond, ◌&&◌}
use mathlib.Core.List.{List, [], ◌∷◌}
use Prim.Native.Nat.{ℕ, ◌+◌, ◌≤◌, ◌<◌}
use lib.Dec.{T, ltb}
use lib.ListN.{length}
use Rattle.definitions.specs.Record.{Validator, FAR_FUTURE_EPOCH}
use Rattle.laws.proofs.Moved.{Moved}
use Rattle.history.specs.Events.{Event, accepts}
use Rattle.history.proofs.Waiting.{eligibility_at, activation_at, waits, ahead}

-- an eligibility epoch: kept, or written where there was none
pub data Marked (e was now : ℕ) : Type 0 where
  same : now ≡ was → Marked e was now
  written : was ≡ FAR_FUTURE_EPOCH → now ≡ e + 1 → Marked e was now

-- the registry: `queue` is the registry as the activation queue reads it, with the eligibility epochs written and no activation yet
pub record Registered (e to churn finalized_epoch : ℕ) (opening queue closing : List Validator) : Type 0 where
  pub queue-number : length queue ≡ length opening
  pub queue-eligibility : (i : ℕ) → i < length opening → Marked e (eligibility_at opening i) (eligibility_at queue i)
  pub queue-activation : (i : ℕ) → i < length opening → activation_at queue i ≡ activation_at opening i
  pub number : length closing ≡ length opening
  pub eligibility : (i : ℕ) → i < length opening → eligibility_at closing i ≡ eligibility_at queue i
  pub activation : (i : ℕ) → i < length opening → activation_at closing i ≡ cond (waits finalized_epoch queue i && ltb (ahead finalized_epoch queue i) churn) to (activation_at queue i)

-- an accepted event, with a churn limit of m at least
pub record EventShape (m : ℕ) (e : Event) : Type 0 where
  pub churn : ℕ
  pub enough : m ≤ churn
  pub fits : e.epoch + 1 + e.lookahead < FAR_FUTURE_EPOCH
  pub checkpoints : Moved e.epoch e.opening.finality e.returned.finality
  pub queue : List Validator
  pub registry : Registered e.epoch (e.epoch + 1 + e.lookahead) churn e.returned.finality.finalized_checkpoint.epoch e.opening.validators queue e.returned.validators

-- an event has the interface where it is accepted
abbrev pub Shaped : Event → Type 0
Shaped e = T (accepts e) → EventShape e.churn e

abbrev pub EachShaped : List Event → Type 0
EachShaped [] = Unit {0}
EachShaped (e ∷ es) = Shaped e × EachShaped es
