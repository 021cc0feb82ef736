-- Activation by a cut: all that are queued since before the epoch `bound`, and the first `quota` that are queued since it.
use Rattle.std.specs.Prelude.{◌≡◌, Bool, cond, ◌&&◌, ◌||◌, List, map, ℕ, ◌+◌, ◌-◌, ◌≤◌, ◌<◌, ltb, eqb, length, take}
use Rattle.definitions.specs.declared.Settings.{Settings}
use Rattle.definitions.specs.Lists.{filter}
use Rattle.definitions.specs.Record.{Validator}
use Rattle.definitions.specs.Updates.{with_activation}
use Rattle.definitions.specs.Document.Phase0.Helpers.{is_eligible_for_activation}
use Rattle.definitions.specs.Document.Phase0.EpochProcessing.{queue_eligible}
use Rattle.laws.specs.Queue.{map_below, activated}

abbrev pub count : {A : Type 0} → (A → Bool) → List A → ℕ
count p xs = length (filter p xs)

-- eligible since before an epoch; since that epoch
unfoldable pub queued_before : ℕ → ℕ → Validator → Bool
queued_before finalized_epoch bound v = is_eligible_for_activation finalized_epoch v && ltb v.activation_eligibility_epoch bound

unfoldable pub queued_at : ℕ → ℕ → Validator → Bool
queued_at finalized_epoch bound v = is_eligible_for_activation finalized_epoch v && eqb v.activation_eligibility_epoch bound

-- one validator, with `left` of the quota left
unfoldable pub admit_one : ℕ → ℕ → ℕ → ℕ → Validator → Validator
admit_one epoch finalized_epoch bound left v =
    cond (queued_before finalized_epoch bound v || (queued_at finalized_epoch bound v && ltb 0 left)) (with_activation epoch v) v

unfoldable pub admitted_at : ℕ → ℕ → ℕ → ℕ → List Validator → ℕ → Validator → Validator
admitted_at epoch finalized_epoch bound quota vs i v =
    admit_one epoch finalized_epoch bound (quota - count (queued_at finalized_epoch bound) (take i vs)) v

unfoldable pub admitted : ℕ → ℕ → ℕ → ℕ → ℕ → List Validator → List Validator
admitted epoch finalized_epoch bound quota stop vs = map_below stop (admitted_at epoch finalized_epoch bound quota vs) vs

-- the cut activates those with fewer than `limit` ahead, and no other
pub record Cuts (limit finalized_epoch : ℕ) (vs : List Validator) (bound quota : ℕ) : Type 0 where
  pub same : (epoch stop : ℕ) → admitted epoch finalized_epoch bound quota stop vs ≡ activated epoch limit finalized_epoch stop vs

-- It does so by counts alone (proofs/ActivationQueue/Cuts.antt): the quota is what those queued since before the bound leave of the limit, and the limit is
-- reached at the bound's own epoch, or all are queued since the bound or before
pub record CutAt (limit finalized_epoch : ℕ) (vs : List Validator) (bound quota : ℕ) : Type 0 where
  pub reach : count (queued_before finalized_epoch bound) vs + quota ≡ limit
  pub enough : bound < finalized_epoch → limit ≤ count (queued_before finalized_epoch (bound + 1)) vs

-- the registry as the queue is read: those that become eligible in this close have their epoch already
abbrev pub eligible_now : Settings → ℕ → List Validator → List Validator
eligible_now s epoch vs = map (queue_eligible s epoch) vs
