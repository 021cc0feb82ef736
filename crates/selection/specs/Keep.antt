-- A slice that keeps as many of the smallest numbers seen as it has places.
use Rattle.std.specs.Prelude.{◌≡◌, Bool, cond, ◌&&◌, List, ℕ, ◌+◌, ◌≤◌, ◌<◌, min, ltb, eqb, length, get_or}
use Rattle.definitions.specs.Record.{Validator, FAR_FUTURE_EPOCH}
use Rattle.laws.specs.Cut.{count}

abbrev pub under : ℕ → ℕ → Bool
under bound x = ltb x bound

-- a place that holds the largest
pub record Highest (ks : List ℕ) (p : ℕ) : Type 0 where
  pub inside : p < length ks
  pub highest : (j : ℕ) → j < length ks → get_or ks j 0 ≤ get_or ks p 0

-- ls has the smallest of ks and x, as many as ks has, told by how many are under any bound
pub record Kept (ks : List ℕ) (x : ℕ) (ls : List ℕ) (p : ℕ) : Type 0 where
  pub top : Highest ls p
  pub long : length ls ≡ length ks
  pub lowest : (bound : ℕ) → count (under bound) ls ≡ min (length ks) (count (under bound) ks + cond (under bound x) 1 0)

-- nothing was seen
pub record Blank (ks : List ℕ) : Type 0 where
  pub some : 0 < length ks
  pub blank : (j : ℕ) → j < length ks → get_or ks j 0 ≡ FAR_FUTURE_EPOCH

-- Waiting: no activation epoch yet. The epoch since which one waits once this close has written the eligibility epochs, and FAR for another
unfoldable pub waiting_since : ℕ → ℕ → Validator → ℕ
waiting_since max_effective_balance epoch v =
    let becomes = eqb v.activation_eligibility_epoch FAR_FUTURE_EPOCH && eqb v.effective_balance max_effective_balance in
    cond (eqb v.activation_epoch FAR_FUTURE_EPOCH) (cond becomes (epoch + 1) v.activation_eligibility_epoch) FAR_FUTURE_EPOCH

-- since before an epoch, whether that is finalized or not
unfoldable pub waiting_before : ℕ → Validator → Bool
waiting_before bound v = eqb v.activation_epoch FAR_FUTURE_EPOCH && ltb v.activation_eligibility_epoch bound

-- ks has the `size` smallest epochs since which one of vs waits, told by how many are under any bound
pub record Smallest (size : ℕ) (vs : List Validator) (ks : List ℕ) : Type 0 where
  pub long : length ks ≡ size
  pub lowest : (bound : ℕ) → bound ≤ FAR_FUTURE_EPOCH → count (under bound) ks ≡ min size (count (waiting_before bound) vs)

-- the cut of the numbers ks, of which those up to the finalized epoch count
pub record CutOf (limit finalized_epoch : ℕ) (ks : List ℕ) (bound quota : ℕ) : Type 0 where
  pub past : bound ≤ finalized_epoch + 1
  pub below : count (under bound) ks < limit
  pub reach : count (under bound) ks + quota ≡ limit
  pub enough : bound ≤ finalized_epoch → limit ≤ count (under (bound + 1)) ks
