-- Whether step 8 would refuse at one of those whom the deposits add, by a table of one number a key.
use Rattle.std.specs.Prelude.{◌≡◌, Bool, true, false, cond, ◌&&◌, List, ℕ, ◌+◌, ◌-◌, ◌≤◌, ◌<◌, ◌^◌, ltb, eqb, length, get_or, set}
use Rattle.definitions.specs.Lists.{range}
use Rattle.definitions.specs.Record.{Validator, nobody}
use Rattle.definitions.specs.Checked.{value}
use Rattle.definitions_electra.specs.declared.PendingDeposit.{PendingDeposit}
use Rattle.definitions_electra.specs.Record.{Registry}
use Rattle.electra_deposits.specs.declared.adding.NewNumbers.{NewNumbers}
use Rattle.electra_deposits.specs.declared.testing.NewTest.{NewTest}
use Rattle.electra_deposits.specs.Room.{place_by, effective_by, rules_by, joined}

-- a known key's number: one more than the balance, or 1 where there is no threshold that it could pass
abbrev pub marked : ℕ → ℕ → ℕ
marked downward balance = cond (eqb downward 0) 1 (balance + 1)

pub record Turn : Type 0 where
  pub places : List ℕ
  pub added : ℕ
  pub fits : Bool

abbrev pub turn : List ℕ → ℕ → Bool → Turn
turn ps added fits = record { places = ps; added = added; fits = fits }

-- a key that has its validator
unfoldable pub known_at : ℕ → ℕ → List ℕ → PendingDeposit → Turn
known_at n downward ps d =
    let place = place_by n ps d.pubkey in
    cond (eqb downward 0) (turn ps 0 true)
    (cond (ltb (place - 1 + d.amount + downward) (2 ^ 64)) (turn (set ps (d.pubkey - n) (place + d.amount)) 0 true) (turn ps 0 false))

unfoldable pub new_at : NewNumbers → ℕ → ℕ → ℕ → List ℕ → PendingDeposit → Turn
new_at k n downward upward ps d =
    cond (ltb (d.amount + downward) (2 ^ 64) && ltb (effective_by k d + upward) (2 ^ 64))
    (turn (set ps (d.pubkey - n) (marked downward d.amount)) 1 true) (turn ps 0 false)

unfoldable pub test_at : NewNumbers → ℕ → ℕ → ℕ → List ℕ → PendingDeposit → Turn
test_at k n downward upward ps d =
    cond (ltb d.pubkey n) (turn ps 0 true)
    (cond (eqb (place_by n ps d.pubkey) 0) (cond (eqb d.valid 1) (new_at k n downward upward ps d) (turn ps 0 true)) (known_at n downward ps d))

pub record Turned (t : Turn) (ps : List ℕ) (r : NewTest) : Type 0 where
  pub places : ps ≡ t.places
  pub added : r.added ≡ t.added
  pub fits : r.fits ≡ t.fits

-- step 8 does not refuse at it, or does
pub record Good (downward upward : ℕ) (v : Validator) : Type 0 where
  pub low : v.balance + downward < 2 ^ 64
  pub high : v.effective_balance + upward < 2 ^ 64

pub record Bad (downward upward : ℕ) (v : Validator) : Type 0 where
  pub high : v.balance + downward < 2 ^ 64 → (v.effective_balance ≤ v.balance) × (2 ^ 64 ≤ v.effective_balance + upward)

pub record SomeBad (n downward upward : ℕ) (vs : List Validator) : Type 0 where
  pub at : ℕ
  pub behind : n ≤ at
  pub here : at < length vs
  pub bad : Bad downward upward (get_or vs at nobody)

abbrev pub front_of : ℕ → List Validator → List ℕ → Registry
front_of n vs cs = record { validators = vs; pubkeys = range 0 n; compounding = cs }

-- of a registry behind whose first n those added stand
pub record TestsNew (n downward upward : ℕ) (reg : Registry) (r : NewTest) : Type 0 where
  pub added : r.fits ≡ true → n + r.added ≡ length reg.validators
  pub good : r.fits ≡ true → (j : ℕ) → n ≤ j → j < length reg.validators → Good downward upward (get_or reg.validators j nobody)
  pub bad : r.fits ≡ false → SomeBad n downward upward reg.validators

-- whoever stands in front, where none of the deposits is refused
pub record NewTests (k : NewNumbers) (n downward upward : ℕ) (ds : List PendingDeposit) (r : NewTest) : Type 0 where
  pub tests : (vs : List Validator) (cs : List ℕ) → length vs ≡ n → length cs ≡ n → (reg : Registry) →
      joined (rules_by k 0) n (front_of n vs cs) ds ≡ value reg → TestsNew n downward upward reg r
