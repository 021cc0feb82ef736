-- Amounts booked only of those whom the deposits name. Twelve numbers a validator; the eleventh keeps the balance meanwhile.
use Rattle.std.specs.Prelude.{◌≡◌, Bool, true, false, cond, ◌||◌, List, ℕ, zero, suc, ◌+◌, ◌-◌, ◌*◌, ◌/◌, ◌<◌, ltb, eqb, length, get_or, set}
use Rattle.electra_amounts.specs.Columns.{balance_in}

-- among the first k deposits
unfoldable pub named : List ℕ → ℕ → ℕ → Bool
named deposits zero i = false
named deposits (suc k) i = eqb (get_or deposits (5 * k) 0) i || named deposits k i

-- 0 keeps the balance, 1 books what it is more than the one that was kept, 2 clears what was kept
abbrev pub place_by : ℕ → ℕ → ℕ
place_by op i = 12 * i + cond (eqb op 1) 9 10

unfoldable pub value_by : ℕ → ℕ → ℕ → ℕ
value_by op kept balance = cond (eqb op 0) balance (cond (eqb op 1) (balance - kept) 0)

-- of one key, where a validator has it
unfoldable pub one_by : ℕ → ℕ → List ℕ → List ℕ → List ℕ
one_by op key registry xs =
    cond (ltb key (length registry / 10)) (set xs (place_by op key) (value_by op (get_or xs (12 * key + 10) 0) (balance_in registry key))) xs

-- of the first k deposits, and of nobody else
pub record Naming (op : ℕ) (deposits registry lent : List ℕ) (k : ℕ) (xs : List ℕ) : Type 0 where
  pub long : length xs ≡ length lent
  pub held : (i : ℕ) → i < length registry / 10 → named deposits k i ≡ true
      → get_or xs (place_by op i) 0 ≡ value_by op (get_or lent (12 * i + 10) 0) (balance_in registry i)
  pub other : (p : ℕ) → ((i : ℕ) → i < length registry / 10 → named deposits k i ≡ true → p ≡ place_by op i → ⊥) → get_or xs p 0 ≡ get_or lent p 0

-- nothing is booked of deposits or of consolidations
pub record NoneYet (n : ℕ) (amounts : List ℕ) : Type 0 where
  pub tenth : (i : ℕ) → i < n → get_or amounts (12 * i + 9) 0 ≡ 0
  pub eleventh : (i : ℕ) → i < n → get_or amounts (12 * i + 10) 0 ≡ 0
