-- Rows of twelve of those whom the deposits have added.
use Rattle.std.specs.Prelude.{◌≡◌, cond, List, ℕ, ◌+◌, ◌*◌, ◌/◌, ◌%◌, ◌≤◌, ◌<◌, eqb, length, get_or}

-- the tenth is the balance, and the others are 0
abbrev pub added_at : List ℕ → ℕ → ℕ
added_at registry p = cond (eqb (p % 12) 9) (get_or registry (10 * (p / 12) + 6) 0) 0

pub record Added (n count : ℕ) (registry before after : List ℕ) : Type 0 where
  pub long : length after ≡ length before
  pub rows : (p : ℕ) → 12 * n ≤ p → p < 12 * count → get_or after p 0 ≡ added_at registry p
  pub front : (p : ℕ) → p < 12 * n → get_or after p 0 ≡ get_or before p 0
  pub behind : (p : ℕ) → 12 * count ≤ p → get_or after p 0 ≡ get_or before p 0
