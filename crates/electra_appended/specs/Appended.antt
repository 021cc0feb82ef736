-- Those whom the deposits add, behind the n validators in front: what the lent buffers hold.
use Rattle.std.specs.Prelude.{◌≡◌, true, cond, List, ◌++◌, ℕ, ◌+◌, ◌-◌, ◌*◌, ◌/◌, ◌≤◌, ◌<◌, eqb, length, get_or, take, drop}
use Rattle.definitions.specs.Record.{Validator, encode}
use Rattle.definitions.specs.Checked.{value}
use Rattle.definitions_electra.specs.declared.ElectraRules.{ElectraRules}
use Rattle.definitions_electra.specs.Record.{Registry, ElectraState}
use Rattle.definitions_electra.specs.Calls.{over}
use Rattle.definitions_electra.specs.Evaluated.Electra.EpochProcessing.{update_effective_balances}
use Rattle.electra_deposits.specs.Room.{keyed}
use Rattle.electra_first.specs.Taken.{balance_at}
use Rattle.electra_steps.specs.Last.{Six, six_by}
use Rattle.electra_steps.specs.Finds.{Finds}

-- credentials of the n, the queue, and buffers with room for every deposit's validator
pub record Buffers (n : ℕ) (compounding deposits closing_registry closing_compounding places : List ℕ) : Type 0 where
  pub credentials : length compounding ≡ n
  pub keys : keyed n deposits ≡ true
  pub room : length closing_registry ≡ 10 * length closing_compounding
  pub room_too : length closing_compounding ≡ n + length deposits / 5
  pub table : length places ≡ length deposits / 5

-- effective balances of those from the n-th on and before `count`, where none of them is refused; cs has everybody's credentials
pub record Updates (r : ElectraRules) (n count : ℕ) (cs before after : List ℕ) : Type 0 where
  pub updates : (us ws : List Validator) (rest : List ℕ) → length us ≡ n → length ws ≡ count - n → before ≡ encode us ++ (encode ws ++ rest) →
      (xs : List Validator) → update_effective_balances r (take (count - n) (drop n cs)) ws ≡ value xs → after ≡ encode us ++ (encode xs ++ rest)

-- `all` validators at the front, and the credentials and the amounts of the deposits' registry, of which the amounts are written from the n-th row on
pub record Appended (n : ℕ) (reg : Registry) (all : List Validator) (xs₀ xs cs₀ cs es₀ es : List ℕ) (many : ℕ) : Type 0 where
  pub count : many ≡ length reg.validators
  pub same : length all ≡ many
  pub registry : xs ≡ over (encode all) xs₀
  pub compounding : cs ≡ over reg.compounding cs₀
  pub long : length es ≡ length es₀
  pub front : (p : ℕ) → p < 12 * n → get_or es p 0 ≡ get_or es₀ p 0
  pub rows : (i k : ℕ) → n ≤ i → i < many → k < 12 → get_or es (12 * i + k) 0 ≡ cond (eqb k 9) (balance_at reg.validators i) 0
  pub behind : (p : ℕ) → 12 * many ≤ p → get_or es p 0 ≡ get_or es₀ p 0

-- of every state that the deposits may be lent of, whoever stands in front by now, where neither the deposits nor step 8 refuse
pub record WritesAdded (r : ElectraRules) (n : ℕ) (deposits compounding : List ℕ) (index : ℕ) (xs₀ xs cs₀ cs es₀ es : List ℕ) (many : ℕ) : Type 0 where
  pub least : n ≤ many
  pub within : many ≤ n + length deposits / 5
  pub writes : (st : ElectraState) → Finds n deposits st → st.compounding ≡ compounding → (x : Six) → six_by r st ≡ value x →
      index ≡ x.processing.next_deposit_index → (bs : List Validator) → length bs ≡ n → take (10 * n) xs₀ ≡ encode bs → (ws : List Validator) →
      update_effective_balances r (drop n x.processing.registry.compounding) (drop n x.processing.registry.validators) ≡ value ws →
      Appended n x.processing.registry (bs ++ ws) xs₀ xs cs₀ cs es₀ es many
