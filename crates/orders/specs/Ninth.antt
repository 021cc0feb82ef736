-- The tests of the ninth call as the code groups them, and what it does once they have passed.
use Rattle.std.specs.Prelude.{◌≡◌, List, [], ◌∷◌, ◌++◌, ℕ, ◌*◌, ◌/◌, ◌≤◌, length, drop}
use Rattle.definitions.specs.declared.Settings.{Settings}
use Rattle.definitions.specs.declared.Rules.{Rules}
use Rattle.definitions.specs.declared.Finality.{Finality}
use Rattle.definitions.specs.Record.{encode, decode}
use Rattle.definitions.specs.Checked.{Checked}
use Rattle.definitions.specs.ExitQueue.{queue_of}
use Rattle.definitions.specs.Refusals.{in_order, length_is, is_small, registry_shaped, good_finality}
use Rattle.definitions.specs.Rules.{rules_shaped, good_rules}
use Rattle.laws.specs.Bounds.{Passed}
use Rattle.definitions_close.specs.declared.Running.{Running}
use Rattle.definitions_close.specs.Orders.{room, orders_in, orders_shaped, carried_out, answers_to, NinthOutcome, ended_with}

-- the tests but for 3 of the registry's entries, and 8
unfoldable pub lent_tests : Rules → ℕ → Finality → ℕ → List ℕ → List ℕ → List ℕ → Checked (Unit {0})
lent_tests r period f count registry orders answers =
    in_order (rules_shaped r ∷ registry_shaped registry ∷ orders_shaped count orders ∷ length_is (room orders) answers ∷ []) (good_rules r ∷ is_small period ∷ [])
    (good_finality f ∷ [])

-- What they tell once passed, by the settings under the rules
pub record Ready (s : Settings) (running : Running) (registry orders answers : List ℕ) : Type 0 where
  pub settings : Passed s running.answer.finality.slot
  pub long : length registry ≡ 10 * (length registry / 10)
  pub queue : running.answer.queue ≡ queue_of (decode registry)
  pub listed : running.orders ≤ room orders
  pub answered : running.orders ≤ length answers

-- the orders carried out
unfoldable pub carried_under : Settings → ℕ → Running → List ℕ → List ℕ → List ℕ → NinthOutcome
carried_under s period running registry orders answers =
    let state_slot = running.answer.finality.slot in
    let count = running.orders in
    let after = carried_out s state_slot period (decode registry) (orders_in count orders) in
    record {
      answer = record { refusal = 0; ended = 0; running = ended_with after running };
      closing_registry = encode after;
      answers = answers_to s state_slot period (decode registry) (orders_in count orders) ++ drop count answers;
    }
