-- 02, R-9: "After the first step, a refusal tested before 4 turns away the call alone". Whatever such a call was handed, a wrong list among it: nothing
-- that it was lent changes and the close is as it was, so that the call may be made again.
use Rattle.std.specs.Prelude.{◌≡◌, [], ◌∷◌, ◌≤◌}
use Rattle.definitions_close.specs.CloseBySteps.{unwritten}
use Rattle.definitions_close.specs.Orders.{untried}
use Rattle.definitions_close.specs.StoreSteps.{StoreStepCall, step_of, store_step, StoreNinthCall, ninth_of, store_carry_out}
use Rattle.agreement.specs.Restored.{OneOf}

-- a step: 1, 2, 3, 8 and 13
abbrev pub StepsAlone : Type 0
StepsAlone =
    (c : StoreStepCall) → let refusal = (store_step c).answer.refusal in 1 ≤ c.running.done → OneOf refusal (1 ∷ 2 ∷ 3 ∷ 8 ∷ 13 ∷ [])
    → store_step c ≡ unwritten (record { refusal = refusal; ended = 0; running = c.running }) (step_of c)

-- the ninth call, by any number
abbrev pub NinthAlone : Type 0
NinthAlone =
    (c : StoreNinthCall) → let refusal = (store_carry_out c).answer.refusal in (refusal ≡ 0 → ⊥)
    → store_carry_out c ≡ untried (record { refusal = refusal; ended = 0; running = c.running }) (ninth_of c)
