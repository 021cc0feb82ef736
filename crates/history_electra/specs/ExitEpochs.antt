-- 03, F-3, "How full an exit epoch gets". Words in quotation marks are the document's.
use Rattle.std.specs.Prelude.{◌≡◌, ◌⊎◌, Bool, cond, ◌&&◌, ℕ, ◌+◌, ◌-◌, max, ◌≤◌, ◌<◌, T, leb, ltb, eqb, length, get_or}
use mathlib.Core.List.{List, [], ◌∷◌, ◌++◌, map, foldl}
use Rattle.definitions.specs.Lists.{filter, all, sum, range}
use Rattle.definitions.specs.Record.{nobody, FAR_FUTURE_EPOCH}
use Rattle.definitions.specs.Checked.{Checked, value, bind, code_of, settle}
use Rattle.definitions.specs.Refusals.{after_tests}
use Rattle.definitions.specs.Rust.Phase0.Helpers.{is_active_validator, compute_activation_exit_epoch}
use Rattle.definitions_electra.specs.declared.ElectraRules.{ElectraRules}
use Rattle.definitions_electra.specs.declared.ExitChurn.{ExitChurn}
use Rattle.definitions_electra.specs.Record.{ElectraState}
use Rattle.definitions_electra.specs.Document.Electra.Helpers.{is_eligible_for_activation_queue}
use Rattle.definitions_electra.specs.Document.Electra.EpochProcessing.{current_epoch_of}
use Rattle.definitions_electra.specs.Evaluated.Electra.Helpers.{get_activation_exit_churn_limit, churned, initiate_validator_exit}
use Rattle.definitions_electra.specs.Evaluated.Electra.EpochProcessing.{update_registry_at, close_up_to, process_epoch}

-- An exit as it was made: the effective balance, the churn limit met, the least epoch, and the record's two numbers before and after
pub record Exit : Type 0 where
  pub balance : ℕ
  pub limit : ℕ
  pub least : ℕ
  pub before : ExitChurn
  pub after : ExitChurn

-- the exit epoch that it "is given"
abbrev pub epoch_of : Exit → ℕ
epoch_of e = e.after.earliest_exit_epoch

-- its balance, and what it left of that epoch
abbrev pub room : Exit → ℕ
room e = e.balance + e.after.exit_balance_to_consume

-- "what .. had already used up of earlier epochs": nothing where the first epoch open to it had room, and else all but what it took of its own
abbrev pub used : Exit → ℕ
used e = cond (ltb (max e.before.earliest_exit_epoch e.least) (epoch_of e)) (room e - e.limit) 0

-- those given epoch x, in their order
abbrev pub given : ℕ → List Exit → List Exit
given x exits = filter (λ e. eqb (epoch_of e) x) exits

abbrev pub balances : List Exit → ℕ
balances exits = sum (map (λ e. e.balance) exits)

-- "the first of them"
abbrev pub of_first : (Exit → ℕ) → List Exit → ℕ
of_first f [] = 0
of_first f (e ∷ exits) = f e

-- A call, by what the claim asks of it: the two numbers handed in and handed back, 0 or the refusal's number, and the exits that it made
pub record Event : Type 0 where
  pub opening : ExitChurn
  pub returned : ExitChurn
  pub refusal : ℕ
  pub exits : List Exit
  -- after a refusal what others did stays, or not
  pub others_stay : Bool

abbrev pub accepts : Event → Bool
accepts e = eqb e.refusal 0

abbrev pub after : ExitChurn → Event → ExitChurn
after r e = cond (accepts e) e.returned (cond e.others_stay e.opening r)

abbrev pub standing : ExitChurn → List Event → ExitChurn
standing start events = foldl after start events

-- "the exits that these calls make"; a refused one makes none
abbrev pub made : List Event → List Exit
made [] = []
made (e ∷ events) = cond (accepts e) e.exits [] ++ made events

-- r stood and o is handed in: others may use up more of the earliest exit epoch, or move on to a later one of which at most C is left
abbrev pub Others : ℕ → ExitChurn → ExitChurn → Type 0
Others C r o =
    ((o.earliest_exit_epoch ≡ r.earliest_exit_epoch) × (o.exit_balance_to_consume ≤ r.exit_balance_to_consume))
    ⊎ ((r.earliest_exit_epoch < o.earliest_exit_epoch) × (o.exit_balance_to_consume ≤ C))

-- C is "the largest limit met", and as large as what is left at the start
pub record Premises (C : ℕ) (start : ExitChurn) (events : List Event) : Type 0 where
  pub left : start.exit_balance_to_consume ≤ C
  pub handed : (before later : List Event) (e : Event) → events ≡ before ++ e ∷ later → Others C (standing start before) e.opening
  pub limits : T (all (λ e. leb e.limit C) (made events))

-- of each exit epoch x
pub record Claim (C : ℕ) (events : List Event) : Type 0 where
  -- "the effective balance that is given one exit epoch is at most one churn limit and what the first of them had already used up of earlier epochs"
  pub full : (x : ℕ) → balances (given x (made events)) ≤ C + of_first used (given x (made events))
  -- the sharp form: at most the first's balance and what the first left of the epoch
  pub sharp : (x : ℕ) → balances (given x (made events)) ≤ of_first room (given x (made events))

-- The exits that a close makes, beside `initiate_validator_exit` and the registry step, as it finds the state

unfoldable pub exit_made : ElectraRules → ElectraState → ℕ → Checked (List Exit)
exit_made r st index =
    let vs = st.altair.validators in
    let validator = get_or vs index nobody in
    cond (eqb validator.exit_epoch FAR_FUTURE_EPOCH)
    (bind (compute_activation_exit_epoch r.settings (current_epoch_of r st)) (λ least.
    bind (get_activation_exit_churn_limit r st.altair.finality.slot vs) (λ limit.
    bind (churned least limit st.churn validator.effective_balance) (λ after.
    value (record { balance = validator.effective_balance; limit = limit; least = least; before = st.churn; after = after } ∷ [])))))
    (value [])

unfoldable pub exits_from : ElectraRules → ℕ → ElectraState → List ℕ → Checked (List Exit)
exits_from r activation_epoch st [] = value []
exits_from r activation_epoch st (index ∷ indices) =
    let validator = get_or st.altair.validators index nobody in
    let ejected = is_active_validator validator (current_epoch_of r st) && leb validator.effective_balance r.settings.ejection_balance in
    bind (cond (is_eligible_for_activation_queue r.electra validator) (value []) (cond ejected (exit_made r st index) (value []))) (λ here.
    bind (update_registry_at r activation_epoch st index) (λ next.
    bind (exits_from r activation_epoch next indices) (λ later.
    value (here ++ later))))

unfoldable pub exits_made : ElectraRules → ElectraState → Checked (List Exit)
exits_made r st =
    bind (close_up_to 3 r st) (λ rewarded.
    bind (compute_activation_exit_epoch r.settings (current_epoch_of r rewarded)) (λ activation_epoch.
    exits_from r activation_epoch rewarded (range 0 (length rewarded.altair.validators))))

-- "these calls", by what they go by, what their tests say and the record handed in: closes, and orders of the exit of one validator
pub data Called : Type 0 where
  closing : ElectraRules → Checked (Unit {0}) → ElectraState → Called
  exiting : ElectraRules → Checked (Unit {0}) → ElectraState → ℕ → Called

abbrev pub opening_of : Called → ElectraState
opening_of (closing r tests st) = st
opening_of (exiting r tests st index) = st

abbrev pub worked : Called → Checked ElectraState
worked (closing r tests st) = after_tests tests (process_epoch r st)
worked (exiting r tests st index) = after_tests tests (initiate_validator_exit r st index)

abbrev pub exits_of : Called → Checked (List Exit)
exits_of (closing r tests st) = exits_made r st
exits_of (exiting r tests st index) = exit_made r st index

abbrev pub event : Bool × Called → Event
event c =
    record {
      opening = (opening_of c.1).churn;
      returned = (settle (worked c.1) (opening_of c.1)).churn;
      refusal = code_of (worked c.1);
      exits = settle (exits_of c.1) [];
      others_stay = c.0;
    }

-- "over any run of closes"
abbrev pub ExitEpochs : Type 0
ExitEpochs = (C : ℕ) (start : ExitChurn) (calls : List (Bool × Called)) → let events = map event calls in Premises C start events → Claim C events
