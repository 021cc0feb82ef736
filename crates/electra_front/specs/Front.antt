-- Steps 1 to 8 on the validators that a close opened with.
use Rattle.std.specs.Prelude.{◌≡◌, true, List, [], ℕ, ◌+◌, ◌-◌, ◌*◌, ◌/◌, ◌≤◌, ◌<◌, length, get_or, take, replicate}
use Rattle.definitions.specs.declared.Finality.{Finality}
use Rattle.definitions.specs.Record.{encode, decode}
use Rattle.definitions.specs.Checked.{Checked, value, done as without_value}
use Rattle.definitions.specs.Refusals.{good_finality, justification_tests}
use Rattle.definitions.specs.Raised.{raised_totals}
use Rattle.definitions_close.specs.Amounts.{booked_by_rewards}
use Rattle.definitions_close.specs.FinalizingTest.{finalizing_test}
use Rattle.definitions_electra.specs.declared.ElectraRules.{ElectraRules}
use Rattle.definitions_electra.specs.declared.ExitChurn.{ExitChurn}
use Rattle.definitions_electra.specs.declared.DepositNumbers.{DepositNumbers}
use Rattle.definitions_electra.specs.Record.{ElectraState, decode_deposits, decode_consolidations}
use Rattle.definitions_electra.specs.Refusals.{good_electra}
use Rattle.definitions_electra.specs.Calls.{opening_keys}
use Rattle.definitions_electra.specs.Evaluated.Electra.EpochProcessing.{process_epoch}
use Rattle.electra_consolidations.specs.Moves.{moved_to, movements}
use Rattle.electra_first.specs.Taken.{balance_at}
use Rattle.electra_first.specs.First.{Five, five_by, after_five}
use Rattle.electra_steps.specs.Last.{Six, six_by, after_six, Eight, seven_eight, after_eight, after_ten, under}
use Rattle.electra_steps.specs.Finds.{Finds}
use Rattle.electra_front.specs.declared.Front.{Front}
use Rattle.electra_front.specs.Later.{LaterLent}

abbrev pub opening_of : Finality → ExitChurn → DepositNumbers → List ℕ → List ℕ → List ℕ → List ℕ → List ℕ → List ℕ → ElectraState
opening_of finality churn numbers registry compounding slashings roots deposits consolidations =
    record {
      altair = record { finality = finality; validators = decode registry; slashings = slashings; block_roots = roots };
      pubkeys = opening_keys (length (decode registry));
      compounding = compounding;
      deposit_balance_to_consume = numbers.deposit_balance_to_consume;
      churn = churn;
      eth1_deposit_index = numbers.eth1_deposit_index;
      deposit_requests_start_index = numbers.deposit_requests_start_index;
      pending_deposits = decode_deposits deposits;
      pending_consolidations = decode_consolidations consolidations;
    }

-- as the tests leave what is lent
pub record FrontLent (r : ElectraRules) (f : Finality) (registry compounding roots deposits pairs closing amounts places : List ℕ) : Type 0 where
  pub good : good_electra r ≡ true
  pub finality : good_finality f ≡ true
  pub justification : justification_tests (under r) roots f registry ≡ value tt
  pub tens : length registry ≡ 10 * length compounding
  pub later : LaterLent compounding deposits pairs closing amounts places

-- the steps' states where nothing is refused, and what is written then: eleven of the twelve amounts by the steps' own words
pub record FrontHeld (r : ElectraRules) (st : ElectraState) (n : ℕ) (deposits pairs after amounts : List ℕ) (f : Front) : Type 0 where
  pub v : Five
  pub five : five_by r (under r) st.altair.finality st.churn st.altair.validators st.altair.slashings st.altair.block_roots ≡ value v
  pub x : Six
  pub six : six_by r (after_five st v) ≡ value x
  pub y : Eight
  pub eight : seven_eight r n (after_five st v) x ≡ value y
  pub closes : process_epoch r st ≡ value (after_ten r (after_eight (after_six (after_five st v) x) y))
  pub finds : Finds n deposits (after_five st v)
  pub slot : v.finality.slot ≡ st.altair.finality.slot
  pub registry : after ≡ encode y.balanced
  pub finality : f.finality ≡ v.finality
  pub raised : f.raised ≡ raised_totals r.settings st.altair.finality.slot st.altair.validators
  pub test : f.test ≡ finalizing_test r.settings st.altair.finality (value v.finality)
  pub churn : f.churn ≡ v.four.taken.updated.churn
  pub next : f.next_epoch ≡ x.queueing.next_epoch
  pub index : f.index ≡ x.processing.next_deposit_index
  pub few : f.index ≤ length deposits / 5
  pub left : f.left ≡ x.left
  pub done : f.done ≡ y.moved.next_pending_consolidation
  pub most : f.done ≤ length pairs / 2
  pub long : length amounts ≡ 12 * n
  pub eights : (es : List (List ℕ))
      → booked_by_rewards (under r) (under r).inactivity_penalty_quotient_altair v.finality.slot v.finality.finalized_checkpoint.epoch
      v.four.paid.scored ≡ value es
      → (i k : ℕ) → i < n → k < 8 → get_or amounts (12 * i + k) 0 ≡ get_or (get_or es i []) k 0
  pub ninth : (i : ℕ) → i < n
      → get_or amounts (12 * i + 8) 0 ≡ balance_at v.four.taken.updated.validators i - balance_at v.four.taken.lessened i
  pub tenth : (i : ℕ) → i < n
      → get_or amounts (12 * i + 9) 0 ≡ balance_at x.processing.registry.validators i - balance_at v.four.taken.lessened i
  pub moves : movements x.queueing.next_epoch n (take n x.processing.registry.validators) pairs (replicate (12 * n) 0)
      ≡ value (moved_to n y.moved.validators f.done amounts)

pub record FrontRan (r : ElectraRules) (st : ElectraState) (n : ℕ) (deposits pairs after amounts : List ℕ) (answer : Checked Front) : Type 0 where
  pub is : without_value answer ≡ without_value (process_epoch r st)
  pub held : (f : Front) → answer ≡ value f → FrontHeld r st n deposits pairs after amounts f
