-- The first five steps one after the other, and what the code promises of them.
use Rattle.std.specs.Prelude.{◌≡◌, List, [], ℕ, ◌+◌, ◌-◌, ◌*◌, ◌≤◌, ◌<◌, length, get_or}
use Rattle.definitions.specs.declared.Settings.{Settings}
use Rattle.definitions.specs.declared.Finality.{Finality}
use Rattle.definitions.specs.Record.{Validator, encode}
use Rattle.definitions.specs.Checked.{Checked, value, bind}
use Rattle.definitions.specs.Raised.{raised_totals}
use Rattle.definitions.specs.Rust.Altair.EpochProcessing.{process_justification_and_finalization}
use Rattle.definitions_close.specs.Amounts.{booked_by_rewards}
use Rattle.definitions_close.specs.FinalizingTest.{finalizing_test}
use Rattle.definitions_electra.specs.declared.ElectraRules.{ElectraRules}
use Rattle.definitions_electra.specs.declared.ExitChurn.{ExitChurn}
use Rattle.definitions_electra.specs.Record.{ElectraState, with_altair, with_churn}
use Rattle.electra_first.specs.declared.First.{First}
use Rattle.electra_first.specs.Paid.{Paid, paid_by}
use Rattle.electra_first.specs.Taken.{Taken, taken_by, balance_at}

-- the four over the registry
pub record Four : Type 0 where
  pub paid : Paid
  pub taken : Taken

-- s is the settings with the pair in place
unfoldable pub four_by : ElectraRules → Settings → ℕ → ℕ → List ℕ → ExitChurn → List Validator → Checked Four
four_by r s state_slot finalized_epoch slashings churn vs =
    bind (paid_by s state_slot finalized_epoch vs) (λ p.
    bind (taken_by r state_slot finalized_epoch slashings churn p.paid) (λ t. value (record { paid = p; taken = t })))

-- nine numbers a row, and three zeros
pub record NineColumns (es : List (List ℕ)) (t : Taken) (amounts : List ℕ) : Type 0 where
  pub long : length amounts ≡ 12 * length es
  pub eight : (i k : ℕ) → i < length es → k < 8 → get_or amounts (12 * i + k) 0 ≡ get_or (get_or es i []) k 0
  pub ninth : (i : ℕ) → i < length t.lessened → get_or amounts (12 * i + 8) 0 ≡ balance_at t.updated.validators i - balance_at t.lessened i
  pub rest : (i k : ℕ) → i < length es → 9 ≤ k → k < 12 → get_or amounts (12 * i + k) 0 ≡ 0

-- by what the rewards book of those whose scores were updated
pub record Nine (s : Settings) (state_slot finalized_epoch : ℕ) (f : Four) (amounts : List ℕ) : Type 0 where
  pub columns : (es : List (List ℕ)) → booked_by_rewards s s.inactivity_penalty_quotient_altair state_slot finalized_epoch f.paid.scored ≡ value es
      → NineColumns es f.taken amounts

-- the exit queue's two numbers, or why the four are refused; and where they are not the registry and the amounts
pub record FourRan (s : Settings) (state_slot finalized_epoch : ℕ) (m : Checked Four) (after amounts : List ℕ) (r : Checked ExitChurn) : Type 0 where
  pub is : r ≡ bind m (λ f. value f.taken.updated.churn)
  pub held : (f : Four) → m ≡ value f → after ≡ encode f.taken.lessened
  pub books : (f : Four) → m ≡ value f → Nine s state_slot finalized_epoch f amounts

-- and justification before them

pub record Five : Type 0 where
  pub finality : Finality
  pub four : Four

unfoldable pub five_by : ElectraRules → Settings → Finality → ExitChurn → List Validator → List ℕ → List ℕ → Checked Five
five_by r s f churn vs slashings roots =
    bind (process_justification_and_finalization s roots f vs) (λ g.
    bind (four_by r s g.slot g.finalized_checkpoint.epoch slashings churn vs) (λ four. value (record { finality = g; four = four })))

-- the state then
abbrev pub after_five : ElectraState → Five → ElectraState
after_five st v =
    let registry = v.four.taken in
    with_churn registry.updated.churn
    (with_altair
    (record {
      finality = v.finality;
      validators = registry.lessened;
      slashings = st.altair.slashings;
      block_roots = st.altair.block_roots;
    })
    st)

-- what is answered by value
abbrev pub first_of : Settings → Finality → List Validator → Five → First
first_of s f vs v =
    record { finality = v.finality; raised = raised_totals s f.slot vs; test = finalizing_test s f (value v.finality); churn = v.four.taken.updated.churn }

pub record FirstHeld (s : Settings) (v : Five) (after amounts : List ℕ) : Type 0 where
  pub registry : after ≡ encode v.four.taken.lessened
  pub nine : Nine s v.finality.slot v.finality.finalized_checkpoint.epoch v.four amounts

pub record FirstRan (s : Settings) (f : Finality) (vs : List Validator) (m : Checked Five) (after amounts : List ℕ) (r : Checked First) : Type 0 where
  pub is : r ≡ bind m (λ v. value (first_of s f vs v))
  pub held : (v : Five) → m ≡ value v → FirstHeld s v after amounts
