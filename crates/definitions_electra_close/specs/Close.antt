-- The whole close under Electra: what it is handed, its tests, what it hands back and what every lent list holds. Document 03, F-2 and F-3.
use Rattle.std.specs.Prelude.{Bool, List, [], ◌∷◌, ◌++◌, ℕ, ◌+◌, ◌*◌, length, replicate}
use Rattle.definitions.specs.declared.Finality.{Finality}
use Rattle.definitions.specs.Record.{decode}
use Rattle.definitions.specs.Checked.{Checked, value, refused, number_of, bind}
use Rattle.definitions.specs.Refusals.{in_order, settings_shaped, registry_shaped, roots_shaped, slashings_shaped, same_length, length_is, good_finality, good_registry, after_tests, closing_buffer}
use Rattle.definitions.specs.Raised.{none_raised, raised_totals}
use Rattle.definitions_close.specs.FinalizingTest.{finalizing_test}
use Rattle.definitions_electra.specs.declared.ElectraRules.{ElectraRules}
use Rattle.definitions_electra.specs.declared.ExitChurn.{ExitChurn}
use Rattle.definitions_electra.specs.declared.DepositNumbers.{DepositNumbers}
use Rattle.definitions_electra.specs.Record.{ElectraState, decode_deposits, encode_deposits, decode_consolidations, encode_consolidations}
use Rattle.definitions_electra.specs.Refusals.{count_of, deposits_of, deposits_shaped, consolidations_shaped, keys_shaped, indices_shaped, compounding_shaped, roomy_registry, roomy_compounding, good_electra, good_compounding, good_deposits}
use Rattle.definitions_electra.specs.Calls.{opening_keys, registry_in, roomy_buffer}
use Rattle.definitions_electra.specs.Evaluated.Electra.EpochProcessing.{process_epoch}
use Rattle.definitions_electra_close.specs.declared.ElectraAnswer.{ElectraAnswer}
use Rattle.definitions_electra_close.specs.Amounts.{electra_amounts}

-- All that the close is handed: the opening record, and closing buffers of any contents
pub record ElectraCall : Type 0 where
  pub rules : ElectraRules
  pub finality : Finality
  pub churn : ExitChurn
  pub numbers : DepositNumbers
  pub registry : List ℕ
  pub compounding : List ℕ
  pub slashings : List ℕ
  pub roots : List ℕ
  pub deposits : List ℕ
  pub consolidations : List ℕ
  pub closing_registry : List ℕ
  pub closing_compounding : List ℕ
  pub closing_slashings : List ℕ
  pub closing_deposits : List ℕ
  pub closing_consolidations : List ℕ
  pub amounts : List ℕ
  -- the working list of the keys, of any contents at the start and at the end
  pub places : List ℕ

abbrev pub electra_state_of : ElectraCall → ElectraState
electra_state_of c =
    record {
      altair = record { finality = c.finality; validators = decode c.registry; slashings = c.slashings; block_roots = c.roots };
      pubkeys = opening_keys (length (decode c.registry));
      compounding = c.compounding;
      deposit_balance_to_consume = c.numbers.deposit_balance_to_consume;
      churn = c.churn;
      eth1_deposit_index = c.numbers.eth1_deposit_index;
      deposit_requests_start_index = c.numbers.deposit_requests_start_index;
      pending_deposits = decode_deposits c.deposits;
      pending_consolidations = decode_consolidations c.consolidations;
    }

-- Tests 1, 2 and 3: Altair's, and those of F-2's table

abbrev pub lent_shaped : ElectraCall → List Bool
lent_shaped c =
    let s = c.rules.settings in
    let altair = settings_shaped s ∷ registry_shaped c.registry ∷ roots_shaped s c.roots ∷ slashings_shaped s c.slashings ∷ [] in
    let queues = deposits_shaped c.deposits ∷ keys_shaped c.registry c.deposits ∷ consolidations_shaped c.consolidations
    ∷ indices_shaped c.registry c.consolidations ∷ [] in
    altair ++ (compounding_shaped c.registry c.compounding ∷ queues)

-- "twelve amounts a validator (12(N + D) lent"
abbrev pub closing_shaped : ElectraCall → List Bool
closing_shaped c =
    roomy_registry c.registry c.deposits c.closing_registry
    ∷ roomy_compounding c.registry c.deposits c.closing_compounding
    ∷ same_length c.slashings c.closing_slashings
    ∷ same_length c.deposits c.closing_deposits
    ∷ same_length c.consolidations c.closing_consolidations
    ∷ length_is (12 * (count_of c.registry + deposits_of c.deposits)) c.amounts
    ∷ length_is (deposits_of c.deposits) c.places
    ∷ []

unfoldable pub electra_tests : ElectraCall → Checked (Unit {0})
electra_tests c =
    in_order (lent_shaped c ++ closing_shaped c) (good_electra c.rules ∷ [])
    (good_finality c.finality ∷ good_registry c.registry ∷ good_compounding c.compounding ∷ good_deposits c.deposits ∷ [])

-- the closed state, or the refusal
unfoldable pub electra_closed : ElectraCall → Checked ElectraState
electra_closed c = after_tests (electra_tests c) (process_epoch c.rules (electra_state_of c))

-- What comes back

unfoldable pub electra_answer : ElectraCall → Checked ElectraState → ElectraAnswer
electra_answer c (value st) =
    record {
      refusal = 0;
      finality = st.altair.finality;
      raised = raised_totals c.rules.settings c.finality.slot (decode c.registry);
      test = finalizing_test c.rules.settings c.finality (value st.altair.finality);
      validators = length st.altair.validators;
      deposits = length st.pending_deposits;
      consolidations = length st.pending_consolidations;
      deposit_balance_to_consume = st.deposit_balance_to_consume;
      churn = st.churn;
    }
electra_answer c (refused p) =
    record {
      refusal = number_of p;
      finality = c.finality;
      raised = none_raised;
      test = 0;
      validators = count_of c.registry;
      deposits = deposits_of c.deposits;
      consolidations = length (decode_consolidations c.consolidations);
      deposit_balance_to_consume = c.numbers.deposit_balance_to_consume;
      churn = c.churn;
    }

-- and what the lent lists hold afterwards
pub record ElectraOutcome : Type 0 where
  pub answer : ElectraAnswer
  pub closing_registry : List ℕ
  pub closing_compounding : List ℕ
  pub closing_slashings : List ℕ
  pub closing_deposits : List ℕ
  pub closing_consolidations : List ℕ
  pub amounts : List ℕ

-- "Refusals 4 and 5: the opening in all of them (the registry's first 10N numbers, the rest untouched); 1, 2, 3: nothing written." The amounts, as
-- R-4 has them: zeros.
unfoldable pub electra_close : ElectraCall → ElectraOutcome
electra_close c =
    let tests = electra_tests c in
    let opening = electra_state_of c in
    let work = process_epoch c.rules opening in
    let filled = bind work (λ _. electra_amounts c.rules opening) in
    record {
      answer = electra_answer c (electra_closed c);
      closing_registry = roomy_buffer registry_in tests work c.registry c.closing_registry;
      closing_compounding = roomy_buffer (λ st. st.compounding) tests work c.compounding c.closing_compounding;
      closing_slashings = closing_buffer (λ st. st.altair.slashings) tests work c.slashings c.closing_slashings;
      closing_deposits = roomy_buffer (λ st. encode_deposits st.pending_deposits) tests work c.deposits c.closing_deposits;
      closing_consolidations = roomy_buffer (λ st. encode_consolidations st.pending_consolidations) tests work c.consolidations c.closing_consolidations;
      amounts = roomy_buffer (λ xs. xs) tests filled (replicate (12 * count_of c.registry) 0) c.amounts;
    }
