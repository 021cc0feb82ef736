-- Figures at the edges, by computing: each is a call at which a program that is nearly right gives another answer (docs/PROOFS.md, "Wrong
-- programs"). Mainnet's settings but one root and one number of slashings; Altair from epoch 10 on, Bellatrix from epoch 20.
use mathlib.Core.Path.{◌≡◌, refl}
use mathlib.Core.List.{List, [], ◌∷◌, ◌++◌}
use Prim.Native.Nat.{ℕ, ◌*◌}
use lib.ListN.{drop, replicate}
use Rattle.definitions.specs.declared.Settings.{Settings}
use Rattle.definitions.specs.declared.Checkpoint.{Checkpoint}
use Rattle.definitions.specs.declared.Finality.{Finality}
use Rattle.definitions.specs.declared.ExitQueue.{ExitQueue}
use Rattle.definitions.specs.declared.Rules.{Rules}
use Rattle.definitions.specs.Lists.{all, every, filter, sum, maximum}
use Rattle.definitions.specs.Record.{Validator, decode, decode_first}
use Rattle.definitions.specs.Checked.{value, refused, bind, add64, mul64, sum64}
use Rattle.definitions.specs.declared.Refusal.TheVariants.{BadSettings, BadRecord, WrongQueue, NoEntry}
use Rattle.definitions.specs.Mainnet.{mainnet, mainnet_bellatrix}
use Rattle.definitions.specs.Refusals.{in_order, after_tests, settings_numbers, settings_from, settings_shaped, registry_shaped, good_settings, good_finality, good_validator, good_registry}
use Rattle.definitions.specs.LeafRefusals.{exit_tests}
use Rattle.definitions.specs.Rules.{rules_shaped, good_rules, good_bellatrix, «ALTAIR», «BELLATRIX»}
use Rattle.definitions.specs.ExitQueue.{queue_of, is_queue_of, queue_test}
use Rattle.definitions.specs.Document.Phase0.Helpers as document
use Rattle.definitions.specs.Document.Phase0.EpochProcessing.{justified_bits, finalized_by, weighed}
use Rattle.definitions.specs.Rust.Phase0.Helpers.{is_active_validator, compute_epoch_at_slot, get_current_epoch, get_previous_epoch, compute_start_slot_at_epoch, get_block_root, get_block_root_at_slot, get_active_validator_indices, get_total_balance, get_total_active_balance}
use Rattle.definitions.specs.Rust.Phase0.EpochProcessing.{is_justified, root_where, weigh_justification_and_finalization}
use Rattle.definitions.specs.Rust.Altair.Helpers.{has_flag, is_unslashed_participating, get_unslashed_participating_indices}
use Rattle.definitions.specs.Rust.Altair.EpochProcessing.{process_justification_and_finalization}
use Rattle.definitions.specs.Close.{limited_tests}
use Rattle.definitions_close.specs.declared.Running.{Running}
use Rattle.definitions_close.specs.Store.{Entry, Store, entries_from, numbers_of, last_of, keeps, follows, in_sequence, store_shaped, good_entries, entry_for, rules_at, of_last}
use Rattle.definitions_close.specs.StoreClose.{StoreCall, store_call_shaped, rules_at_slot, rules_for}
use Rattle.definitions_close.specs.StoreSteps.{StoreStepCall, StoreNinthCall, store_found, ninth_rules, store_step_by, store_step, step_refused}
use Rattle.definitions_close.specs.FullClose.{FullCall, full_tests, limited_full_tests}
use Rattle.definitions_close.specs.CloseBySteps.{unwritten}
use Rattle.definitions_close.specs.QueueCalls.{then_queue, exit_queue_tests}
use Rattle.definitions_close.specs.FinalizingTest.{last_test, finalizing_test}
use Rattle.definitions_close.specs.Orders.{NinthCall, orders_in, carried_out, answers_to, ninth_tests, ninth_in_turn, carries_out, carry_out}

abbrev small : Settings
small = settings_from (32 ∷ 1 ∷ 1 ∷ drop 3 (settings_numbers mainnet))

abbrev under : ℕ → Rules
under fork = record { settings = small; fork = fork; bellatrix = mainnet_bellatrix }

abbrev entry : ℕ → ℕ → Entry
entry start fork = record { start = start; rules = under fork }

abbrev store : Store
store = record { numbers = numbers_of (entry 10 «ALTAIR») ++ numbers_of (entry 20 «BELLATRIX»); count = 2 }

abbrev empty : Store
empty = record { numbers = []; count = 0 }

abbrev at : ℕ → Checkpoint
at epoch = record { epoch = epoch; root = replicate 32 0 }

-- slot, bits and the epochs of the justified checkpoints
abbrev finality : ℕ → ℕ → ℕ → ℕ → Finality
finality slot bits previous current =
    record {
      slot = slot;
      justification_bits = bits;
      previous_justified_checkpoint = at previous;
      current_justified_checkpoint = at current;
      finalized_checkpoint = at 0;
    }

-- of one validator that is active, with exit epoch 9: slashed, and the flags of the previous epoch
abbrev validator : ℕ → ℕ → List ℕ
validator slashed flags = 32_000_000_000 ∷ slashed ∷ 0 ∷ 0 ∷ 9 ∷ 265 ∷ 32_000_000_000 ∷ flags ∷ 0 ∷ 0 ∷ []

-- the validator's pair has number 1
abbrev pair : ℕ → ExitQueue
pair number = record { last_epoch = 9; number = number }

-- a close at this slot, lent so many roots
abbrev closing : Store → ℕ → ℕ → StoreCall
closing s slot roots =
    record {
      store = s;
      finality = finality slot 0 0 0;
      queue = pair 1;
      registry = validator 0 0;
      slashings = 0 ∷ [];
      roots = replicate (32 * roots) 0;
      closing_registry = validator 0 0;
      closing_slashings = 0 ∷ [];
      amounts = replicate 9 0;
    }

-- so many steps are done, and the record so far is at this slot
abbrev running : ℕ → ℕ → Running
running done slot =
    record {
      done = done;
      answer = record {
        refusal = 0;
        finality = finality slot 0 0 0;
        queue = pair 1;
        raised = record { active = 0; previous = 0; current = 0 };
        test = 0;
      };
      orders = 0;
    }

-- the second step, of a close whose opening is at epoch 20
abbrev second : Store → ℕ → StoreStepCall
second s slot = record { number = 2; running = running 1 slot; whole = closing s 640 1 }

abbrev ninth : ℕ → ℕ → StoreNinthCall
ninth slot period =
    record { store = store; period = period; running = running 8 slot; closing_registry = validator 0 0; orders = []; answers = [] }

abbrev ninth_after : ℕ → NinthCall
ninth_after done =
    record { rules = under «ALTAIR»; period = 256; running = running done 320; closing_registry = validator 0 0; orders = []; answers = [] }

abbrev full : ℕ → ExitQueue → FullCall
full slashed queue =
    record {
      call = record {
        rules = under «ALTAIR»;
        finality = finality 320 0 0 0;
        registry = validator slashed 0;
        slashings = 0 ∷ [];
        roots = replicate 32 0;
        closing_registry = validator slashed 0;
        closing_slashings = 0 ∷ [];
      };
      queue = queue;
      amounts = replicate 9 0;
    }

-- hit the target of the previous epoch alone
abbrev voted : List Validator
voted = decode (validator 0 2)

pub record Figures : Type 0 where
  -- an empty store is asked no lengths, and then it is 13; another is
  pub empty_not_asked : rules_for (closing empty 640 7) ≡ refused NoEntry
  pub asked : rules_for (closing store 640 1) ≡ value (under «BELLATRIX»)
  -- a later step goes by the epoch of the record so far, and the opening's is 20
  pub so_far : rules_for (store_found (second store 639)) ≡ value (under «ALTAIR»)
  -- 13 at a later step turns the call away alone, and the close runs on
  pub still-running : (store_step (second store 319)).answer.running.done ≡ 1
  pub turned-away : (store_step (second store 319)).answer.refusal ≡ 13
  -- a period of 2^48 is 2, and that before 13
  pub long-period : ninth_rules (ninth 0 281_474_976_710_656) ≡ refused BadSettings
  pub good-period : ninth_rules (ninth 320 281_474_976_710_655) ≡ value (under «ALTAIR»)
  -- a ninth call ends the close, and after an end it does nothing but say so
  pub ended : (carry_out (ninth_after 8)).answer.running.done ≡ 9
  pub says-ended : (carry_out (ninth_after 9)).answer.ended ≡ 1
  pub out_of_turn : (carry_out (ninth_after 7)).answer.refusal ≡ 1
  -- 3 before 8
  pub three-first : full_tests (full 2 (pair 2)) ≡ refused BadRecord
  pub then-eight : full_tests (full 1 (pair 2)) ≡ refused WrongQueue
  pub three_first_of_an_exit : exit_queue_tests small 320 0 (pair 2) (validator 2 0) ≡ refused BadRecord
  -- the second test set the checkpoint by the new bits, 6; by the old ones, 3, it would be the fourth
  pub by_new_bits : finalizing_test mainnet (finality 127 3 1 2) (process_justification_and_finalization mainnet [] (finality 127 3 1 2) voted) ≡ 2

pub figures : Figures
unfolding all every filter sum maximum decode decode_first bind add64 mul64 sum64 in_order after_tests settings_shaped registry_shaped good_settings good_finality good_validator good_registry exit_tests rules_shaped good_rules good_bellatrix queue_of is_queue_of queue_test document.get_block_root_at_slot justified_bits finalized_by weighed is_active_validator compute_epoch_at_slot get_current_epoch get_previous_epoch compute_start_slot_at_epoch get_block_root get_block_root_at_slot get_active_validator_indices get_total_balance get_total_active_balance is_justified root_where weigh_justification_and_finalization has_flag is_unslashed_participating get_unslashed_participating_indices process_justification_and_finalization limited_tests entries_from last_of keeps follows in_sequence store_shaped good_entries entry_for rules_at of_last store_call_shaped rules_at_slot rules_for store_found ninth_rules store_step_by store_step step_refused limited_full_tests unwritten then_queue last_test finalizing_test orders_in carried_out answers_to ninth_tests ninth_in_turn carries_out carry_out
figures =
    record {
      empty_not_asked = refl;
      asked = refl;
      so_far = refl;
      still-running = refl;
      turned-away = refl;
      long-period = refl;
      good-period = refl;
      ended = refl;
      says-ended = refl;
      out_of_turn = refl;
      three-first = refl;
      then-eight = refl;
      three_first_of_an_exit = refl;
      by_new_bits = refl;
    }
