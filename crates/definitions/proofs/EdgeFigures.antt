-- Figures at the edges, by computing: each is a record at which a program that is nearly right gives another answer (docs/PROOFS.md, "Wrong
-- programs"). Mainnet, slot 127, the last of epoch 3.
use mathlib.Core.Path.{◌≡◌, refl}
use mathlib.Core.Bool.{true, false}
use mathlib.Core.List.{List, [], ◌∷◌, ◌++◌, map}
use Prim.Native.Nat.{ℕ, ◌+◌}
use lib.ListN.{length, replicate, take, drop}
use Rattle.definitions.specs.declared.Settings.{Settings}
use Rattle.definitions.specs.declared.Bellatrix.{Bellatrix}
use Rattle.definitions.specs.declared.Rules.{Rules}
use Rattle.definitions.specs.declared.Checkpoint.{Checkpoint}
use Rattle.definitions.specs.declared.Finality.{Finality}
use Rattle.definitions.specs.Lists.{filter, sum, all, every, range, insert, sorted, maximum}
use Rattle.definitions.specs.Record.{Validator, FAR_FUTURE_EPOCH, encode, decode, decode_first}
use Rattle.definitions.specs.Updates.{with_balance, with_participation, with_score}
use Rattle.definitions.specs.Checked.{Checked, value, refused, settle, bind, add64, sub64, mul64, sum64, map_checked, fold_checked}
use Rattle.definitions.specs.declared.Refusal.TheVariants.{BadShape, BadSettings, BadRecord, Overflow}
use Rattle.definitions.specs.Mainnet.{mainnet, mainnet_bellatrix}
use Rattle.definitions.specs.Refusals.{in_order, settings_numbers, settings_from, settings_shaped, registry_shaped, good_settings, good_validator, good_registry, registry_tests}
use Rattle.definitions.specs.LeafRefusals.{participation_entry_tests}
use Rattle.definitions.specs.Rules.{good_rules, good_bellatrix, «ALTAIR», «BELLATRIX»}
use Rattle.definitions.specs.ExitQueue.{queue_of}
use Rattle.definitions.specs.RegisterOrder.{ahead, map_below, activated_at, activated, limited_updates_to, registry_updates_to, registry_to_tests}
use Rattle.definitions.specs.Close.{charged}
use Rattle.definitions.specs.Document.Phase0.Helpers.{integer_squareroot, root_within}
use Rattle.definitions.specs.Document.Phase0.Helpers as document
use Rattle.definitions.specs.Document.Phase0.EpochProcessing.{justified_bits, finalized_by, weighed, queue_eligible, is_ejected}
use Rattle.definitions.specs.Document.Altair.EpochProcessing.{rotate_participation}
use Rattle.definitions.specs.Rust.Phase0.Helpers.{is_active_validator, is_eligible_for_activation_queue, is_eligible_for_activation, compute_epoch_at_slot, compute_activation_exit_epoch, get_current_epoch, get_previous_epoch, compute_start_slot_at_epoch, get_block_root, get_block_root_at_slot, get_active_validator_indices, get_validator_churn_limit, get_total_balance, get_total_active_balance, increase_balance, decrease_balance, exit_queue_epoch, initiate_validator_exit}
use Rattle.definitions.specs.Rust.Phase0.EpochProcessing.{is_justified, root_where, weigh_justification_and_finalization, get_finality_delay, is_in_inactivity_leak, is_eligible, update_registry_at, reset_slashings}
use Rattle.definitions.specs.Rust.Altair.Helpers.{has_flag, is_unslashed_participating, get_unslashed_participating_indices, get_base_reward_per_increment, get_base_reward, flag_totals, hit_deltas, miss_deltas, flag_index_deltas, get_flag_index_deltas, inactivity_penalty_deltas}
use Rattle.definitions.specs.Rust.Altair.EpochProcessing.{moved_score, recovered_score, update_inactivity_score, process_inactivity_updates, apply_delta, all_deltas, reward_and_penalize, process_rewards_and_penalties, is_slashing_due, slashing_penalty, slash, process_slashings, process_participation_flag_updates, process_justification_and_finalization}
use Rattle.definitions.proofs.Figures.{voter}

abbrev slot : ℕ
slot = 127

abbrev far : ℕ
far = FAR_FUTURE_EPOCH

-- slashed, the epochs of eligibility, activation, exit and withdrawal, and the flags of both epochs; balances of 32×10^9
abbrev of : ℕ → ℕ → ℕ → ℕ → ℕ → ℕ → Validator
of slashed eligibility activation exit withdrawable flags =
    record {
      effective_balance = 32_000_000_000;
      slashed = slashed;
      activation_eligibility_epoch = eligibility;
      activation_epoch = activation;
      exit_epoch = exit;
      withdrawable_epoch = withdrawable;
      balance = 32_000_000_000;
      previous_epoch_participation = flags;
      current_epoch_participation = flags;
      inactivity_score = 0;
    }

-- active, with these flags
abbrev active : ℕ → Validator
active flags = of 0 0 0 far far flags

-- active until this epoch
abbrev until : ℕ → Validator
until exit = of 0 0 0 exit far 7

-- slashed, and no longer active
abbrev gone : ℕ → Validator
gone withdrawable = of 1 0 0 1 withdrawable 7

abbrev waiting : ℕ → Validator
waiting since = of 0 since far far far 0

-- becomes eligible in this close
abbrev fresh : Validator
fresh = waiting far

-- at mainnet's ejection balance
abbrev leaving : Validator
leaving = voter 16_000_000_000 0 0

-- slashed, with its penalty due, and twice its effective balance
abbrev due : Validator
due = with_balance 64_000_000_000 (of 1 0 0 4 4099 0)

abbrev with_least : ℕ → Settings
with_least churn = settings_from (take 17 (settings_numbers mainnet) ++ churn ∷ 65_536 ∷ [])

abbrev with_vector : ℕ → Settings
with_vector L = settings_from (32 ∷ 8_192 ∷ L ∷ drop 3 (settings_numbers mainnet))

-- mainnet's, under Bellatrix, with this Altair quotient
abbrev with_quotient : ℕ → Rules
with_quotient quotient =
    record {
      settings = settings_from (take 12 (settings_numbers mainnet) ++ quotient ∷ drop 13 (settings_numbers mainnet));
      fork = «BELLATRIX»;
      bellatrix = mainnet_bellatrix;
    }

abbrev updated : ℕ → Settings → ℕ → List Validator → List Validator
updated stop s finalized vs = settle (registry_updates_to stop s slot finalized vs) []

abbrev activations : Settings → ℕ → List Validator → List ℕ
activations s finalized vs = map (λ v. v.activation_epoch) (updated (length vs) s finalized vs)

abbrev balances : Checked (List Validator) → List ℕ
balances m = map (λ v. v.balance) (settle m [])

abbrev rewarded : List Validator → List ℕ
rewarded vs = balances (process_rewards_and_penalties mainnet 50_331_648 slot 2 vs)

abbrev slashed : ℕ → List ℕ → List Validator → List ℕ
slashed multiplier slashings vs = balances (process_slashings mainnet multiplier slot slashings vs)

abbrev scored : ℕ → Checked (List Validator)
scored score = process_inactivity_updates mainnet slot 2 (with_score score (active 0) ∷ [])

abbrev standing : Finality
standing =
    let at : ℕ → Checkpoint = λ epoch. record { epoch = epoch; root = replicate 32 0 } in
    record {
      slot = slot;
      justification_bits = 3;
      previous_justified_checkpoint = at 0;
      current_justified_checkpoint = at 2;
      finalized_checkpoint = at 0;
    }

abbrev previous_justified : Checked Finality → ℕ
previous_justified m = (settle m standing).previous_justified_checkpoint.epoch

pub record Figures : Type 0 where
  -- active up to the epoch before the exit
  pub last-active : is_active_validator (until 3) 2 ≡ true
  pub exited : is_active_validator (until 3) 3 ≡ false
  -- slashed and gone: charged up to two epochs before it is withdrawable
  pub slashed-charged : is_eligible 2 (gone 4) ≡ true
  pub slashed_not_charged : is_eligible 2 (gone 3) ≡ false
  -- and it takes no part, though it hit the target
  pub slashed_takes_no_part : is_unslashed_participating 3 1 2 (of 1 0 0 far far 7) ≡ false
  -- 02, R-2: one of three is charged no more; nobody at epoch 0, and all at epoch 1
  pub charged-two : charged mainnet slot (active 7 ∷ gone 4 ∷ until 2 ∷ []) ≡ 2
  pub charged-none : charged mainnet 31 (active 7 ∷ []) ≡ 0
  pub charged_at_1 : charged mainnet 63 (active 7 ∷ []) ≡ 1
  -- the limit is 4: one who waits since 1, three of four since 2, nobody since 3
  pub four_let_in : activations mainnet 3 (waiting 1 ∷ waiting 3 ∷ waiting 2 ∷ waiting 2 ∷ waiting 2 ∷ waiting 2 ∷ []) ≡ 8 ∷ far ∷ 8 ∷ 8 ∷ 8 ∷ far ∷ []
  -- who waits since after the finalized epoch is not let in, though the present epoch is reached
  pub not_final_yet : activations mainnet 2 (waiting 3 ∷ waiting 2 ∷ []) ≡ far ∷ 8 ∷ []
  -- one that becomes eligible in this close waits since the next epoch, as the others do, and stands before them
  pub fresh_let_in : activations mainnet 4 (fresh ∷ waiting 4 ∷ waiting 4 ∷ waiting 4 ∷ waiting 4 ∷ []) ≡ 8 ∷ 8 ∷ 8 ∷ 8 ∷ far ∷ []
  -- with a limit of 65: one too many since the finalized epoch itself; and one since it behind 65 since before
  pub one_of_66_waits : activations (with_least 65) 2 (replicate 66 (waiting 2)) ≡ replicate 65 8 ++ far ∷ []
  pub the_66th_waits : activations (with_least 65) 2 (replicate 65 (waiting 1) ++ waiting 2 ∷ []) ≡ replicate 65 8 ++ far ∷ []
  -- 02, R-6, stop 0: nobody is activated, and all else is done
  pub stopped-ejects : map (λ v. v.exit_epoch) (updated 0 mainnet 2 (leaving ∷ [])) ≡ 8 ∷ []
  pub stopped-queues : map (λ v. v.activation_eligibility_epoch) (updated 0 mainnet 2 (fresh ∷ [])) ≡ 4 ∷ []
  -- a stop of N is the step's own, and above N it is 1
  pub stop_of_n : registry_to_tests 1 mainnet slot 2 (encode (active 7 ∷ [])) (replicate 10 0) ≡ value tt
  pub stop_above_n : registry_to_tests 2 mainnet slot 2 (encode (active 7 ∷ [])) (replicate 10 0) ≡ refused BadShape
  -- an ejection goes behind the exits that there are, and the pair moves with it
  pub behind_the_last : map (λ v. v.exit_epoch) (updated 2 mainnet 2 (until 400 ∷ leaving ∷ [])) ≡ 400 ∷ 400 ∷ []
  pub pair-moved : queue_of (updated 2 mainnet 2 (until 400 ∷ leaving ∷ [])) ≡ record { last_epoch = 400; number = 2 }
  -- an exit epoch of FAR is none
  pub no-exits : queue_of (active 7 ∷ []) ≡ record { last_epoch = 0; number = 0 }
  -- the root of slot 1 is the second
  pub second-root : get_block_root_at_slot mainnet (range 0 64) 2 1 ≡ value (range 32 32)
  -- the checkpoint that was the current one becomes the previous, not the one just justified
  pub current_becomes_previous : previous_justified (process_justification_and_finalization mainnet [] standing (active 7 ∷ [])) ≡ 2
  -- previous epoch 6: a delay of 4 is no leak, one of 5 is
  pub no-leak : is_in_inactivity_leak mainnet 255 2 ≡ value false
  pub leak : is_in_inactivity_leak mainnet 255 1 ≡ value true
  -- the bias is added before the recovery comes off; a score that leaves 64 bits is refused
  pub bias-first : map (λ v. v.inactivity_score) (settle (scored 0) []) ≡ 0 ∷ []
  pub score-over : scored 18_446_744_073_709_551_615 ≡ refused Overflow
  -- a reward, then its penalty
  pub reward_first : bind (apply_delta (with_balance 5 (active 7)) (record { reward = 3; penalty = 10 })) (λ v. value v.balance) ≡ value 0
  -- each by its own effective balance: 31 increments and 32, of a total of 63
  pub by_increments : rewarded (voter 31_999_999_999 7 0 ∷ voter 32_000_000_000 7 0 ∷ []) ≡ 32_006_617_059 ∷ 32_006_830_514 ∷ []
  -- two of three hit the target, and one the head alone
  pub target_and_head : rewarded (active 2 ∷ active 2 ∷ active 4 ∷ []) ≡ 32_000_344_265 ∷ 32_000_344_265 ∷ 31_996_350_791 ∷ []
  -- the total is that of the present epoch: the one who left at its start does not count
  pub total-now : get_flag_index_deltas mainnet slot 2 (active 7 ∷ until 3 ∷ []) 1 (active 7) ≡ value (record { reward = 9_302_046; penalty = 0 })
  -- a total of 2^64
  pub total-over : get_total_active_balance mainnet slot (voter 9_223_372_036_854_775_808 0 0 ∷ voter 9_223_372_036_854_775_808 0 0 ∷ []) ≡ refused Overflow
  -- 3 × 32×10^9 slashed is more than the total, 64×10^9, and the whole effective balance is taken, not more
  pub capped : slashed 2 (96_000_000_000 ∷ []) (due ∷ active 7 ∷ []) ≡ 32_000_000_000 ∷ 32_000_000_000 ∷ []
  -- slashings that add up to 2^64 - 1, and to one more
  pub most-slashed : slashed 1 (18_446_744_073_709_551_614 ∷ 1 ∷ []) (due ∷ active 7 ∷ []) ≡ 32_000_000_000 ∷ 32_000_000_000 ∷ []
  pub slashed-over : process_slashings mainnet 1 slot (18_446_744_073_709_551_615 ∷ 1 ∷ []) (due ∷ []) ≡ refused Overflow
  -- epoch 3, a vector of 5: the place of epoch 4 is reset
  pub reset-next : reset_slashings (with_vector 5) slot (1 ∷ 2 ∷ 3 ∷ 4 ∷ 5 ∷ []) ≡ 1 ∷ 2 ∷ 3 ∷ 4 ∷ 0 ∷ []
  -- the current flags become the previous, and none are left
  pub rotated : process_participation_flag_updates (voter 5 1 6 ∷ []) ≡ voter 5 6 0 ∷ []
  -- a bad entry before a good one
  pub bad_before_good : good_registry (encode (of 2 0 0 far far 7 ∷ active 7 ∷ [])) ≡ false
  -- 02, R-3: under Bellatrix the Altair two are tested besides
  pub both-tested : good_rules (with_quotient 1) ≡ true
  pub altair-tested : good_rules (with_quotient 0) ≡ false
  -- slot and finalized epoch of 2^48; a flag index of 3
  pub slot-tested : registry_tests mainnet 281_474_976_710_656 2 [] [] ≡ refused BadRecord
  pub finalized-tested : registry_tests mainnet slot 281_474_976_710_656 [] [] ≡ refused BadRecord
  pub flag_index_tested : participation_entry_tests mainnet slot 3 3 (encode (active 7 ∷ [])) ≡ refused BadShape
  pub flag_index_of_2 : participation_entry_tests mainnet slot 2 3 (encode (active 7 ∷ [])) ≡ value tt

pub figures : Figures
unfolding filter sum all every range insert sorted maximum encode decode decode_first bind add64 sub64 mul64 sum64 map_checked fold_checked in_order settings_shaped registry_shaped good_settings good_validator good_registry registry_tests participation_entry_tests good_rules good_bellatrix queue_of ahead map_below activated_at activated limited_updates_to registry_to_tests charged integer_squareroot root_within document.get_block_root_at_slot justified_bits finalized_by weighed queue_eligible is_ejected rotate_participation is_active_validator is_eligible_for_activation_queue is_eligible_for_activation compute_epoch_at_slot compute_activation_exit_epoch get_current_epoch get_previous_epoch compute_start_slot_at_epoch get_block_root get_block_root_at_slot get_active_validator_indices get_validator_churn_limit get_total_balance get_total_active_balance increase_balance decrease_balance exit_queue_epoch initiate_validator_exit is_justified root_where weigh_justification_and_finalization get_finality_delay is_in_inactivity_leak is_eligible update_registry_at reset_slashings has_flag is_unslashed_participating get_unslashed_participating_indices get_base_reward_per_increment get_base_reward flag_totals hit_deltas miss_deltas flag_index_deltas get_flag_index_deltas inactivity_penalty_deltas moved_score recovered_score update_inactivity_score process_inactivity_updates apply_delta all_deltas reward_and_penalize process_rewards_and_penalties is_slashing_due slashing_penalty slash process_slashings process_participation_flag_updates process_justification_and_finalization
figures =
    record {
      last-active = refl;
      exited = refl;
      slashed-charged = refl;
      slashed_not_charged = refl;
      slashed_takes_no_part = refl;
      charged-two = refl;
      charged-none = refl;
      charged_at_1 = refl;
      four_let_in = refl;
      not_final_yet = refl;
      fresh_let_in = refl;
      one_of_66_waits = refl;
      the_66th_waits = refl;
      stopped-ejects = refl;
      stopped-queues = refl;
      stop_of_n = refl;
      stop_above_n = refl;
      behind_the_last = refl;
      pair-moved = refl;
      no-exits = refl;
      second-root = refl;
      current_becomes_previous = refl;
      no-leak = refl;
      leak = refl;
      bias-first = refl;
      score-over = refl;
      reward_first = refl;
      by_increments = refl;
      target_and_head = refl;
      total-now = refl;
      total-over = refl;
      capped = refl;
      most-slashed = refl;
      slashed-over = refl;
      reset-next = refl;
      rotated = refl;
      bad_before_good = refl;
      both-tested = refl;
      altair-tested = refl;
      slot-tested = refl;
      finalized-tested = refl;
      flag_index_tested = refl;
      flag_index_of_2 = refl;
    }
