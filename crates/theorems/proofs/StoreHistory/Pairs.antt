-- Each call tests the pair of the record that it finds, and hands back that of the registry that it leaves.
use mathlib.Core.Path.{◌≡◌, refl, sym, ap}
use mathlib.Core.Bool.{Bool, true, false, cond}
use mathlib.Core.List.{List, [], ◌∷◌}
use Prim.Native.Nat.{ℕ}
use native.Mathlib.Omega.{arith}
use lib.Dec.{eqb}
use Rattle.definitions.specs.declared.ExitQueue.{ExitQueue}
use Rattle.definitions.specs.declared.Rules.{Rules}
use Rattle.definitions.specs.Record.{Validator, BeaconState, decode}
use Rattle.definitions.specs.Checked.{Checked, value, refused, bind, code_of}
use Rattle.definitions.specs.declared.Refusal.TheVariants.{BadShape, WrongQueue}
use Rattle.definitions.specs.Refusals.{in_order, registry_shaped, good_registry, after_tests, closing_buffer}
use Rattle.definitions.specs.ExitQueue.{queue_of, is_queue_of, queue_test}
use Rattle.definitions.specs.Close.{close_tests}
use Rattle.definitions_close.specs.declared.RunningAnswer.{RunningAnswer}
use Rattle.definitions_close.specs.Amounts.{amounts_shaped}
use Rattle.definitions_close.specs.FullClose.{FullCall, full_tests, limited_full_tests}
use Rattle.theorems.proofs.FullClose.ByNumber.{full-by_number}
use Rattle.definitions_close.specs.CloseBySteps.{StepCall, in_turn, has_ended, so_far, found, step_tests, stepped, goes_on, running_after, unwritten, step_in_turn, close_step, says_ended, turned_away}
use Rattle.definitions_close.specs.Orders.{NinthCall, ninth_tests, carries_out, ninth_in_turn, carry_out, untried}
use Rattle.definitions_close.specs.QueueCalls.{found_queue, queue_after}
use Rattle.definitions_close.specs.StoreClose.{call_by, rules_for, close_by, store_close}
use Rattle.definitions_file.specs.File.{contents_of, queue_in, file_of, read_tests, read_file, read, write_tests, written}
use Rattle.laws_file.proofs.Tests.{write_good, is-file}
use Rattle.laws_file.proofs.Passed.{read-passed}
use Rattle.definitions_close.specs.StoreSteps.{StoreStepCall, step_of, step_by, store_so_far, store_found, step_refused, store_step_by, store_step, StoreNinthCall, ninth_of, ninth_by, ninth_rules, carry_by, store_carry_out}
use Rattle.laws.proofs.Checked.{not_value, bound, number_not_zero}
use Rattle.laws.proofs.Encode.{decode-encode}
use Rattle.laws.proofs.Queue.{is-queue}
use Rattle.theorems.specs.StoreHistory.Pairs.{Pairs, Accepted, ClosePairs, StepPairs, NinthPairs, ReadPairs, WritePairs, FoundPairs}

-- a call of a close by steps
abbrev Called : RunningAnswer → ExitQueue → List ℕ → List ℕ → Type 0
Called a queue before after = Pairs (Accepted a) queue before a.running.answer.queue after

pair_is : (q : ExitQueue) (vs : List Validator) {u : Unit {0}} → queue_test q vs ≡ value u → q ≡ queue_of vs
unfolding queue_test
pair_is q vs e = go (is_queue_of q vs) refl e
  where
    go : (t : Bool) → is_queue_of q vs ≡ t → {u : Unit {0}} → cond t (value tt) (refused WrongQueue) ≡ value u → q ≡ queue_of vs
    go true p e = is-queue q vs p
    go false p e = absurd (not_value e)

full-pair : (c : FullCall) {u : Unit {0}} → full_tests c ≡ value u → c.queue ≡ queue_of (decode c.call.registry)
unfolding limited_full_tests
full-pair c e = go (amounts_shaped c.call.registry c.amounts) e
  where
    go : (t : Bool) {u : Unit {0}} → cond t (bind (close_tests c.call) (λ _. queue_test c.queue (decode c.call.registry))) (refused BadShape) ≡ value u → c.queue ≡ queue_of (decode c.call.registry)
    go true e = pair_is c.queue (decode c.call.registry) (bound (close_tests c.call) (λ _. queue_test c.queue (decode c.call.registry)) e).then
    go false e = absurd (not_value e)

-- a step in turn
in_turn_lem : (c : StepCall) (t : Checked (Unit {0})) (w : Checked BeaconState) → step_tests c ≡ t → stepped c ≡ w → Called (step_in_turn c).answer (found c).queue (found c).call.registry (step_in_turn c).closing_registry
unfolding step_in_turn step_tests after_tests bind running_after goes_on closing_buffer
in_turn_lem c (refused r) w p q = record { accepts = λ z. absurd (number_not_zero r (rw p at z.0)); hands_back = λ z. absurd (number_not_zero r (rw p at z.0)) }
in_turn_lem c (value u) (refused r) p q = record { accepts = λ z. absurd (number_not_zero r (rw (p, q) at z.0)); hands_back = λ z. absurd (number_not_zero r (rw (p, q) at z.0)) }
in_turn_lem c (value u) (value st) p q = record { accepts = λ _. full-pair (found c) p; hands_back = λ _. rw (p, q, decode-encode st.validators) }

step-pair : (c : StepCall) → Called (close_step c).answer (found c).queue (found c).call.registry (close_step c).closing_registry
unfolding close_step unwritten
step-pair c = go (has_ended c.running) (in_turn c)
  where
    go : (e t : Bool) → let out = cond e (unwritten (says_ended c.running) c) (cond t (step_in_turn c) (unwritten (turned_away BadShape c.running) c)) in Called out.answer (found c).queue (found c).call.registry out.closing_registry
    go true t = record { accepts = λ z. absurd (omega (arith, z.1)); hands_back = λ z. absurd (omega (arith, z.1)) }
    go false true = in_turn_lem c (step_tests c) (stepped c) refl refl
    go false false = record { accepts = λ z. absurd (omega (arith, z.0)); hands_back = λ z. absurd (omega (arith, z.0)) }

-- the ninth call
ninth-tested : (c : NinthCall) (t : Checked (Unit {0})) → ninth_tests c ≡ t → Called (ninth_in_turn c t).answer c.running.answer.queue c.closing_registry (ninth_in_turn c t).closing_registry
unfolding ninth_in_turn ninth_tests carries_out
ninth-tested c (refused r) p = record { accepts = λ z. absurd (number_not_zero r z.0); hands_back = λ z. absurd (number_not_zero r z.0) }
ninth-tested c (value u) p =
    record {
      accepts = λ _. pair_is c.running.answer.queue (decode c.closing_registry) (bound _ (λ _. queue_test c.running.answer.queue (decode c.closing_registry)) p).then;
      hands_back = λ _. sym (ap queue_of (decode-encode _));
    }

ninth-pair : (c : NinthCall) → Called (carry_out c).answer c.running.answer.queue c.closing_registry (carry_out c).closing_registry
unfolding carry_out
ninth-pair c = go (has_ended c.running) (eqb c.running.done 8)
  where
    go : (e t : Bool) → let out = cond e (untried (says_ended c.running) c) (cond t (ninth_in_turn c (ninth_tests c)) (untried (turned_away BadShape c.running) c)) in Called out.answer c.running.answer.queue c.closing_registry out.closing_registry
    go true t = record { accepts = λ z. absurd (omega (arith, z.1)); hands_back = λ z. absurd (omega (arith, z.1)) }
    go false true = ninth-tested c (ninth_tests c) refl
    go false false = record { accepts = λ z. absurd (omega (arith, z.0)); hands_back = λ z. absurd (omega (arith, z.0)) }

-- with a store

same_queue : (c : StoreStepCall) (rules : Rules) → (found (step_by c rules)).queue ≡ (store_found c).queue
unfolding found store_found
same_queue c rules = go (eqb c.running.done 0)
  where
    go : (t : Bool) → (cond t (step_by c rules).whole (so_far c.running (step_by c rules).whole)).queue ≡ (cond t c.whole (store_so_far c.running c.whole)).queue
    go true = refl
    go false = refl

same-registry : (c : StoreStepCall) (rules : Rules) → (found (step_by c rules)).call.registry ≡ (store_found c).registry
unfolding found store_found
same-registry c rules = go (eqb c.running.done 0)
  where
    go : (t : Bool) → (cond t (step_by c rules).whole (so_far c.running (step_by c rules).whole)).call.registry ≡ (cond t c.whole (store_so_far c.running c.whole)).registry
    go true = refl
    go false = refl

step_by_lem : (c : StoreStepCall) (m : Checked Rules) → Called (store_step_by c m).answer (store_found c).queue (store_found c).registry (store_step_by c m).closing_registry
unfolding store_step_by step_refused unwritten
step_by_lem c (value rules) = rw (same_queue c rules, same-registry c rules) at (step-pair (step_by c rules))
step_by_lem c (refused r) = record { accepts = λ z. absurd (number_not_zero r z.0); hands_back = λ z. absurd (number_not_zero r z.0) }

pub step-pairs : StepPairs
unfolding store_step unwritten
step-pairs c = go (has_ended c.running) (in_turn (step_of c))
  where
    go : (e t : Bool) → let out = cond e (unwritten (says_ended c.running) (step_of c)) (cond t (store_step_by c (rules_for (store_found c))) (unwritten (turned_away BadShape c.running) (step_of c))) in Called out.answer (store_found c).queue (store_found c).registry out.closing_registry
    go true t = record { accepts = λ z. absurd (omega (arith, z.1)); hands_back = λ z. absurd (omega (arith, z.1)) }
    go false true = step_by_lem c (rules_for (store_found c))
    go false false = record { accepts = λ z. absurd (omega (arith, z.0)); hands_back = λ z. absurd (omega (arith, z.0)) }

carry-by : (c : StoreNinthCall) (m : Checked Rules) → Called (carry_by c m).answer c.running.answer.queue c.closing_registry (carry_by c m).closing_registry
unfolding carry_by
carry-by c (value rules) = ninth-pair (ninth_by c rules)
carry-by c (refused r) = record { accepts = λ z. absurd (number_not_zero r z.0); hands_back = λ z. absurd (number_not_zero r z.0) }

pub ninth-pairs : NinthPairs
unfolding store_carry_out
ninth-pairs c = go (has_ended c.running) (eqb c.running.done 8)
  where
    go : (e t : Bool) → let out = cond e (untried (says_ended c.running) (ninth_of c)) (cond t (carry_by c (ninth_rules c)) (untried (turned_away BadShape c.running) (ninth_of c))) in Called out.answer c.running.answer.queue c.closing_registry out.closing_registry
    go true t = record { accepts = λ z. absurd (omega (arith, z.1)); hands_back = λ z. absurd (omega (arith, z.1)) }
    go false true = carry-by c (ninth_rules c)
    go false false = record { accepts = λ z. absurd (omega (arith, z.0)); hands_back = λ z. absurd (omega (arith, z.0)) }

-- The close

pub close-pairs : ClosePairs
unfolding store_close close_by
close-pairs c = go (rules_for c)
  where
    go : (m : Checked Rules) → let o = close_by c m in Pairs (o.refusal ≡ 0) c.queue c.registry o.queue o.closing_registry
    go (value rules) = let h = full-by_number (call_by c rules) in record { accepts = λ z. (h.accepted z).lent.queue; hands_back = λ z. (h.accepted z).queue }
    go (refused r) = record { accepts = λ z. absurd (number_not_zero r z); hands_back = λ z. absurd (number_not_zero r z) }

-- Files

pub read_pairs : ReadPairs
unfolding read read_file bind
read_pairs bytes registry slashings = go (read_tests bytes registry slashings) refl
  where
    true_pair : read_tests bytes registry slashings ≡ value tt → queue_in bytes ≡ queue_of (decode (contents_of bytes).registry)
    true_pair e = is-queue (queue_in bytes) (decode (contents_of bytes).registry) (read-passed bytes registry slashings {c = contents_of bytes} (rw e)).queue

    go : (t : Checked (Unit {0})) → read_tests bytes registry slashings ≡ t → let o = read bytes registry slashings in Pairs (o.refusal ≡ 0) (queue_in bytes) (contents_of bytes).registry o.queue o.contents.registry
    go (value u) e = rw e (record { accepts = λ _. true_pair e; hands_back = λ _. true_pair e })
    go (refused r) e = rw e (record { accepts = λ z. absurd (number_not_zero r z); hands_back = λ z. absurd (number_not_zero r z) })

pub write_pairs : WritePairs
write_pairs c queue file z = go (write_tests c queue file) refl z
  where
    go : (t : Checked (Unit {0})) → write_tests c queue file ≡ t → code_of t ≡ 0 → (queue ≡ queue_of (decode c.registry)) × (written c queue file ≡ file_of c queue)
    go (value u) e z = (is-queue queue (decode c.registry) (write_good c queue file e).queue, is-file c queue file e)
    go (refused r) e z = absurd (number_not_zero r z)

pub found-pairs : FoundPairs
unfolding found_queue after_tests bind queue_after
found-pairs registry = go (in_order (registry_shaped registry ∷ []) [] (good_registry registry ∷ []))
  where
    go : (t : Checked (Unit {0})) → code_of (after_tests t (value (decode registry))) ≡ 0 → queue_after (after_tests t (value (decode registry))) (record { last_epoch = 0; number = 0 }) ≡ queue_of (decode registry)
    go (value u) z = refl
    go (refused r) z = absurd (number_not_zero r z)
