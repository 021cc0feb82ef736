-- What the call leaves in both closing buffers, and answers.
use Rattle.std.proofs.Common.{◌≡◌, ℕ, zero, suc, ◌+◌, ◌-◌, ◌*◌, ◌/◌, ◌≤◌, true, List, [], ◌∷◌, ◌++◌, length, take, drop, sym, refl, ap, ◌∙◌, arith, length-drop, take_all}
use Rattle.definitions.specs.Record.{encode, decode}
use Rattle.definitions.specs.declared.Refusal.{Refusal}
use Rattle.definitions.specs.Checked.{Checked, value, refused, number_of, bind}
use Rattle.definitions.specs.Document.Phase0.Helpers.{get_current_epoch}
use Rattle.definitions.specs.Refusals.{after_tests, closing_buffer}
use Rattle.laws.specs.Bounds.{Passed}
use Rattle.laws.proofs.Bounds.{bounds}
use Rattle.laws.proofs.Checked.{not_value, value_same, refused_same}
use Rattle.laws.proofs.Fits.{add64-fits}
use Rattle.refusals.proofs.Answers.{after-refused, closing-untouched}
use Rattle.definitions_electra.specs.declared.ElectraRules.{ElectraRules}
use Rattle.definitions_electra.specs.Record.{ElectraState, encode_consolidations, decode_consolidations, first_consolidations, with_consolidations}
use Rattle.definitions_electra.specs.Document.Electra.EpochProcessing.{Consolidating}
use Rattle.definitions_electra.specs.Evaluated.Electra.EpochProcessing.{process_pending_consolidations}
use Rattle.definitions_electra.specs.Refusals.{indices_shaped}
use Rattle.definitions_electra.specs.Calls.{lent_finality, lent_state, no_churn, no_deposit_numbers, over, registry_in, consolidations_work, consolidations_answer, ConsolidationsClose}
use Rattle.laws_electra.proofs.Consolidations.{dropped, length_pairs}
use Rattle.electra_consolidations.specs.Consolidations.{placed, consolidations, Consolidates}

-- The rest of the queue, as numbers

rest-first : (k m : ℕ) (ps : List ℕ) → k ≤ m → drop k (first_consolidations m ps) ≡ first_consolidations (m - k) (drop (2 * k) ps)
unfolding first_consolidations
rest-first zero m ps l = let e : m - 0 ≡ m = omega arith in rw e
rest-first (suc k) zero ps l = absurd (omega arith)
rest-first (suc k) (suc m) ps l =
    let e : suc m - suc k ≡ m - k = omega arith in
    rw e (rest-first k m (drop 2 ps) (omega arith) ∙ ap (first_consolidations (m - k)) (dropped k ps))

encode-first : (m : ℕ) (ps : List ℕ) → length ps ≡ 2 * m → encode_consolidations (first_consolidations m ps) ≡ ps
unfolding encode_consolidations first_consolidations
encode-first zero [] h = refl
encode-first zero (p ∷ ps) h = absurd (omega arith)
encode-first (suc m) [] h = absurd (omega arith)
encode-first (suc m) (p ∷ []) h = absurd (omega arith)
encode-first (suc m) (p ∷ q ∷ ps) h = ap (λ (t : List ℕ). p ∷ q ∷ t) (encode-first m ps (omega arith))

pub rest-encoded : (k : ℕ) (ps : List ℕ) → length ps ≡ 2 * (length ps / 2) → k ≤ length ps / 2 → encode_consolidations (drop k (decode_consolidations ps)) ≡ drop (2 * k) ps
unfolding decode_consolidations
rest-encoded k ps h l = ap encode_consolidations (rest-first k (length ps / 2) ps l) ∙ encode-first (length ps / 2 - k) (drop (2 * k) ps) (length-drop (2 * k) ps ∙ omega arith)

-- the front of a closing queue came back as e
pub kept : (from : ℕ) (queue closing : List ℕ) {e : List ℕ} → from ≤ length queue → e ≡ take (length queue - from) (drop from queue) → take 0 closing ++ (e ++ drop (length queue - from - 0) (drop 0 closing)) ≡ over (drop from queue) closing
kept from queue closing l h =
    let f = h ∙ take_all (length queue - from) (drop from queue) (omega (arith, length-drop from queue)) in
    let z : length queue - from - 0 ≡ length queue - from = omega arith in
    rw (f, length-drop from queue, z)

pub placed_of : (registry queue : List ℕ) → indices_shaped registry queue ≡ true → placed (length registry / 10) queue ≡ true
unfolding indices_shaped placed
placed_of registry queue e = e

-- The call's work is the text's loop from the lent lists

module _ (r : ElectraRules) (state_slot : ℕ) (registry queue : List ℕ) where
  abbrev lent : ElectraState
  lent = lent_state (lent_finality state_slot 0) (decode registry) [] [] no_churn no_deposit_numbers [] (decode_consolidations queue)

  abbrev closed : Consolidating → ElectraState
  closed p = with_consolidations p.validators (drop p.next_pending_consolidation (decode_consolidations queue)) lent

  abbrev next_epoch : ℕ
  next_epoch = get_current_epoch r.settings state_slot + 1

  work-is : Passed r.settings state_slot → consolidations_work r state_slot registry queue ≡ bind (consolidations next_epoch (decode registry) queue) (λ p. value (closed p))
  unfolding consolidations_work process_pending_consolidations consolidations bind
  work-is p = rw (add64-fits (get_current_epoch r.settings state_slot) 1 (bounds r.settings state_slot p).next_epoch)

  module _ (tests : Checked (Unit {0})) {before queue_before : List ℕ} {x : Checked (Unit {0})} (e : x ≡ tests) where
    -- a test refused
    pub call-refused : {p : Refusal} → x ≡ refused p → ConsolidationsClose tests (consolidations_work r state_slot registry queue) registry queue before before queue_before queue_before (record { refusal = number_of p; consolidations = length queue / 2 })
    unfolding consolidations_answer
    call-refused z =
        let w = consolidations_work r state_slot registry queue in
        record {
          answer = rw (after-refused tests w e z, length_pairs queue);
          validators = sym (closing-untouched registry_in tests w registry before e z);
          queue = sym (closing-untouched _ tests w _ queue_before e z);
        }

    -- the loop ran on a copy
    module _ (z : x ≡ value tt) (s : Passed r.settings state_slot) {xs queue_after : List ℕ} {done : Checked ℕ} (h : Consolidates (consolidations next_epoch (decode registry) queue) (length queue / 2) xs done) where
      -- the rest of the queue was kept
      pub call-done : {count : ℕ} → length queue ≡ 2 * (length queue / 2) → done ≡ value count → queue_after ≡ over (drop (2 * count) queue) queue_before → ConsolidationsClose tests (consolidations_work r state_slot registry queue) registry queue before xs queue_before queue_after (record { refusal = 0; consolidations = length queue / 2 - count })
      unfolding after_tests bind closing_buffer consolidations_answer
      call-done {count} twos d rest = rw (sym e ∙ z, work-is s) (go (consolidations next_epoch (decode registry) queue) (sym h.is ∙ d) h.held)
        where
          go : (m : Checked Consolidating) → bind m (λ p. value p.next_pending_consolidation) ≡ value count → ((p : Consolidating) → m ≡ value p → xs ≡ encode p.validators) → ConsolidationsClose (value tt) (bind m (λ p. value (closed p))) registry queue before xs queue_before queue_after (record { refusal = 0; consolidations = length queue / 2 - count })
          go (refused p) q held = absurd (not_value q)
          go (value p) q held =
              let k = value_same q in
              let many = length-drop p.next_pending_consolidation (decode_consolidations queue) in
              record {
                answer = rw (many, length_pairs queue, k);
                validators = held p refl;
                queue = rest ∙ rw (← rest-encoded count queue twos (h.most count d)) (ap (λ (i : ℕ). over (encode_consolidations (drop i (decode_consolidations queue))) queue_before) (sym k));
              }

      -- it refused: the opening is put back, and the whole queue kept
      pub call-undone : {p : Refusal} {after : List ℕ} {many : ℕ} → done ≡ refused p → after ≡ registry → queue_after ≡ over (drop 0 queue) queue_before → many ≡ length queue / 2 → ConsolidationsClose tests (consolidations_work r state_slot registry queue) registry queue before after queue_before queue_after (record { refusal = number_of p; consolidations = many })
      unfolding after_tests bind closing_buffer consolidations_answer
      call-undone {p} {after} d back rest all = rw (all, sym e ∙ z, work-is s) (go (consolidations next_epoch (decode registry) queue) (sym h.is ∙ d))
        where
          go : (m : Checked Consolidating) → bind m (λ p. value p.next_pending_consolidation) ≡ refused p → ConsolidationsClose (value tt) (bind m (λ p. value (closed p))) registry queue before after queue_before queue_after (record { refusal = number_of p; consolidations = length queue / 2 })
          go (value q) d = absurd (not_value (sym d))
          go (refused q) d = let same = refused_same d in rw same (record { answer = rw (length_pairs queue); validators = back; queue = rest })
