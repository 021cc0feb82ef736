-- Demands 1 and 2 of each call, from its contract.
use mathlib.Core.Path.{◌≡◌, refl, ap, ◌∙◌}
use mathlib.Core.List.{List}
use Prim.Native.Nat.{ℕ}
use lib.ListN.{length}
use Rattle.definitions.specs.Record.{Validator, encode}
use Rattle.definitions.specs.Checked.{Checked, value, refused, code_of}
use Rattle.definitions.specs.Refusals.{after_tests}
use Rattle.agreement.proofs.Restored.{tests-number}
use Rattle.agreement.proofs.Agrees.{Agrees, IsOverflow}
use Rattle.definitions_electra.specs.declared.ExitChurnAnswer.{ExitChurnAnswer}
use Rattle.definitions_electra.specs.declared.PendingDeposit.{PendingDeposit}
use Rattle.definitions_electra.specs.declared.DepositNumbers.{DepositNumbers}
use Rattle.definitions_electra.specs.declared.DepositsAnswer.{DepositsAnswer}
use Rattle.definitions_electra.specs.declared.ConsolidationsAnswer.{ConsolidationsAnswer}
use Rattle.definitions_electra.specs.Record.{PendingConsolidation, ElectraState, encode_deposits, encode_consolidations, decode_consolidations}
use Rattle.definitions_electra.specs.Refusals.{count_of, deposits_of, registry_tests, slashings_tests, deposits_tests, consolidations_tests, effective_balance_tests, exit_tests}
use Rattle.definitions_electra.specs.Calls.{registry_in, over, deposits_answer, consolidations_answer, ChurnCloses, DepositsClose, ConsolidationsClose}
use Rattle.agreement_electra.proofs.Agrees.{registry, initiate_exit, slashings-step, deposits, consolidations, effective-balances}
use Rattle.theorems_electra.specs.Calls.{ChurnCall, DepositsCall, ConsolidationsCall, RegistryCalls, ExitCalls, SlashingsCalls, DepositsCalls, ConsolidationsCalls, EffectiveBalancesCalls}
use Rattle.theorems_electra.proofs.Alike.{Alike}
use Rattle.theorems_electra.proofs.Frames.{slashings_frame, balances_frame, consolidations_frame, deposits_frame, registry_frame, exit_frame, SameDeposits}
use Rattle.theorems_electra.proofs.Numbers.{TestsNumber, electra-call, ByValue, by_value, value_of, churn-code, churn-value}

pub slashings-calls : SlashingsCalls
unfolding slashings_tests
slashings-calls r st opening closing after n d h =
    electra-call registry_in _ _ _ _ (λ q p. tests-number _ _ _ q p) (slashings_frame r st opening d) (λ a b e. ap encode e) (slashings-step r st) h.number h.buffer

pub effective_balances-calls : EffectiveBalancesCalls
unfolding effective_balance_tests
effective_balances-calls r st opening closing after n d h =
    electra-call registry_in _ _ _ _ (λ q p. tests-number _ _ _ q p) (balances_frame r st opening d) (λ a b e. ap encode e) (effective-balances r st) h.number h.buffer

-- registry and exit

churn-call : {R : ElectraState → ElectraState → Type 0} (tests : Checked (Unit {0})) (work text : Checked ElectraState) (document st : ElectraState) → TestsNumber tests → Alike R work text → ((a b : ElectraState) → R a b → (a.altair.validators ≡ b.altair.validators) × (a.churn ≡ b.churn)) → Agrees IsOverflow text document → {opening closing after : List ℕ} {r : ExitChurnAnswer} → ChurnCloses tests work st.churn opening closing after r → ChurnCall tests text document st opening closing after r
churn-call tests work text document st t a same g {r = r} h =
    let code : r.refusal ≡ code_of (after_tests tests work) = ap (λ (x : ExitChurnAnswer). x.refusal) h.answer ∙ churn-code (after_tests tests work) in
    let held : r.churn ≡ value_of (λ s. s.churn) st.churn (after_tests tests work) = ap (λ (x : ExitChurnAnswer). x.churn) h.answer ∙ churn-value (after_tests tests work) st.churn in
    let back = by_value (λ s. s.churn) tests work text document a (λ x y e. (same x y e).1) g code held in
    record {
      registry = electra-call registry_in tests work text document t a (λ x y e. ap encode (same x y e).0) g code h.buffer;
      accepted = back.accepted;
      refused = back.refused;
    }

pub registry-calls : RegistryCalls
unfolding registry_tests
registry-calls r st opening closing after answer d h =
    churn-call _ _ _ _ st (λ q p. tests-number _ _ _ q p) (registry_frame r st opening d) (λ a b e. (e.validators, e.churn)) (registry r st) h

pub exit-calls : ExitCalls
unfolding exit_tests
exit-calls r st index opening after answer d h =
    churn-call _ _ _ _ st (λ q p. tests-number _ _ _ q p) (exit_frame r st index opening d) (λ a b e. (e.validators, e.churn)) (initiate_exit r st index) h

-- pending consolidations

left-code : (m : Checked ElectraState) (lent : List ℕ) → (consolidations_answer m lent).refusal ≡ code_of m
unfolding consolidations_answer
left-code (value st) lent = refl
left-code (refused q) lent = refl

left-value : (m : Checked ElectraState) (lent : List ℕ) → (consolidations_answer m lent).consolidations ≡ value_of (λ st. length st.pending_consolidations) (length (decode_consolidations lent)) m
unfolding consolidations_answer
left-value (value st) lent = refl
left-value (refused q) lent = refl

consolidations-call : {R : ElectraState → ElectraState → Type 0} (tests : Checked (Unit {0})) (work text : Checked ElectraState) (document : ElectraState) → TestsNumber tests → Alike R work text → ((a b : ElectraState) → R a b → (a.altair.validators ≡ b.altair.validators) × (a.pending_consolidations ≡ b.pending_consolidations)) → Agrees IsOverflow text document → {registry pairs registry_before registry_after pairs_before pairs_after : List ℕ} {r : ConsolidationsAnswer} → ConsolidationsClose tests work registry pairs registry_before registry_after pairs_before pairs_after r → ConsolidationsCall tests text document registry pairs registry_before registry_after pairs_before pairs_after r
consolidations-call tests work text document t a same g {registry} {pairs} {registry_before} {registry_after} {pairs_before} {pairs_after} {r} h =
    let m = after_tests tests work in
    let code : r.refusal ≡ code_of m = ap (λ (x : ConsolidationsAnswer). x.refusal) h.answer ∙ left-code m pairs in
    let held : r.consolidations ≡ value_of (λ s. length s.pending_consolidations) (length (decode_consolidations pairs)) m = ap (λ (x : ConsolidationsAnswer). x.consolidations) h.answer ∙ left-value m pairs in
    let queued : List PendingConsolidation → List ℕ = λ cs. over (encode_consolidations cs) pairs_before in
    let back = by_value (λ s. length s.pending_consolidations) tests work text document a (λ x y e. ap length (same x y e).1) g code held in
    record {
      validators = electra-call registry_in tests work text document t a (λ x y e. ap encode (same x y e).0) g code h.validators;
      queue = electra-call (λ s. over (encode_consolidations s.pending_consolidations) pairs_before) tests work text document t a (λ x y e. ap queued (same x y e).1) g code h.queue;
      accepted = back.accepted;
      refused = back.refused;
    }

pub consolidations-calls : ConsolidationsCalls
unfolding consolidations_tests
consolidations-calls r st registry pairs registry_before registry_after pairs_before pairs_after answer d e h =
    consolidations-call _ _ _ _ (λ q p. tests-number _ _ _ q p) (consolidations_frame r st registry pairs d e) (λ a b k. (k.validators, k.consolidations)) (consolidations r st) h

-- pending deposits

module _ (numbers : DepositNumbers) (registry deposits : List ℕ) where
  told-code : (m : Checked ElectraState) → (deposits_answer m numbers registry deposits).refusal ≡ code_of m
  unfolding deposits_answer
  told-code (value st) = refl
  told-code (refused q) = refl

  told-to_consume : (m : Checked ElectraState) → (deposits_answer m numbers registry deposits).deposit_balance_to_consume ≡ value_of (λ st. st.deposit_balance_to_consume) numbers.deposit_balance_to_consume m
  unfolding deposits_answer
  told-to_consume (value st) = refl
  told-to_consume (refused q) = refl

  told-validators : (m : Checked ElectraState) → (deposits_answer m numbers registry deposits).validators ≡ value_of (λ st. length st.altair.validators) (count_of registry) m
  unfolding deposits_answer
  told-validators (value st) = refl
  told-validators (refused q) = refl

  told-deposits : (m : Checked ElectraState) → (deposits_answer m numbers registry deposits).deposits ≡ value_of (λ st. length st.pending_deposits) (deposits_of deposits) m
  unfolding deposits_answer
  told-deposits (value st) = refl
  told-deposits (refused q) = refl

module _ (tests : Checked (Unit {0})) (work text : Checked ElectraState) (document : ElectraState) (t : TestsNumber tests) (a : Alike SameDeposits work text) (g : Agrees IsOverflow text document) {numbers : DepositNumbers} {registry compounding queue registry_before registry_after compounding_before compounding_after queue_before queue_after : List ℕ} {r : DepositsAnswer} (h : DepositsClose tests work numbers registry compounding queue registry_before registry_after compounding_before compounding_after queue_before queue_after r) where
  abbrev m : Checked ElectraState
  m = after_tests tests work

  code : r.refusal ≡ code_of m
  code = ap (λ (x : DepositsAnswer). x.refusal) h.answer ∙ told-code numbers registry queue m

  to_consume : ByValue (λ s. s.deposit_balance_to_consume) document numbers.deposit_balance_to_consume r.deposit_balance_to_consume r.refusal
  to_consume = by_value (λ s. s.deposit_balance_to_consume) tests work text document a (λ x y e. e.to_consume) g code (ap (λ (x : DepositsAnswer). x.deposit_balance_to_consume) h.answer ∙ told-to_consume numbers registry queue m)

  validators : ByValue (λ s. length s.altair.validators) document (count_of registry) r.validators r.refusal
  validators = by_value (λ s. length s.altair.validators) tests work text document a (λ x y e. ap length e.validators) g code (ap (λ (x : DepositsAnswer). x.validators) h.answer ∙ told-validators numbers registry queue m)

  queued : ByValue (λ s. length s.pending_deposits) document (deposits_of queue) r.deposits r.refusal
  queued = by_value (λ s. length s.pending_deposits) tests work text document a (λ x y e. ap length e.deposits) g code (ap (λ (x : DepositsAnswer). x.deposits) h.answer ∙ told-deposits numbers registry queue m)

  deposits-call : DepositsCall tests text document numbers registry compounding queue registry_before registry_after compounding_before compounding_after queue_before queue_after r
  deposits-call =
      let of_validators : List Validator → List ℕ = λ vs. over (encode vs) registry_before in
      let of_compounding : List ℕ → List ℕ = λ cs. over cs compounding_before in
      let of_queue : List PendingDeposit → List ℕ = λ ds. over (encode_deposits ds) queue_before in
      record {
        validators = electra-call (λ s. over (registry_in s) registry_before) tests work text document t a (λ x y e. ap of_validators e.validators) g code h.validators;
        credentials = electra-call (λ s. over s.compounding compounding_before) tests work text document t a (λ x y e. ap of_compounding e.compounding) g code h.credentials;
        queue = electra-call (λ s. over (encode_deposits s.pending_deposits) queue_before) tests work text document t a (λ x y e. ap of_queue e.deposits) g code h.queue;
        accepted = λ z. record { to_consume_is = to_consume.accepted z; validators_are = validators.accepted z; deposits_are = queued.accepted z };
        refused = λ z. record { to_consume_is = to_consume.refused z; validators_are = validators.refused z; deposits_are = queued.refused z };
      }

pub deposits-calls : DepositsCalls
unfolding deposits_tests
deposits-calls r st registry queue registry_before registry_after compounding_before compounding_after queue_before queue_after places answer d k e h =
    deposits-call _ _ _ _ (λ q p. tests-number _ _ _ q p) (deposits_frame r st registry queue d k e) (deposits r st) h
