-- Demands 1 and 2 of the whole close under Electra: what comes back and what every lent list holds, by the number that it answers. Document 03, F-2 and
-- F-3: "total, six numbers, what each buffer holds", and "the record that the text defines".
use Rattle.std.specs.Prelude.{◌≡◌, [], ◌∷◌, ◌*◌, length, replicate}
use Rattle.definitions.specs.Record.{encode, decode}
use Rattle.definitions.specs.Checked.{value, code_of}
use Rattle.definitions.specs.Raised.{none_raised, raised_totals}
use Rattle.definitions_close.specs.FinalizingTest.{finalizing_test}
use Rattle.definitions_electra.specs.Record.{ElectraState, decode_consolidations, encode_deposits, encode_consolidations}
use Rattle.definitions_electra.specs.Refusals.{count_of, deposits_of}
use Rattle.definitions_electra.specs.Calls.{over}
use Rattle.definitions_electra.specs.Document.Electra.EpochProcessing as document
use Rattle.definitions_electra.specs.Evaluated.Electra.EpochProcessing as evaluated
use Rattle.definitions_electra_close.specs.Close.{ElectraCall, electra_state_of, electra_tests, electra_close}
use Rattle.agreement.specs.Restored.{OneOf}

-- the answer beside a refusal: all as it was handed in
pub record Unanswered (c : ElectraCall) : Type 0 where
  pub finality : (electra_close c).answer.finality ≡ c.finality
  pub raised : (electra_close c).answer.raised ≡ none_raised
  pub test : (electra_close c).answer.test ≡ 0
  pub validators : (electra_close c).answer.validators ≡ count_of c.registry
  pub deposits : (electra_close c).answer.deposits ≡ deposits_of c.deposits
  pub consolidations : (electra_close c).answer.consolidations ≡ length (decode_consolidations c.consolidations)
  pub to_consume : (electra_close c).answer.deposit_balance_to_consume ≡ c.numbers.deposit_balance_to_consume
  pub churn : (electra_close c).answer.churn ≡ c.churn

-- 1, 2 and 3: "nothing written"
pub record Untouched (c : ElectraCall) : Type 0 where
  pub answer : Unanswered c
  pub registry : (electra_close c).closing_registry ≡ c.closing_registry
  pub compounding : (electra_close c).closing_compounding ≡ c.closing_compounding
  pub slashings : (electra_close c).closing_slashings ≡ c.closing_slashings
  pub deposits : (electra_close c).closing_deposits ≡ c.closing_deposits
  pub consolidations : (electra_close c).closing_consolidations ≡ c.closing_consolidations
  pub amounts : (electra_close c).amounts ≡ c.amounts

-- 4 and 5: "the opening in all of them (the registry's first 10N numbers, the rest untouched)"; zeros in the amounts of the N
pub record Opening (c : ElectraCall) : Type 0 where
  pub answer : Unanswered c
  pub registry : (electra_close c).closing_registry ≡ over c.registry c.closing_registry
  pub compounding : (electra_close c).closing_compounding ≡ over c.compounding c.closing_compounding
  pub slashings : (electra_close c).closing_slashings ≡ c.slashings
  pub deposits : (electra_close c).closing_deposits ≡ over c.deposits c.closing_deposits
  pub consolidations : (electra_close c).closing_consolidations ≡ over c.consolidations c.closing_consolidations
  pub amounts : (electra_close c).amounts ≡ over (replicate (12 * count_of c.registry) 0) c.amounts

-- 0: the record that the document defines, at the front of the closing buffers, and what stands behind it untouched
pub record Accepted (c : ElectraCall) : Type 0 where
  -- the text evaluated in 64 bits gives it, and it is the document's
  pub state : ElectraState
  pub gave : evaluated.process_epoch c.rules (electra_state_of c) ≡ value state
  pub document : document.process_epoch c.rules (electra_state_of c) ≡ state
  pub finality : (electra_close c).answer.finality ≡ state.altair.finality
  pub raised : (electra_close c).answer.raised ≡ raised_totals c.rules.settings c.finality.slot (decode c.registry)
  pub test : (electra_close c).answer.test ≡ finalizing_test c.rules.settings c.finality (value state.altair.finality)
  pub validators : (electra_close c).answer.validators ≡ length state.altair.validators
  pub left : (electra_close c).answer.deposits ≡ length state.pending_deposits
  pub rest : (electra_close c).answer.consolidations ≡ length state.pending_consolidations
  pub to_consume : (electra_close c).answer.deposit_balance_to_consume ≡ state.deposit_balance_to_consume
  pub churn : (electra_close c).answer.churn ≡ state.churn
  pub registry : (electra_close c).closing_registry ≡ over (encode state.altair.validators) c.closing_registry
  pub compounding : (electra_close c).closing_compounding ≡ over state.compounding c.closing_compounding
  pub slashings : (electra_close c).closing_slashings ≡ state.altair.slashings
  pub deposits : (electra_close c).closing_deposits ≡ over (encode_deposits state.pending_deposits) c.closing_deposits
  pub consolidations : (electra_close c).closing_consolidations ≡ over (encode_consolidations state.pending_consolidations) c.closing_consolidations

-- of every call c, whose outcome o is `electra_close c`
pub record ElectraCloseCall (c : ElectraCall) : Type 0 where
  pub number : OneOf (electra_close c).answer.refusal (0 ∷ 1 ∷ 2 ∷ 3 ∷ 4 ∷ 5 ∷ [])
  pub accepted : (electra_close c).answer.refusal ≡ 0 → Accepted c
  pub untouched : OneOf (electra_close c).answer.refusal (1 ∷ 2 ∷ 3 ∷ []) → Untouched c
  pub opening : OneOf (electra_close c).answer.refusal (4 ∷ 5 ∷ []) → Opening c
  -- "for no other cause": where the tests pass it is refused where the text in 64 bits is, under that number
  pub cause : electra_tests c ≡ value tt → (electra_close c).answer.refusal ≡ code_of (evaluated.process_epoch c.rules (electra_state_of c))
