-- 02, R-8, of the exit queue's pair: "It is true of every record that a call accepts, or hands back unrefused." Of each call that is lent a record:
-- the close, the steps and the ninth call of a close by steps, and files. Those on a shelf are in Shelf/, the registry step and the exit of one
-- validator in FullClose/QueueCalls.antt.
use Rattle.std.specs.Prelude.{◌≡◌, List, ℕ}
use Rattle.definitions.specs.declared.ExitQueue.{ExitQueue}
use Rattle.definitions.specs.Record.{decode}
use Rattle.definitions.specs.Checked.{code_of}
use Rattle.definitions.specs.ExitQueue.{queue_of}
use Rattle.definitions_close.specs.QueueCalls.{found_queue}
use Rattle.definitions_close.specs.declared.RunningAnswer.{RunningAnswer}
use Rattle.definitions_close.specs.StoreClose.{StoreCall, store_close}
use Rattle.definitions_close.specs.StoreSteps.{StoreStepCall, store_found, store_step, StoreNinthCall, store_carry_out}
use Rattle.definitions_file.specs.File.{Contents, contents_of, queue_in, file_of, read, write_tests, written}

-- a record is accepted with the pair `queue` of its register `before`, and handed back with the pair `back` of the register `after`
pub record Pairs (unrefused : Type 0) (queue : ExitQueue) (before : List ℕ) (back : ExitQueue) (after : List ℕ) : Type 0 where
  pub accepts : unrefused → queue ≡ queue_of (decode before)
  pub hands_back : unrefused → back ≡ queue_of (decode after)

-- a call of a close by steps that is not refused, and does not say that the close has ended
abbrev pub Accepted : RunningAnswer → Type 0
Accepted a = (a.refusal ≡ 0) × (a.ended ≡ 0)

abbrev pub ClosePairs : Type 0
ClosePairs = (c : StoreCall) → let o = store_close c in Pairs (o.refusal ≡ 0) c.queue c.registry o.queue o.closing_registry

-- the record that a step finds: the opening at the first, and then the record so far
abbrev pub StepPairs : Type 0
StepPairs =
    (c : StoreStepCall) → let o = store_step c in
    Pairs (Accepted o.answer) (store_found c).queue (store_found c).registry o.answer.running.answer.queue o.closing_registry

abbrev pub NinthPairs : Type 0
NinthPairs =
    (c : StoreNinthCall) → let o = store_carry_out c in
    Pairs (Accepted o.answer) c.running.answer.queue c.closing_registry o.answer.running.answer.queue o.closing_registry

abbrev pub ReadPairs : Type 0
ReadPairs =
    (bytes registry slashings : List ℕ) → let o = read bytes registry slashings in
    Pairs (o.refusal ≡ 0) (queue_in bytes) (contents_of bytes).registry o.queue o.contents.registry

-- what is written is the record with that pair
abbrev pub WritePairs : Type 0
WritePairs =
    (c : Contents) (queue : ExitQueue) (file : List ℕ) → code_of (write_tests c queue file) ≡ 0
    → (queue ≡ queue_of (decode c.registry)) × (written c queue file ≡ file_of c queue)

-- the pair of a register that is lent alone
abbrev pub FoundPairs : Type 0
FoundPairs = (registry : List ℕ) → (found_queue registry).refusal ≡ 0 → (found_queue registry).queue ≡ queue_of (decode registry)
