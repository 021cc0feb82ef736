-- R-8, of the exit queue's pair: "It is true of every record that a call accepts, or hands back unrefused." Of each call that is lent a record, by its
-- own contract, `Learnt`. The registry step and the exit of one validator are in Demand2.antt, a shelf in ShelfCalls.antt.
use mathlib.Core.Path.{◌≡◌, sym, ap, ◌∙◌, subst}
use mathlib.Core.List.{List}
use Prim.Native.Nat.{ℕ}
use contract.Lifetimes.{Lfts}
use borrow.Fn.Kinds.{Dens, res_t, ended_of}
use denote.Triple.Clauses.{AtExit}
use Rattle.definitions.specs.declared.QueueAnswer.{QueueAnswer}
use Rattle.definitions.specs.Record.{decode}
use Rattle.definitions.specs.ExitQueue.{queue_of}
use Rattle.definitions_file.specs.File.{contents_of, queue_in, file_of, contents_with}
use Rattle.definitions_close.specs.FullClose.{FullOutcome}
use Rattle.definitions_close.specs.CloseBySteps.{StepOutcome}
use Rattle.definitions_close.specs.Orders.{NinthOutcome}
use Rattle.definitions_close.specs.StoreSteps.{store_found}
use Rattle.theorems.specs.StoreHistory.Pairs.{Pairs, Accepted}
use Rattle.theorems.proofs.StoreHistory.Pairs.{close-pairs, step-pairs, ninth-pairs, read_pairs, write_pairs, found-pairs}
use Rattle.exports.proofs.Closes as closes
use Rattle.exports.proofs.StepCalls.{StepCame, step_of, step_back, NinthCame, ninth_of, ninth_back}
use Rattle.exports.proofs.files.altair_read_file.Kinds as read_kinds
use Rattle.exports.proofs.files.altair_read_file.Reads as reading
use Rattle.exports.proofs.files.altair_write_file.Kinds as write_kinds
use Rattle.exports.proofs.files.altair_write_file.Reads as writing
use Rattle.exports.proofs.phase0_helpers.altair_exit_queue.Kinds as queue_kinds
use Rattle.exports.proofs.phase0_helpers.altair_exit_queue.Reads as finding

pub pairs_altair_close :
    (c : closes.Came) → let call = closes.called c in let o = closes.came_back c in
    Pairs (o.refusal ≡ 0) call.queue call.registry o.queue o.closing_registry
pairs_altair_close c =
    let call = closes.called c in
    subst (λ (o : FullOutcome). Pairs (o.refusal ≡ 0) call.queue call.registry o.queue o.closing_registry) (sym c.holds) (close-pairs call)

pub pairs_altair_close_step :
    (c : StepCame) → let found = store_found (step_of c) in let o = step_back c in
    Pairs (Accepted o.answer) found.queue found.registry o.answer.running.answer.queue o.closing_registry
pairs_altair_close_step c =
    let found = store_found (step_of c) in
    subst (λ (o : StepOutcome). Pairs (Accepted o.answer) found.queue found.registry o.answer.running.answer.queue o.closing_registry)
    (sym c.holds) (step-pairs (step_of c))

pub pairs_altair_carry_out :
    (c : NinthCame) → let call = ninth_of c in let o = ninth_back c in
    Pairs (Accepted o.answer) call.running.answer.queue call.closing_registry o.answer.running.answer.queue o.closing_registry
pairs_altair_carry_out c =
    let call = ninth_of c in
    subst (λ (o : NinthOutcome).
    Pairs (Accepted o.answer) call.running.answer.queue call.closing_registry o.answer.running.answer.queue o.closing_registry) (sym c.holds)
    (ninth-pairs call)

-- Files

pub pairs_altair_read_file :
    (κs : Lfts 3) (a : Dens κs read_kinds.ps) (r : (res_t read_kinds.r κs).Denot) (e : AtExit (ended_of 3 read_kinds.ps read_kinds.r) κs) → reading.Learnt κs a r e
    → let bytes = a.0.now in
    Pairs (r.refusal ≡ 0) (queue_in bytes) (contents_of bytes).registry r.queue e.1.0.now
pairs_altair_read_file κs a r e h =
    let p = read_pairs a.0.now a.1.0.now a.1.1.0.now in
    record {
      accepts = λ z. p.accepts (sym h.0 ∙ z);
      hands_back = λ z. h.1.1.1.1.0 ∙ p.hands_back (sym h.0 ∙ z) ∙ ap (λ (xs : List ℕ). queue_of (decode xs)) (sym h.1.1.1.1.1.0);
    }

-- what is written is the record with that pair
pub pairs_altair_write_file :
    (κs : Lfts 4) (a : Dens κs write_kinds.ps) (r : (res_t write_kinds.r κs).Denot) (e : AtExit (ended_of 4 write_kinds.ps write_kinds.r) κs) → writing.Learnt κs a r e
    → let b = a.1.1.1 in let c = contents_with a.0 a.1.0 b.0.now b.1.0.now b.1.1.0.now in let queue = a.1.1.0 in
    r ≡ 0 → (queue ≡ queue_of (decode c.registry)) × (e.1.1.1.1.1.1.0.now ≡ file_of c queue)
pairs_altair_write_file κs a r e h z =
    let b = a.1.1.1 in
    let p = write_pairs (contents_with a.0 a.1.0 b.0.now b.1.0.now b.1.1.0.now) a.1.1.0 b.1.1.1.0.now (sym h.0 ∙ z) in
    (p.0, h.1 ∙ p.1)

-- The pair worked out

pub pairs_altair_exit_queue :
    (κs : Lfts 1) (a : Dens κs queue_kinds.ps) (r : (res_t queue_kinds.r κs).Denot) (e : AtExit (ended_of 1 queue_kinds.ps queue_kinds.r) κs) → finding.Learnt κs a r e
    → r.refusal ≡ 0 → r.queue ≡ queue_of (decode a.0.now)
pairs_altair_exit_queue κs a r e h z = ap (λ (q : QueueAnswer). q.queue) h ∙ found-pairs a.0.now (sym (ap (λ (q : QueueAnswer). q.refusal) h) ∙ z)
