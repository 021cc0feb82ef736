-- R-10: "Reading an epoch below a new entry's start gives the same after the addition as before", of `altair_add_rules` and `altair_read_rules`. `Learnt`
-- is a function's own contract.
use mathlib.Core.Path.{◌≡◌, sym, ap, ap₂, ◌∙◌}
use Prim.Native.Nat.{ℕ, ◌<◌}
use contract.Lifetimes.{Lfts}
use borrow.Fn.Kinds.{Dens, res_t, ended_of}
use denote.Triple.Clauses.{AtExit}
use Rattle.definitions_close.specs.Store.{Store, read_rules, rules_answer_for}
use Rattle.definitions_close.specs.Calls.{lent}
use Rattle.theorems.proofs.Store.Calls.{reads_before}
use Rattle.exports.proofs.starting_epochs.altair_add_rules.Kinds as add_kinds
use Rattle.exports.proofs.starting_epochs.altair_add_rules.Reads as adding
use Rattle.exports.proofs.starting_epochs.altair_read_rules.Kinds as read_kinds
use Rattle.exports.proofs.starting_epochs.altair_read_rules.Reads as reading

-- calls that came back, and that the contracts hold of them

pub record AddCame : Type 0 where
  pub lifetimes : Lfts 1
  pub lent : Dens lifetimes add_kinds.ps
  pub answer : (res_t add_kinds.r lifetimes).Denot
  pub end : AtExit (ended_of 1 add_kinds.ps add_kinds.r) lifetimes
  pub holds : adding.Learnt lifetimes lent answer end

-- the store as it was lent, and as it came back
abbrev pub store_before : AddCame → Store
store_before a = lent a.lent.0.now a.lent.1.0

abbrev pub store_after : AddCame → Store
store_after a = lent a.end.0.now a.answer.count

pub record ReadCame : Type 0 where
  pub lifetimes : Lfts 1
  pub lent : Dens lifetimes read_kinds.ps
  pub answer : (res_t read_kinds.r lifetimes).Denot
  pub end : AtExit (ended_of 1 read_kinds.ps read_kinds.r) lifetimes
  pub holds : reading.Learnt lifetimes lent answer end

abbrev pub store_read : ReadCame → Store
store_read r = lent r.lent.0.now r.lent.1.0

abbrev pub epoch_read : ReadCame → ℕ
epoch_read r = r.lent.1.1.0

-- two reads of one epoch, of the store before an addition and after it
pub reads_before-altair :
    (a : AddCame) (before after : ReadCame) → a.answer.refusal ≡ 0 → store_read before ≡ store_before a → store_read after ≡ store_after a
    → epoch_read before ≡ epoch_read after → epoch_read after < a.lent.1.1.0 → after.answer ≡ before.answer
reads_before-altair a before after z p q e l =
    after.holds
    ∙ ap (λ (s : Store). rules_answer_for (read_rules s (epoch_read after))) q
    ∙ reads_before a.lent.0.now a.end.0.now a.lent.1.0 a.lent.1.1.0 (epoch_read after) a.lent.1.1.1.0 a.answer a.holds z l
    ∙ ap₂ (λ (s : Store) (n : ℕ). rules_answer_for (read_rules s n)) (sym p) (sym e)
    ∙ sym before.holds
