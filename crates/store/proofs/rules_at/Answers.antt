use mathlib.Core.Path.{refl, ap, ◌∙◌}
use Prim.Native.Nat.{◌+◌, ◌*◌}
use native.Mathlib.Omega.{arith}
use borrow.Author.Rules.{rules}
use Rattle.definitions.specs.declared.Rules.{Rules}
use Rattle.definitions.specs.Checked.{bind}
use Rattle.definitions_close.specs.declared.RulesAnswer.{RulesAnswer}
use Rattle.definitions_close.specs.Store.{Entry, rules_at}
use Rattle.store.proofs.store_entries.Entries.{length-entries, part-is}
use Rattle.store.proofs.rules_at.Goals as goal

abbrev given : Rules → RulesAnswer
given rules = record { refusal = 0; rules = rules }

pub returns-then-n-k : goal.returns-then-n-k
unfolding rules_at bind
returns-then-n-k c =
    let a = c.args in
    let n = c.if-n-k.true in
    c.turned_away.ensures ∙ rw (c.find_entry-k.ensures.none (omega (arith, length-entries a.n a.store.now)))

pub returns : goal.returns
unfolding rules_at bind
returns c =
    let a = c.args in
    let k = c.find_entry-k.result in
    let l = c.if-n-k.false in
    let is = part-is a.n a.store.now c.requires k (23 * k) (23 * k + 23) refl refl l in
    let rules = c.entry_rules-rules.ensures ∙ ap (λ (e : Entry). e.rules) is in
    rw (c.find_entry-k.ensures.found (omega (arith, length-entries a.n a.store.now))) (ap given rules)
