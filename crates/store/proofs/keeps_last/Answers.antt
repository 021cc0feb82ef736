use mathlib.Core.Path.{ap, ◌∙◌}
use Prim.Native.Nat.{◌-◌, ◌*◌, ◌<◌}
use native.Mathlib.Omega.{arith}
use Rattle.definitions.specs.declared.Rules.{Rules}
use Rattle.definitions_close.specs.Store.{Entry, entries_from, keeps, last_of, of_last}
use Rattle.store.proofs.store_entries.Entries.{part_length, part-is}
use Rattle.store.proofs.Last.{last_entry}
use Rattle.store.proofs.keeps_last.Goals as goal

pub returns-then-n-eq0 : goal.returns-then-n-eq0
unfolding of_last last_of entries_from
returns-then-n-eq0 c = rw c.if-n-eq0.true

pub entry_rules-last-requires : goal.entry_rules-last-requires
entry_rules-last-requires c =
    let n = c.args.n in
    part_length n c.args.store.now c.requires (n - 1) (23 * n - 23) (23 * n) (omega arith) (omega arith) (omega arith)

pub returns : goal.returns
unfolding of_last
returns c =
    let n = c.args.n in
    let xs = c.args.store.now in
    let l : 0 < n = omega (arith, c.if-n-eq0.false) in
    let is = part-is n xs c.requires (n - 1) (23 * n - 23) (23 * n) (omega arith) (omega arith) (omega arith) in
    let rules = c.entry_rules-last.ensures ∙ ap (λ (e : Entry). e.rules) is in
    rw (last_entry n xs l) (c.keeps.ensures ∙ ap (λ (r : Rules). keeps r.settings c.args.settings) rules)
