use mathlib.Core.Bool.{◌&&◌}
use mathlib.Core.Path.{ap, ◌∙◌}
use Prim.Native.Nat.{◌-◌, ◌*◌, ◌<◌}
use native.Mathlib.Omega.{arith}
use Rattle.definitions.specs.declared.Rules.{Rules}
use Rattle.definitions.specs.Refusals.{roots_shaped, slashings_shaped}
use Rattle.definitions_close.specs.Store.{Entry, entries_from, last_of, of_last}
use Rattle.store.proofs.store_entries.Entries.{part_length, part-is}
use Rattle.store.proofs.Last.{last_entry}
use Rattle.store.proofs.store_rules.fits_last.Goals as goal

pub returns-then-n-eq0 : goal.returns-then-n-eq0
unfolding of_last last_of entries_from
returns-then-n-eq0 c = rw c.if-n-eq0.true

pub entry_rules-last-requires : goal.entry_rules-last-requires
entry_rules-last-requires c =
    let n = c.args.n in
    part_length n c.args.store.now c.requires (n - 1) (23 * n - 23) (23 * n) (omega arith) (omega arith) (omega arith)

pub returns : goal.returns
unfolding of_last
returns c =
    let a = c.args in
    let n = a.n in
    let xs = a.store.now in
    let l : 0 < n = omega (arith, c.if-n-eq0.false) in
    let is = part-is n xs c.requires (n - 1) (23 * n - 23) (23 * n) (omega arith) (omega arith) (omega arith) in
    let rules = c.entry_rules-last.ensures ∙ ap (λ (e : Entry). e.rules) is in
    let fits = ap (λ (r : Rules). roots_shaped r.settings a.roots.now && slashings_shaped r.settings a.slashings.now) rules in
    rw (last_entry n xs l) (c.fits_settings.ensures ∙ fits)
