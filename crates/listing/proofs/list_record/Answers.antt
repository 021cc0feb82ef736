use mathlib.Core.Path.{sym, ◌∙◌}
use native.Mathlib.Omega.{arith}
use Rattle.listing.proofs.Opened.{read-lengths}
use Rattle.listing.proofs.Printed.{refused-listed, closed-listed}
use Rattle.listing.proofs.list_record.Goals as goal

pub returns-then-opened-ne0 : goal.returns-then-opened-ne0
returns-then-opened-ne0 c =
    let p = c.put_refused.ensures in
    record { put = refused-listed c.requires c.read_file-opened.ensures.refusal_value c.if-opened-ne0.true p.put; upper_bound = omega (arith, p.upper_bound, c.requires.room) }

pub file_roots-roots-requires : goal.file_roots-roots-requires
file_roots-roots-requires c = (read-lengths _ _ _ (sym c.read_file-opened.ensures.refusal_value ∙ c.if-opened-ne0.false)).header

-- by way of `z`: the search from the end alone does not reach the start
pub list_close-requires : goal.list_close-requires
list_close-requires c = omega (arith, c.requires.room, c.requires.entries, c.read_file-opened.auto.registry)

pub returns : goal.returns
returns c =
    let e = c.read_file-opened.ensures in
    let listed = c.list_close.ensures in
    record { put = closed-listed c.requires e.refusal_value c.if-opened-ne0.false e.settings_value e.finality_value e.registry_after e.slashings_after c.file_roots-roots.ensures listed; upper_bound = listed.inside }

pub put_refused-requires : goal.put_refused-requires
put_refused-requires c = omega (arith, c.requires.room)
