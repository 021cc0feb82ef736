use mathlib.Core.Path.{◌≡◌, sym, ap, subst, ◌∙◌}
use lib.ListN.{length}
use Rattle.rates.specs.declared.Rates.{Rates}
use Rattle.rates.specs.Rated.{Fits}
use Rattle.rates.specs.Table.{rates_at}
use Rattle.rates.proofs.Table.{row-fifteen, row_same, table-put}
use Rattle.rates.proofs.rates_in.Goals.{After-refresh}
use Rattle.rates.proofs.rates_in.Goals as goal

-- the row came back with its fifteen numbers
fifteen : (c : After-refresh) → length c.refresh.new.row ≡ 15
fifteen c = c.refresh.auto.row ∙ row-fifteen c.args.table.now c.requires.table_of.long c.row_of-i.result c.row_of-i.ensures

pub refresh-requires : goal.refresh-requires
refresh-requires c =
    let t = c.requires.table_of in
    record { shared_by = c.requires.shared_by; row_len = row-fifteen c.args.table.now t.long c.row_of-i.result c.row_of-i.ensures; row_of = t.rows c.row_of-i.result c.row_of-i.ensures }

pub returns : goal.returns
returns c =
    let i = c.row_of-i.result in
    let l = c.row_of-i.ensures in
    let t = c.requires.table_of in
    let e = c.refresh.new.row in
    let row = c.refresh.ensures in
    let is : c.rates_at.result ≡ rates_at e = c.rates_at.ensures ∙ ap rates_at (row_same c.args.table.now t.long i l e (fifteen (goal.at.returns c).After-refresh)) in
    record { table_of_2 = table-put t i l e (fifteen (goal.at.returns c).After-refresh) (record { fits = λ _. row.fits }); fits = subst (Fits c.args.s c.args.h c.args.source c.args.target c.args.head) (sym is) row.fits; effective_balance_value = ap (λ (q : Rates). q.effective_balance) is ∙ row.same }
