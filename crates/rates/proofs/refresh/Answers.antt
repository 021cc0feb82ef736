-- the test of told amounts of this balance passed
use mathlib.Core.Path.{◌≡◌, sym, subst, ◌∙◌}
use mathlib.Core.Bool.{Bool, true, ◌&&◌}
use mathlib.Core.List.{List}
use Prim.Native.Nat.{ℕ}
use borrow.Author.Tests.{eqb-true}
use lib.Dec.{eqb}
use lib.ListN.{get_or}
use Rattle.laws.proofs.Tests.{both}
use Rattle.rates.specs.Table.{RowFor}
use Rattle.rates.proofs.Rated.{fits_each}
use Rattle.rates.proofs.refresh.Goals as goal

is-told : (told seen balance : ℕ) {r : Bool} → r ≡ (eqb told 1 && eqb seen balance) → r ≡ true → told ≡ 1
is-told told seen balance e t = eqb-true told 1 (both (eqb told 1) (eqb seen balance) (sym e ∙ t)).0

is_same : (told seen balance : ℕ) {r : Bool} → r ≡ (eqb told 1 && eqb seen balance) → r ≡ true → seen ≡ balance
is_same told seen balance e t = eqb-true seen balance (both (eqb told 1) (eqb seen balance) (sym e ∙ t)).1

pub returns-then-is_of : goal.returns-then-is_of
returns-then-is_of c =
    let row = c.args.row.now in
    let test = c.is_of.ensures in
    record {
      fits = c.requires.row_of.fits (is-told (get_or row 1 0) (get_or row 0 0) c.args.balance test c.if-is_of.true);
      same = is_same (get_or row 1 0) (get_or row 0 0) c.args.balance test c.if-is_of.true;
    }

pub returns : goal.returns
returns c =
    let made = c.rates_of-made.ensures in
    subst (λ (row : List ℕ). RowFor c.args.s c.args.h c.args.source c.args.target c.args.head c.args.balance row) (sym c.put_rates.ensures) (record { fits = fits_each made.fits; same = made.effective_balance_value })
