-- the test may stand either way round
use mathlib.Core.Path.{◌≡◌, refl, sym, ◌∙◌}
use mathlib.Core.Bool.{Bool, true, false, true≢false}
use Prim.Native.Nat.{ℕ}
use native.Mathlib.Omega.{arith}
use borrow.Author.Tests.{eq-eqb, ne_eqb, eqb-true}
use borrow.Author.Rules.{rules}
use lib.Dec.{eqb}
use Rattle.rates.proofs.is_of.Goals as goal

turned : (a b : ℕ) → eqb b a ≡ eqb a b
turned a b = go (eqb a b) refl
  where
    go : (t : Bool) → eqb a b ≡ t → eqb b a ≡ t
    go true e = eq-eqb b a (sym (eqb-true a b e))
    go false e = ne_eqb b a (λ z. true≢false (sym (eq-eqb a b (sym z)) ∙ e))

pub returns-then-told-eq1 : goal.returns-then-told-eq1
returns-then-told-eq1 c = rw (eq-eqb c.args.told 1 (omega arith)) (search (rules, turned))

pub returns : goal.returns
returns c = rw (ne_eqb c.args.told 1 (λ z. omega arith))
