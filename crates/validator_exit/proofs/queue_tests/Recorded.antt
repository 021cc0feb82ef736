-- Tests of 3 made after others. `x` is what the others answered.
use mathlib.Core.Path.{◌≡◌, refl, sym, ◌∙◌}
use mathlib.Core.Bool.{Bool, true, false, cond, ◌&&◌}
use mathlib.Core.List.{List, ◌++◌}
use Rattle.definitions.specs.declared.Refusal.{Refusal}
use Rattle.definitions.specs.declared.Refusal.TheVariants.{BadRecord}
use Rattle.definitions.specs.Checked.{Checked, value, refused}
use Rattle.definitions.specs.Lists.{every}
use Rattle.definitions.specs.Refusals.{in_order}
use Rattle.laws.proofs.Checked.{not_value}
use Rattle.laws.proofs.Tests.{tested, every_append}

module _ (shaped settings recorded more : List Bool) {x : Checked (Unit {0})} (e : x ≡ in_order shaped settings recorded) where
  pub recorded-refused : {p : Refusal} → x ≡ refused p → in_order shaped settings (recorded ++ more) ≡ refused p
  unfolding in_order
  recorded-refused {p} z = rw (every_append recorded more) (go (every shaped) (every settings) (every recorded) (sym e ∙ z))
    where
      go : (a b c : Bool) → tested a b c ≡ refused p → tested a b (c && every more) ≡ refused p
      go true true true h = absurd (not_value (sym h))
      go true true false h = h
      go true false c h = h
      go false b c h = h

  pub recorded-tested : x ≡ value tt → in_order shaped settings (recorded ++ more) ≡ cond (every more) (value tt) (refused BadRecord)
  unfolding in_order
  recorded-tested z = rw (every_append recorded more) (go (every shaped) (every settings) (every recorded) (every more) (sym e ∙ z))
    where
      go : (a b c d : Bool) → tested a b c ≡ value tt → tested a b (c && d) ≡ cond d (value tt) (refused BadRecord)
      go true true true d h = refl
      go true true false d h = absurd (not_value h)
      go true false c d h = absurd (not_value h)
      go false b c d h = absurd (not_value h)
