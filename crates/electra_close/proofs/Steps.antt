-- The steps at the front of the closing lists.
use mathlib.Core.Path.{◌≡◌, ap, ◌∙◌}
use mathlib.Core.List.{List, ◌++◌}
use Prim.Native.Nat.{ℕ, ◌-◌, ◌*◌, ◌≤◌}
use native.Mathlib.Omega.{arith}
use lib.ListN.{length, take, drop}
use lib.Seq.{length-take-le}
use Rattle.definitions.specs.Checked.{Checked}
use Rattle.definitions_electra.specs.declared.ElectraRules.{ElectraRules}
use Rattle.definitions_electra.specs.Record.{ElectraState}
use Rattle.electra_front.specs.declared.Front.{Front}
use Rattle.electra_front.specs.Front.{FrontRan}
use Rattle.electra_close.specs.Steps.{StepsRan}

-- as `closing_registry[0..10 n]` and `amounts[0..12 n]` come back
pub in_front : {r : ElectraRules} {st : ElectraState} (n : ℕ) {deposits pairs : List ℕ} (xs ys : List ℕ) {e w : List ℕ} {f : Checked Front} → 10 * n ≤ length xs → 12 * n ≤ length ys → length e ≡ length (take (10 * n - 0) xs) → length w ≡ length (take (12 * n - 0) ys) → FrontRan r st n deposits pairs e w f → StepsRan r st n deposits pairs xs (e ++ drop (10 * n - 0) xs) ys (w ++ drop (12 * n - 0) ys) f
in_front n xs ys {e} {w} a b k l h =
    let z : 10 * n - 0 ≡ 10 * n = omega arith in
    let y : 12 * n - 0 ≡ 12 * n = omega arith in
    record {
      front = e;
      rows = w;
      long = k ∙ rw z (length-take-le (10 * n) xs a);
      wide = l ∙ rw y (length-take-le (12 * n) ys b);
      registry = ap (λ (m : ℕ). e ++ drop m xs) z;
      amounts = ap (λ (m : ℕ). w ++ drop m ys) y;
      ran = h;
    }
