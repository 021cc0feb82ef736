-- What the line of one validator tells, by its tests and once they have passed.
use mathlib.Core.Bool.{Bool, true, false, cond, ◌&&◌}
use mathlib.Core.List.{List, [], ◌∷◌}
use mathlib.Core.Path.{◌≡◌, refl, sym, ap, ◌∙◌}
use Prim.Native.Nat.{ℕ, ◌+◌, ◌*◌, ◌/◌, ◌<◌}
use native.Mathlib.Omega.{arith}
use borrow.Author.Tests.{eqb-true, ltb-true}
use lib.IntN.{ℤ}
use mir.Syntax.{w64}
use mir.Val.{to_z, of_z}
use lib.ListN.{length, get_or}
use Rattle.definitions.specs.Record.{decode, nobody}
use Rattle.definitions.specs.Lists.{every}
use Rattle.definitions.specs.Checked.{Checked, value, refused, bind, number_of}
use Rattle.definitions.specs.declared.Refusal.TheVariants.{BadShape, BadSettings, BadRecord}
use Rattle.definitions.specs.declared.Refusal.{Refusal}
use Rattle.laws.proofs.Checked.{not_value}
use Rattle.definitions.specs.Refusals.{in_order, registry_shaped, same_length, good_validator}
use Rattle.definitions.specs.LeafRefusals.{is_index}
use Rattle.laws.proofs.Loops.Entry.{number-at}
use Rattle.laws.proofs.Tests.{in_order-value}
use Rattle.refusals.proofs.Answers.{after-passed, after-refused}
use Rattle.refusals.proofs.Laws.{registry-shaped}
use Rattle.definitions.specs.NetChange.{net_change}
use Rattle.definitions_file.specs.ListingAnswers.{line_tests, no_line, line_for, line_of}
use Rattle.listing_lines.specs.Told.{line_shaped, line_told}
use Rattle.arithmetic.proofs.signed.Change.{signed}

-- the tests under 1, and then of the validator
pub record Shaped (opening closing : List ℕ) (i : ℕ) : Type 0 where
  pub long : length opening ≡ 10 * (length opening / 10)
  pub alike : length closing ≡ length opening
  pub below : i < length opening / 10

module _ (opening closing : List ℕ) (index : ℕ) where
  abbrev good : List ℕ → Bool
  good registry = good_validator (get_or (decode registry) index nobody)

  module _ {x : Checked (Unit {0})} (e : x ≡ line_shaped opening closing index) where
    pub shape-refused : {p : Refusal} → x ≡ refused p → x ≡ line_tests opening closing index
    unfolding line_shaped line_tests in_order every
    shape-refused z = go (every (registry_shaped opening ∷ same_length opening closing ∷ is_index index opening ∷ [])) e
      where
        go : (b : Bool) → x ≡ cond b (cond (every []) (cond (every []) (value tt) (refused BadRecord)) (refused BadSettings)) (refused BadShape) → x ≡ cond b (cond (every []) (cond (every (good opening ∷ good closing ∷ [])) (value tt) (refused BadRecord)) (refused BadSettings)) (refused BadShape)
        go true f = absurd (not_value (sym z ∙ f))
        go false f = f

    pub shape-passed : x ≡ value tt → Shaped opening closing index
    unfolding line_shaped
    shape-passed z = let p = in_order-value _ _ _ (sym e ∙ z) in record { long = (registry-shaped opening (p.shaped 0)).long; alike = eqb-true _ _ (p.shaped 1); below = ltb-true _ _ (p.shaped 2) }

    pub entries-tested : x ≡ value tt → {b c : Bool} → good opening ≡ b → good closing ≡ c → line_tests opening closing index ≡ cond (b && c) (value tt) (refused BadRecord)
    unfolding line_shaped line_tests in_order every
    entries-tested z {b} {c} f g = rw (f, g) (go (every (registry_shaped opening ∷ same_length opening closing ∷ is_index index opening ∷ [])) b c e)
      where
        go : (s b c : Bool) → x ≡ cond s (cond (every []) (cond (every []) (value tt) (refused BadRecord)) (refused BadSettings)) (refused BadShape) → ◌≡◌ {A = Checked (Unit {0})} (cond s (cond (every []) (cond (every (b ∷ c ∷ [])) (value tt) (refused BadRecord)) (refused BadSettings)) (refused BadShape)) (cond (b && c) (value tt) (refused BadRecord))
        go true true true k = refl
        go true true false k = refl
        go true false c k = refl
        go false b c k = absurd (not_value (sym k ∙ z))

module _ (opening closing : List ℕ) (index : ℕ) where
  -- x is what the tests answered
  module _ {x : Checked (Unit {0})} (e : x ≡ line_tests opening closing index) where
    pub line_refused : {p : Refusal} {k : ℕ} → x ≡ refused p → k ≡ number_of p → no_line k ≡ line_of opening closing index
    line_refused z n = rw (after-refused (line_tests opening closing index) (line_told opening closing index) e z, n)

    pub line-lent : x ≡ value tt → ((length opening ≡ 10 * (length opening / 10)) × (length closing ≡ length opening)) × (index < length opening / 10)
    unfolding line_tests
    line-lent z = let p = in_order-value _ _ _ (sym e ∙ z) in (((registry-shaped opening (p.shaped 0)).long, eqb-true _ _ (p.shaped 1)), ltb-true _ _ (p.shaped 2))

    pub line-passed : x ≡ value tt → line_for (line_told opening closing index) ≡ line_of opening closing index
    line-passed z = sym (ap line_for (after-passed (line_tests opening closing index) (line_told opening closing index) e z))

  module _ (long : length opening ≡ 10 * (length opening / 10)) (alike : length closing ≡ length opening) (l : index < length opening / 10) where
    before : get_or opening (10 * index + 6) 0 ≡ (get_or (decode opening) index nobody).balance
    before = number-at (length opening / 10) opening index long l 6 (omega arith)

    after : get_or closing (10 * index + 6) 0 ≡ (get_or (decode closing) index nobody).balance
    after = number-at (length opening / 10) closing index (alike ∙ long) l 6 (omega arith)

    pub line-wide : {p : Refusal} {k : ℕ} → net_change (get_or opening (10 * index + 6) 0) (get_or closing (10 * index + 6) 0) ≡ refused p → k ≡ number_of p → no_line k ≡ line_for (line_told opening closing index)
    unfolding bind
    line-wide w n = rw (← before, ← after, w, n)

    pub line_read : {z : ℤ} → net_change (get_or opening (10 * index + 6) 0) (get_or closing (10 * index + 6) 0) ≡ value z → record { refusal = 0; index = index; opening_balance = get_or opening (10 * index + 6) 0; closing_balance = get_or closing (10 * index + 6) 0; effective_balance = get_or closing (10 * index) 0; inactivity_score = get_or closing (10 * index + 9) 0; net_change = to_z w64 (of_z w64 z) } ≡ line_for (line_told opening closing index)
    unfolding bind
    line_read {z} g =
        let first : 10 * index ≡ 10 * index + 0 = omega arith in
        rw (signed _ _ g, ← before, ← after, g, number-at (length opening / 10) closing index (alike ∙ long) l 9 (omega arith), first, number-at (length opening / 10) closing index (alike ∙ long) l 0 (omega arith))
