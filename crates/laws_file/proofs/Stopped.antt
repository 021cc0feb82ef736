-- Reading stops at the first bad number of the first bad entry.
use mathlib.Core.Path.{◌≡◌, refl}
use mathlib.Core.Bool.{Bool, true, false, cond, ◌&&◌, true≢false}
use mathlib.Core.List.{List, [], ◌∷◌}
use Prim.Native.Nat.{ℕ, zero, suc, ◌+◌, ◌*◌, ◌<◌}
use native.Mathlib.Omega.{arith}
use borrow.Author.Tests.{leb-true, leb-false}
use lib.Dec.{leb}
use lib.ListN.{get_or}
use Rattle.definitions.specs.Lists.{all, every}
use Rattle.definitions.specs.Record.{Validator, nobody}
use Rattle.definitions.specs.Refusals.{good_validator}
use Rattle.definitions_file.specs.File.{bad_place, stopped_at}
use Rattle.laws_file.specs.Stopped.{FirstBad, bad-slashed, bad-previous, bad-current, Stopped, StoppedAt}

first-bad : (v : Validator) → good_validator v ≡ false → FirstBad v (bad_place v)
unfolding good_validator bad_place every
first-bad v = by (leb v.slashed 1) (leb v.previous_epoch_participation 255) (leb v.current_epoch_participation 255) refl refl refl
  where
    by : (a b c : Bool) → leb v.slashed 1 ≡ a → leb v.previous_epoch_participation 255 ≡ b → leb v.current_epoch_participation 255 ≡ c → every (a ∷ b ∷ c ∷ []) ≡ false → FirstBad v (cond a (cond b (cond c 10 8) 7) 1)
    by true true true p q r e = absurd (true≢false e)
    by true true false p q r e = bad-current (leb-true _ _ p) (leb-true _ _ q) (leb-false _ _ r)
    by true false c p q r e = bad-previous (leb-true _ _ p) (leb-false _ _ q)
    by false b c p q r e = bad-slashed (leb-false _ _ p)

-- one good entry in front
later : (offset : ℕ) (v : Validator) (vs : List Validator) (at : ℕ) → good_validator v ≡ true → Stopped (offset + 80) vs at → Stopped offset (v ∷ vs) at
later offset v vs at good s =
    record {
      entry = suc s.entry;
      place = s.place;
      inside = omega (arith, s.inside);
      before = before;
      first = s.first;
      there = omega (arith, s.there);
    }
  where
    before : (j : ℕ) → j < suc s.entry → good_validator (get_or (v ∷ vs) j nobody) ≡ true
    before zero h = good
    before (suc j) h = s.before j (omega arith)

pub stopped-at : StoppedAt
unfolding all stopped_at
stopped-at offset [] e = absurd (true≢false e)
stopped-at offset (v ∷ vs) e = by (good_validator v) refl (stopped-at (offset + 80) vs) e
  where
    by : (t : Bool) → good_validator v ≡ t → (all good_validator vs ≡ false → Stopped (offset + 80) vs (stopped_at (offset + 80) vs)) → (t && all good_validator vs) ≡ false → Stopped offset (v ∷ vs) (cond t (stopped_at (offset + 80) vs) (offset + 8 * bad_place v))
    by true good rest e = later offset v vs (stopped_at (offset + 80) vs) good (rest e)
    by false bad rest e =
        record {
          entry = 0;
          place = bad_place v;
          inside = omega arith;
          before = λ j h. absurd (omega arith);
          first = first-bad v bad;
          there = omega arith;
        }

pub small-place : {v : Validator} {k : ℕ} → FirstBad v k → k < 10
small-place (bad-slashed p) = omega arith
small-place (bad-previous p q) = omega arith
small-place (bad-current p q r) = omega arith
