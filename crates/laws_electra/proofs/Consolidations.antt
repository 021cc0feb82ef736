-- The lent consolidations: two numbers each.
use mathlib.Core.Path.{◌≡◌, refl, ap, ◌∙◌}
use mathlib.Core.Bool.{Bool}
use mathlib.Core.List.{List}
use Prim.Native.Nat.{ℕ, zero, suc, ◌+◌, ◌*◌, ◌/◌, ◌<◌}
use native.Mathlib.Omega.{arith}
use native.Mathlib.Nat.{add-zero}
use lib.ListN.{length, get_or, drop}
use lib.Seq.{get_or-drop, drop-drop}
use Rattle.definitions_electra.specs.Record.{PendingConsolidation, decode_consolidation, decode_consolidations, first_consolidations}
use Rattle.laws_electra.specs.Consolidations.{pair}

pub dropped : (i : ℕ) (ps : List ℕ) → drop (2 * i) (drop 2 ps) ≡ drop (2 * suc i) ps
dropped i ps =
    let e : 2 + 2 * i ≡ 2 * suc i = omega arith in
    drop-drop (2 * i) 2 ps ∙ ap (λ (k : ℕ). drop k ps) e

first-at : (m i : ℕ) (ps : List ℕ) (d : PendingConsolidation) → i < m → get_or (first_consolidations m ps) i d ≡ decode_consolidation (drop (2 * i) ps)
unfolding first_consolidations
first-at zero i ps d l = absurd (omega arith)
first-at (suc m) zero ps d l = refl
first-at (suc m) (suc i) ps d l = first-at m i (drop 2 ps) d (omega arith) ∙ ap decode_consolidation (dropped i ps)

length-first : (m : ℕ) (ps : List ℕ) → length (first_consolidations m ps) ≡ m
unfolding first_consolidations
length-first zero ps = refl
length-first (suc m) ps = ap suc (length-first m (drop 2 ps))

pub length_pairs : (ps : List ℕ) → length (decode_consolidations ps) ≡ length ps / 2
unfolding decode_consolidations
length_pairs ps = length-first (length ps / 2) ps

abbrev pub none : PendingConsolidation
none = pair 0 0

pub pair-at : (ps : List ℕ) (i : ℕ) → i < length ps / 2 → get_or (decode_consolidations ps) i none ≡ pair (get_or ps (2 * i) 0) (get_or ps (2 * i + 1) 0)
unfolding decode_consolidations
pair-at ps i l =
    let a : get_or (drop (2 * i) ps) 0 0 ≡ get_or ps (2 * i) 0 = get_or-drop (2 * i) ps 0 0 ∙ rw (add-zero (2 * i)) in
    let b : get_or (drop (2 * i) ps) 1 0 ≡ get_or ps (2 * i + 1) 0 = get_or-drop (2 * i) ps 1 0 in
    first-at (length ps / 2) i ps none l ∙ rw (a, b)

-- a test of the two numbers is a test of the consolidation i
pub pair-tested : (p : PendingConsolidation → Bool) (ps : List ℕ) {i : ℕ} {t : Bool} → i < length ps / 2 → p (pair (get_or ps (2 * i) 0) (get_or ps (2 * i + 1) 0)) ≡ t → p (get_or (decode_consolidations ps) i none) ≡ t
pair-tested p ps {i} l e = rw (pair-at ps i l) e
