-- The loop over a shelf: the first i files are closed, and what is left makes of the rest what the whole makes of the shelf.
use mathlib.Core.Path.{◌≡◌, refl, sym, ◌∙◌}
use mathlib.Core.Bool.{true}
use mathlib.Core.List.{List, [], ◌∷◌, ◌++◌, append_assoc, append-nil}
use Prim.Native.Nat.{ℕ, ◌+◌, ◌-◌, ◌*◌, ◌≤◌, ◌<◌}
use native.Mathlib.Omega.{arith}
use native.Mathlib.Numerals.{add-one}
use borrow.Author.Tests.{eqb-true, leb-true}
use lib.ListN.{length, get_or, set, take, drop, length-set, length-append, length-take, length-drop, drop_of_length-le}
use lib.Seq.{take_at, drop_at, take_all, drop-cons, drop-drop, take-suc-set}
use Rattle.definitions.specs.declared.Bellatrix.{Bellatrix}
use Rattle.definitions.specs.Lists.{sum, maximum}
use Rattle.laws.proofs.Tests.{test}
use Rattle.definitions_file.specs.ClosedFile.{answer_for, part_for}
use Rattle.definitions_file.specs.Shelf.{Shelf, shelf_shaped, answers_for, parts_for}
use Rattle.shelf.proofs.Lengths.{sum_more, sum-none}

module _ (fork : ℕ) (pair : Bellatrix) (lengths files lent : List ℕ) where
  pub record Shelving (i at : ℕ) (closing answers : List ℕ) : Type 0 where
    pub within : i ≤ length lengths
    pub place : at + sum (drop i lengths) ≡ length files
    pub as_long : length closing ≡ length files
    pub as_many : length answers ≡ length lengths
    pub answered : answers_for fork pair lengths files ≡ take i answers ++ answers_for fork pair (drop i lengths) (drop at files)
    pub parts : parts_for fork pair lengths files lent ≡ take at closing ++ parts_for fork pair (drop i lengths) (drop at files) (drop at closing)

  pub shelving-none : (answers : List ℕ) → sum lengths ≡ length files → length lent ≡ length files → length answers ≡ length lengths → Shelving 0 0 lent answers
  shelving-none answers e l m =
      record { within = omega arith; place = omega arith; as_long = l; as_many = m; answered = refl; parts = refl }

  module _ {i at : ℕ} {closing answers : List ℕ} (g : Shelving i at closing answers) where
    pub shelving-all : length lengths ≤ i → (answers ≡ answers_for fork pair lengths files) × (closing ≡ parts_for fork pair lengths files lent)
    unfolding answers_for parts_for
    shelving-all l =
        let none = drop_of_length-le lengths l in
        let whole : length closing ≤ at = omega (arith, g.place, g.as_long, sum-none lengths i l) in
        let all : length answers ≤ i = omega (arith, g.as_many) in
        (sym (g.answered ∙ rw (none, append-nil, take_all i answers all)), sym (g.parts ∙ rw (none, append-nil, take_all at closing whole)))

    module _ (l : i < length lengths) where
      abbrev n : ℕ
      n = get_or lengths i 0

      pub inside : at + n ≤ length files
      inside = omega (arith, g.place, sum_more lengths i l)

      -- the file lent, and its part
      pub file-part : (xs : List ℕ) → take (at + n - at) (drop at xs) ≡ take n (drop at xs)
      file-part xs = let e : at + n - at ≡ n = omega arith in rw e

      pub file-long : length (take (at + n - at) (drop at files)) ≡ n
      file-long = simp (length-take, length-drop) (omega (arith, inside))

      pub part-long : length (take (at + n - at) (drop at closing)) ≡ n
      part-long = simp (length-take, length-drop) (omega (arith, inside, g.as_long))

      pub shelving-more : {x : ℕ} {part : List ℕ} → x ≡ answer_for fork pair (take (at + n - at) (drop at files)) → part ≡ part_for fork pair (take (at + n - at) (drop at files)) (take (at + n - at) (drop at closing)) → length part ≡ n → Shelving (i + 1) (at + n) (take at closing ++ (part ++ drop (at + n - at) (drop at closing))) (set answers i x)
      unfolding answers_for parts_for
      shelving-more {x} {part} e f m =
          let d : drop i lengths ≡ n ∷ drop (i + 1) lengths = rw (add-one i) (drop-cons lengths i 0 l) in
          let rest = drop n (drop at closing) in
          let same : at + n - at ≡ n = omega arith in
          let front : length (take at closing ++ part) ≡ at + n = simp (length-append, length-take) (omega (arith, inside, g.as_long)) in
          let x-is : x ≡ answer_for fork pair (take n (drop at files)) = rw (file-part files) at e in
          let part-is : part ≡ part_for fork pair (take n (drop at files)) (take n (drop at closing)) = rw (file-part files, file-part closing) at f in
          let next : drop n (drop at files) ≡ drop (at + n) files = drop-drop n at files in
          let done : take (i + 1) (set answers i x) ≡ take i answers ++ (x ∷ []) = rw (add-one i) (take-suc-set answers i x (omega (arith, g.as_many))) in
          let whole : take at closing ++ (part ++ drop (at + n - at) (drop at closing)) ≡ (take at closing ++ part) ++ rest = rw same (sym (append_assoc (take at closing) part rest)) in
          record {
            within = omega arith;
            place = omega (arith, g.place, sum_more lengths i l);
            as_long = rw whole (simp (length-append, length-take, length-drop) (omega (arith, inside, g.as_long)));
            as_many = simp length-set g.as_many;
            answered = g.answered ∙ rw (d, done, ← x-is, next, append_assoc);
            parts = g.parts ∙ rw (whole, take_at (take at closing ++ part) rest (at + n) front, drop_at (take at closing ++ part) rest (at + n) front, d, ← part-is, next, append_assoc);
          }

-- What test 1 of the whole call says
pub record Shaped (s : Shelf) : Type 0 where
  pub sums : sum s.lengths ≡ length s.files
  pub closing-long : length s.closing ≡ length s.files
  pub opening-room : maximum 0 s.lengths ≤ 8 * length s.opening_numbers
  pub closing-room : maximum 0 s.lengths ≤ 8 * length s.closing_numbers
  pub many : length s.answers ≡ length s.lengths

pub shaped : (s : Shelf) → shelf_shaped s ≡ true → Shaped s
unfolding shelf_shaped
shaped s e =
    let t = test _ e in
    record {
      sums = eqb-true _ _ (t 0);
      closing-long = eqb-true _ _ (t 1);
      opening-room = leb-true _ _ (t 2);
      closing-room = leb-true _ _ (t 3);
      many = eqb-true _ _ (t 4);
    }
