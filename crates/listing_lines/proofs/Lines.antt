-- A loop that puts a line for each validator: with the lines that are left behind them, those put are all of them.
use mathlib.Core.Bool.{true}
use mathlib.Core.List.{List, [], ◌++◌}
use mathlib.Core.Path.{◌≡◌, refl, ◌∙◌}
use Prim.Native.Nat.{ℕ, suc, ◌+◌, ◌-◌, ◌*◌, ◌/◌, ◌≤◌, ◌<◌}
use native.Mathlib.Numerals.{add-one}
use native.Mathlib.Omega.{arith}
use lib.ListN.{length, get_or, drop, drop_of_length-le}
use lib.Seq.{drop-cons}
use Rattle.definitions.specs.Record.{decode, nobody}
use Rattle.definitions.specs.Refusals.{registry_shaped}
use Rattle.refusals.proofs.Laws.{registry-shaped}
use Rattle.fields.specs.Put.{Put}
use Rattle.fields.proofs.decimals.Put.{put-more, put-length}
use Rattle.laws.proofs.Loops.Entry.{number-at}
use Rattle.definitions_file.specs.Lines.{validator_line, lines}
use Rattle.listing_lines.specs.Sizes.{longest_line}
use Rattle.listing_lines.proofs.Fitting.{many}

-- the line of the validator i, of its numbers where they stand
abbrev pub line_at : List ℕ → List ℕ → ℕ → List ℕ
line_at opening closing i =
    validator_line i (get_or opening (10 * i + 6) 0) (get_or closing (10 * i + 6) 0) (get_or closing (10 * i) 0) (get_or closing (10 * i + 9) 0)

-- the lines from the validator i on
abbrev lines_from : List ℕ → List ℕ → ℕ → List ℕ
lines_from opening closing i = lines i (drop i (decode opening)) (drop i (decode closing))

pub record Lining (before : List ℕ) (at : ℕ) (opening closing : List ℕ) (n : ℕ) (text : List ℕ) (end i : ℕ) : Type 0 where
  pub count : n ≡ length opening / 10
  pub below : i ≤ n
  pub room : end + longest_line * (n - i) ≤ length text
  pub long : length text ≡ length before
  pub rest : (after : List ℕ) (last : ℕ) → Put text end (lines_from opening closing i) after last → Put before at (lines_from opening closing 0) after last

module _ (opening closing : List ℕ) (shaped : registry_shaped opening ≡ true) (alike : length closing ≡ length opening) where
  tens : length opening ≡ 10 * (length opening / 10)
  tens = (registry-shaped opening shaped).long

  next : (i : ℕ) → i < length opening / 10 → lines_from opening closing i ≡ line_at opening closing i ++ lines_from opening closing (suc i)
  unfolding lines
  next i l =
      let n = length opening / 10 in
      let a : i < length (decode opening) = omega (arith, many opening tens opening refl) in
      let b : i < length (decode closing) = omega (arith, many opening tens closing alike) in
      let first : 10 * i ≡ 10 * i + 0 = omega arith in
      rw (drop-cons (decode opening) i nobody a, drop-cons (decode closing) i nobody b, number-at n opening i tens l 6 (omega arith), number-at n closing i (alike ∙ tens) l 6 (omega arith), number-at n closing i (alike ∙ tens) l 9 (omega arith), first, number-at n closing i (alike ∙ tens) l 0 (omega arith))

  none : (i : ℕ) → length opening / 10 ≤ i → lines_from opening closing i ≡ []
  unfolding lines
  none i l = let a : length (decode opening) ≤ i = omega (arith, many opening tens opening refl) in rw (drop_of_length-le (decode opening) a)

  pub lining_none : (before : List ℕ) (at : ℕ) → at + longest_line * (length opening / 10) ≤ length before → Lining before at opening closing (length opening / 10) before at 0
  lining_none before at r = record { count = refl; below = omega arith; room = omega arith; long = refl; rest = λ after last p. p }

  module _ {before : List ℕ} {at n : ℕ} {text : List ℕ} {end i : ℕ} (s : Lining before at opening closing n text end i) where
    pub lining_more : {after : List ℕ} {last : ℕ} → i < n → Put text end (line_at opening closing i) after last → last ≤ end + longest_line → Lining before at opening closing n after last (i + 1)
    lining_more {after} {last} h p few =
        let k : i < length opening / 10 = omega (arith, s.count) in
        record {
          count = s.count;
          below = omega arith;
          room = omega (arith, s.room, put-length p);
          long = put-length p ∙ s.long;
          rest = λ a b t. s.rest a b (rw (next i k) (put-more p (rw (add-one i) at t)));
        }

    pub lining_all : n ≤ i → Put before at (lines 0 (decode opening) (decode closing)) text end
    lining_all h =
        let p : Put text end [] text end = record { held = refl; stopped = omega arith } in
        s.rest text end (rw (none i (omega (arith, s.count))) p)
