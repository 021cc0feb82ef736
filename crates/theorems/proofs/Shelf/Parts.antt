-- A part is as long as its file, so that each file of a shelf is answered and closed in its own place.
use mathlib.Core.Path.{◌≡◌, refl, sym, ap, ◌∙◌}
use mathlib.Core.Bool.{Bool, true, false, cond}
use mathlib.Core.List.{List, [], ◌∷◌}
use mathlib.Core.Logic.{inl, inr}
use Prim.Native.Nat.{ℕ, zero, suc, ◌-◌, ◌≤◌, ◌<◌}
use native.Mathlib.Omega.{arith}
use borrow.Author.Tests.{eqb-true}
use lib.ListN.{length, get_or, take, drop, length-append, length-drop}
use lib.Seq.{take_at, drop_at, length-take-le}
use Rattle.definitions.specs.declared.Bellatrix.{Bellatrix}
use Rattle.definitions.specs.Lists.{sum}
use Rattle.definitions.specs.Record.{BeaconState}
use Rattle.definitions.specs.Checked.{Checked, value, refused, number_of}
use Rattle.definitions.specs.declared.Refusal.TheVariants.{BadShape}
use Rattle.definitions.specs.Refusals.{closing_buffer}
use Rattle.definitions.specs.Rules.{is_altair, in_place, settings_under}
use Rattle.definitions.specs.ExitQueue.{queue_of}
use Rattle.definitions_file.specs.File.{contents_of, file_of}
use Rattle.definitions_file.specs.ClosedFile.{rules_in, state_in, file_tests, work, closed_contents, closed_file, answer_for, part_for}
use Rattle.definitions_file.specs.Shelf.{Shelf, shelf_shaped, shelf_refusal, answers_for, parts_for, answers_after, closing_after}
use Rattle.laws.proofs.Tests.{test}
use Rattle.agreement.specs.Restored.{OneOf}
use Rattle.laws_file.proofs.Numbers.{length_little, length_to_bytes}
use Rattle.laws_file.proofs.Tests.{write_good}
use Rattle.round_trip.proofs.ReadAgain.{closed-written}
use Rattle.shelf_file.proofs.Tests.{passes}
use Rattle.theorems.specs.Shelf.Files.{part_at, Defined, file_on, ShelfCalls}
use Rattle.theorems.proofs.Shelf.Roots.{Rooted, closed-whole}
use Rattle.theorems.proofs.Shelf.Files.{file-calls}

module _ (fork : ℕ) (pair : Bellatrix) where
  -- the roots in a file have 32 bytes
  file_rooted : (file : List ℕ) → 368 ≤ length file → Rooted (contents_of file).finality
  unfolding contents_of
  file_rooted file l =
      record {
        previous = length-take-le 32 (drop 256 file) (omega (arith, l, length-drop 256 file));
        current = length-take-le 32 (drop 296 file) (omega (arith, l, length-drop 296 file));
        finalized = length-take-le 32 (drop 336 file) (omega (arith, l, length-drop 336 file));
      }

  settings-roots : (file : List ℕ) → (settings_under (rules_in fork pair file)).slots_per_historical_root ≡ (contents_of file).settings.slots_per_historical_root
  unfolding settings_under
  settings-roots file = go (is_altair (rules_in fork pair file))
    where
      go : (t : Bool) → (cond t (contents_of file).settings (in_place pair (contents_of file).settings)).slots_per_historical_root ≡ (contents_of file).settings.slots_per_historical_root
      go true = refl
      go false = refl

  closed-long : (file : List ℕ) (st : BeaconState) → file_tests fork pair file ≡ value tt → work fork pair file ≡ value st → length (closed_file file st) ≡ length file
  unfolding file_of
  closed-long file st t w =
      let p = passes fork pair file t in
      let a = p.accepts in
      let e = settings-roots file in
      let head = a.header.long in
      let r = closed-whole (settings_under (rules_in fork pair file)) (state_in file) st (omega (arith, a.good.roots, e)) (omega (arith, a.good.some-roots, e)) w (file_rooted file (omega (arith, head))) in
      let x = write_good (closed_contents file st) (queue_of st.validators) file (closed-written fork pair file file st t w).passes in
      simp (length-append, length_to_bytes, length_little) (omega (arith, r.previous, r.current, r.finalized, x.good.entries, x.good.roots, x.good.slashings, x.long))

  part-long : (file lent : List ℕ) → length lent ≡ length file → length (part_for fork pair file lent) ≡ length file
  unfolding part_for closing_buffer
  part-long file lent l = go (file_tests fork pair file) refl (work fork pair file) refl
    where
      go : (t : Checked (Unit {0})) → file_tests fork pair file ≡ t → (w : Checked BeaconState) → work fork pair file ≡ w → length (closing_buffer (closed_file file) t w file lent) ≡ length file
      go (refused r) e w f = l
      go (value u) e (refused r) f = refl
      go (value u) e (value st) f = closed-long file st e f

  answers_at : (lengths files : List ℕ) (i : ℕ) → i < length lengths → get_or (answers_for fork pair lengths files) i 0 ≡ answer_for fork pair (part_at lengths i files)
  unfolding answers_for part_at
  answers_at [] files i l = absurd (omega arith)
  answers_at (n ∷ lengths) files zero l = refl
  answers_at (n ∷ lengths) files (suc i) l = answers_at lengths (drop n files) i (omega arith)

  answers-many : (lengths files : List ℕ) → length (answers_for fork pair lengths files) ≡ length lengths
  unfolding answers_for
  answers-many [] files = refl
  answers-many (n ∷ lengths) files = ap suc (answers-many lengths (drop n files))

  -- the first part of a shelf is as long as its file
  first-long : (n : ℕ) (files lent : List ℕ) → n ≤ length files → length lent ≡ length files → length (part_for fork pair (take n files) (take n lent)) ≡ n
  first-long n files lent l e =
      let file-n = length-take-le n files l in
      let lent-n = length-take-le n lent (omega arith) in
      part-long (take n files) (take n lent) (lent-n ∙ sym file-n) ∙ file-n

  parts_at : (lengths files lent : List ℕ) (i : ℕ) → i < length lengths → sum lengths ≤ length files → length lent ≡ length files → part_at lengths i (parts_for fork pair lengths files lent) ≡ part_for fork pair (part_at lengths i files) (part_at lengths i lent)
  unfolding parts_for part_at sum
  parts_at [] files lent i l s e = absurd (omega arith)
  parts_at (n ∷ lengths) files lent zero l s e = take_at (part_for fork pair (take n files) (take n lent)) _ n (first-long n files lent (omega arith) e)
  parts_at (n ∷ lengths) files lent (suc i) l s e =
      ap (part_at lengths i) (drop_at (part_for fork pair (take n files) (take n lent)) _ n (first-long n files lent (omega arith) e))
      ∙ parts_at lengths (drop n files) (drop n lent) i (omega arith) (omega (arith, length-drop n files)) (length-drop n lent ∙ ap (λ (k : ℕ). k - n) e ∙ sym (length-drop n files))

shape_zero : (s : Shelf) → shelf_refusal s ≡ 0 → shelf_shaped s ≡ true
unfolding shelf_refusal
shape_zero s e = go (shelf_shaped s) e
  where
    go : (t : Bool) → cond t 0 (number_of BadShape) ≡ 0 → t ≡ true
    go true e = refl
    go false e = absurd (omega (arith, e))

shape_one : (s : Shelf) → shelf_refusal s ≡ 1 → shelf_shaped s ≡ false
unfolding shelf_refusal
shape_one s e = go (shelf_shaped s) e
  where
    go : (t : Bool) → cond t 0 (number_of BadShape) ≡ 1 → t ≡ false
    go true e = absurd (omega (arith, e))
    go false e = refl

module _ (fork : ℕ) (pair : Bellatrix) (s : Shelf) (answers closing : List ℕ) (r : ℕ) (z : r ≡ shelf_refusal s) (a : answers ≡ answers_after fork pair s) (c : closing ≡ closing_after fork pair s) where
  number : OneOf r (0 ∷ 1 ∷ [])
  unfolding shelf_refusal
  number = rw z (go (shelf_shaped s))
    where
      go : (t : Bool) → OneOf (cond t 0 (number_of BadShape)) (0 ∷ 1 ∷ [])
      go true = inl refl
      go false = inr (inl refl)

  defined : r ≡ 0 → (i : ℕ) → i < length s.lengths → Defined (file_on fork pair s answers closing i)
  unfolding answers_after closing_after shelf_shaped
  defined e i l =
      let shaped = shape_zero s (sym z ∙ e) in
      let t = test _ shaped in
      let total : sum s.lengths ≡ length s.files = eqb-true _ _ (t 0) in
      let same : length s.closing ≡ length s.files = eqb-true _ _ (t 1) in
      let a-is : answers ≡ answers_for fork pair s.lengths s.files = a ∙ rw shaped in
      let c-is : closing ≡ parts_for fork pair s.lengths s.files s.closing = c ∙ rw shaped in
      record {
        number = ap (λ (xs : List ℕ). get_or xs i 0) a-is ∙ answers_at fork pair s.lengths s.files i l;
        part = ap (part_at s.lengths i) c-is ∙ parts_at fork pair s.lengths s.files s.closing i l (omega (arith, total)) same;
      }

  many : r ≡ 0 → length answers ≡ length s.lengths
  unfolding answers_after
  many e =
      let shaped = shape_zero s (sym z ∙ e) in
      ap length a ∙ rw shaped (answers-many fork pair s.lengths s.files)

  refusing : r ≡ 1 → (answers ≡ s.answers) × (closing ≡ s.closing)
  unfolding answers_after closing_after
  refusing e =
      let shaped = shape_one s (sym z ∙ e) in
      (a ∙ rw shaped, c ∙ rw shaped)

pub shelf-calls : ShelfCalls
shelf-calls fork pair s answers closing r z a c =
    record {
      number = number fork pair s answers closing r z a c;
      many = many fork pair s answers closing r z a c;
      defined = defined fork pair s answers closing r z a c;
      files = λ e i l. file-calls _ (defined fork pair s answers closing r z a c e i l);
      refused = refusing fork pair s answers closing r z a c;
    }
