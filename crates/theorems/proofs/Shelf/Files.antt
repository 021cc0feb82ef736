-- Every file on a shelf, by what its tests and the eight steps answered.
use mathlib.Core.Path.{◌≡◌, refl, sym, ap, ◌∙◌}
use mathlib.Core.Bool.{Bool, true, false, ◌&&◌}
use mathlib.Core.List.{[], ◌∷◌}
use mathlib.Core.Logic.{◌⊎◌, inl, inr}
use Prim.Native.Nat.{ℕ, ◌≤◌}
use native.Mathlib.Omega.{arith}
use borrow.Author.Tests.{eqb-true}
use lib.Dec.{eqb}
use Rattle.definitions.specs.declared.ActivationLimit.TheVariants.{Churn}
use Rattle.definitions.specs.declared.Settings.{Settings}
use Rattle.definitions.specs.Record.{BeaconState}
use Rattle.definitions.specs.Checked.{Checked, value, refused, bind, number_of}
use Rattle.definitions.specs.declared.Refusal.{Refusal}
use Rattle.definitions.specs.declared.Refusal.TheVariants.{BadFile}
use Rattle.definitions.specs.Refusals.{after_tests, closing_buffer}
use Rattle.definitions.specs.Rules.{settings_under}
use Rattle.definitions.specs.Close.{close_tests}
use Rattle.definitions.specs.Closes.{Closes}
use Rattle.definitions.specs.Document.ByFork.{document_under}
use Rattle.definitions_file.specs.File.{version_of, good_header}
use Rattle.definitions_file.specs.ClosedFile.{rules_in, state_in, file_tests, work, closed_file, answer_for, part_for}
use Rattle.definitions_close.specs.FullClose.{full_tests, full_close}
use Rattle.laws.proofs.Checked.{not_value, number_not_zero}
use Rattle.laws.proofs.Tests.{both}
use Rattle.agreement.specs.Restored.{OneOf}
use Rattle.agreement.proofs.Refused.{work-refused}
use Rattle.agreement.proofs.Restored.{one_left, one_right, work-number}
use Rattle.agreement.proofs.Close.{close-agrees}
use Rattle.laws.proofs.Bounds.{close_passed}
use Rattle.theorems.specs.Completeness.DocumentIn64Bits as in64
use Rattle.theorems.proofs.Completeness.Close.{complete-close}
use Rattle.theorems.proofs.Completeness.StepCalls.{step-complete}
use Rattle.theorems.specs.FullClose.ByNumber.{FullAccepted}
use Rattle.theorems.proofs.FullClose.ByNumber.{Tests, passed, turned, tests, lent-tests, full-by_number}
use Rattle.theorems.specs.Shelf.Files.{OnShelf, Defined, whole, outcome_of, FileByNumber, FileCalls}
use Rattle.theorems.proofs.Shelf.SameClose.{same_tests, same_number, same-part}

-- its header is good, and of version 2
abbrev on_shelf : OnShelf → Bool
on_shelf f = good_header f.file && eqb (version_of f.file) 2

abbrev Turned : ℕ → Type 0
Turned n = OneOf n (6 ∷ 1 ∷ 2 ∷ 3 ∷ 8 ∷ [])

six-tests : (f : OnShelf) → on_shelf f ≡ false → file_tests f.fork f.pair f.file ≡ refused BadFile
unfolding file_tests
six-tests f e = rw e

module _ (f : OnShelf) (p : on_shelf f ≡ true) where
  abbrev header : good_header f.file ≡ true
  header = (both (good_header f.file) (eqb (version_of f.file) 2) p).0

  abbrev second : version_of f.file ≡ 2
  second = eqb-true (version_of f.file) 2 (both (good_header f.file) (eqb (version_of f.file) 2) p).1

  same : full_tests (whole f) ≡ file_tests f.fork f.pair f.file
  same = same_tests f header second

-- the tests of a file: 6, 1, 2, 3 and 8, or it is on the shelf and well lent
data Tested (f : OnShelf) : Type 0 where
  refuses : (r : Refusal) → Turned (number_of r) → file_tests f.fork f.pair f.file ≡ refused r → Tested f
  passes : on_shelf f ≡ true → file_tests f.fork f.pair f.file ≡ value tt → Tested f

tested : (f : OnShelf) → Tested f
tested f = go (on_shelf f) refl
  where
    by : (p : on_shelf f ≡ true) → Tests Churn (whole f) → Tested f
    by p (passed l t) = passes p (sym (same f p) ∙ t)
    by p (turned r n t) = refuses r (inr n) (sym (same f p) ∙ t)

    go : (b : Bool) → on_shelf f ≡ b → Tested f
    go true p = by p (tests Churn (whole f))
    go false p = refuses BadFile (inl refl) (six-tests f p)

on-shelf : (f : OnShelf) → file_tests f.fork f.pair f.file ≡ value tt → on_shelf f ≡ true
on-shelf f t = go (on_shelf f) refl
  where
    go : (b : Bool) → on_shelf f ≡ b → on_shelf f ≡ true
    go true p = p
    go false p = absurd (not_value (sym (six-tests f p) ∙ t))

-- and so the tests of the close passed
close-tested : (f : OnShelf) → file_tests f.fork f.pair f.file ≡ value tt → close_tests (whole f).call ≡ value tt
close-tested f t = go (tests Churn (whole f))
  where
    all : full_tests (whole f) ≡ value tt
    all = same f (on-shelf f t) ∙ t

    go : Tests Churn (whole f) → close_tests (whole f).call ≡ value tt
    go (passed l e) = sym (lent-tests Churn (whole f) l) ∙ all
    go (turned r n e) = absurd (not_value (sym e ∙ all))

-- Numbers

below-six : (n : ℕ) → Turned n → (1 ≤ n) × ((n ≤ 3) ⊎ (6 ≤ n))
below-six n (inl e) = (omega arith, inr (omega arith))
below-six n (inr (inl e)) = (omega arith, inl (omega arith))
below-six n (inr (inr (inl e))) = (omega arith, inl (omega arith))
below-six n (inr (inr (inr (inl e)))) = (omega arith, inl (omega arith))
below-six n (inr (inr (inr (inr (inl e))))) = (omega arith, inr (omega arith))
below-six n (inr (inr (inr (inr (inr o))))) = absurd o

failed : (n : ℕ) → OneOf n (4 ∷ 5 ∷ []) → (4 ≤ n) × (n ≤ 5)
failed n (inl e) = omega arith
failed n (inr (inl e)) = omega arith
failed n (inr (inr o)) = absurd o

not_both : (n : ℕ) → Turned n → OneOf n (4 ∷ 5 ∷ []) → ⊥
not_both n a b = go (below-six n a).1 (failed n b)
  where
    go : (n ≤ 3) ⊎ (6 ≤ n) → (4 ≤ n) × (n ≤ 5) → ⊥
    go (inl p) q = omega arith
    go (inr p) q = omega arith

-- By number

data Row (f : OnShelf) : Type 0 where
  closes : f.answer ≡ 0 → Row f
  restores : OneOf f.answer (4 ∷ 5 ∷ []) → f.part ≡ f.file → Row f
  touches_nothing : Turned f.answer → f.part ≡ f.lent → Row f

module _ (f : OnShelf) (d : Defined f) where
  abbrev done : Checked BeaconState
  done = work f.fork f.pair f.file

  row : Tested f → (w : Checked BeaconState) → done ≡ w → Row f
  unfolding answer_for part_for after_tests bind closing_buffer
  row (refuses r n t) w e = touches_nothing (rw (d.number, t) n) (d.part ∙ rw t)
  row (passes p t) (refused r) e = restores (rw (d.number, t, e) (work-number r (work-refused (whole f).call r e))) (d.part ∙ rw (t, e))
  row (passes p t) (value st) e = closes (d.number ∙ rw (t, e))

  six : on_shelf f ≡ false → f.answer ≡ 6
  unfolding answer_for after_tests bind
  six p = d.number ∙ rw (six-tests f p)

  as_whole : on_shelf f ≡ true → f.answer ≡ (full_close (whole f)).refusal
  as_whole p = d.number ∙ same_number f (header f p) (second f p)

  zero_on_shelf : f.answer ≡ 0 → on_shelf f ≡ true
  zero_on_shelf z = go (on_shelf f) refl
    where
      go : (b : Bool) → on_shelf f ≡ b → on_shelf f ≡ true
      go true p = p
      go false p = absurd (omega (arith, six p, z))

  whole-accepted : f.answer ≡ 0 → FullAccepted (whole f)
  whole-accepted z = (full-by_number (whole f)).accepted (sym (as_whole (zero_on_shelf z)) ∙ z)

  -- what came of it is what comes of the whole close
  pub outcome_zero : f.answer ≡ 0 → outcome_of f ≡ full_close (whole f)
  outcome_zero z =
      ap (λ (n : ℕ).
      let o = full_close (whole f) in
      record {
        refusal = n;
        finality = o.finality;
        queue = o.queue;
        raised = o.raised;
        test = o.test;
        closing_registry = o.closing_registry;
        closing_slashings = o.closing_slashings;
        amounts = o.amounts;
      }) (as_whole (zero_on_shelf z))

  from_row : Row f → FileByNumber f
  from_row r =
      record {
        number = number r;
        closed = λ z. let p = zero_on_shelf z in d.part ∙ same-part f (header f p) (second f p) f.lent (sym d.number ∙ z);
        own = own r;
        untouched = untouched r;
        six = six;
        as_whole = as_whole;
        accepts = λ z. (whole-accepted z).lent.queue;
        hands_back = λ z. (whole-accepted z).queue;
      }
    where
      number : Row f → OneOf f.answer (0 ∷ 6 ∷ 1 ∷ 2 ∷ 3 ∷ 8 ∷ 4 ∷ 5 ∷ [])
      number (closes e) = inl e
      number (restores o e) = one_right f.answer (0 ∷ 6 ∷ 1 ∷ 2 ∷ 3 ∷ 8 ∷ []) (4 ∷ 5 ∷ []) o
      number (touches_nothing o e) = inr (one_left f.answer (6 ∷ 1 ∷ 2 ∷ 3 ∷ 8 ∷ []) (4 ∷ 5 ∷ []) o)

      own : Row f → OneOf f.answer (4 ∷ 5 ∷ []) → f.part ≡ f.file
      own (closes e) o = absurd (omega (arith, e, (failed f.answer o).0))
      own (restores o e) p = e
      own (touches_nothing o e) p = absurd (not_both f.answer o p)

      untouched : Row f → Turned f.answer → f.part ≡ f.lent
      untouched (closes e) o = absurd (omega (arith, e, (below-six f.answer o).0))
      untouched (restores o e) p = absurd (not_both f.answer p o)
      untouched (touches_nothing o e) p = e

  -- Demand 2

  abbrev s : Settings
  s = settings_under (rules_in f.fork f.pair f.file)

  as_closes : Closes (closed_file f.file) (file_tests f.fork f.pair f.file) done f.file f.lent f.part f.answer
  unfolding answer_for part_for
  as_closes = record { number = d.number; buffer = d.part }

  document : Tested f → (w : Checked BeaconState) → done ≡ w → f.answer ≡ 0 → f.part ≡ closed_file f.file (document_under (rules_in f.fork f.pair f.file) (state_in f.file))
  unfolding answer_for part_for after_tests bind closing_buffer
  document (refuses r n t) w e z = absurd (number_not_zero r (sym (d.number ∙ rw t) ∙ z))
  document (passes p t) (refused r) e z = absurd (number_not_zero r (sym (d.number ∙ rw (t, e)) ∙ z))
  document (passes p t) (value st) e z = d.part ∙ rw (t, e) (ap (closed_file f.file) (sym (close-agrees (rules_in f.fork f.pair f.file) (state_in f.file) st e)))

pub file-calls : FileCalls
file-calls f d =
    record {
      by_number = from_row f d (row f d (tested f) _ refl);
      accepted = document f d (tested f) _ refl;
      complete = step-complete (closed_file f.file) _ (done f d) (in64.process_epoch (s f d) (state_in f.file))
          (λ t. complete-close Churn (s f d) (state_in f.file) (close_passed (whole f).call (close-tested f t)).passed) (as_closes f d);
    }
