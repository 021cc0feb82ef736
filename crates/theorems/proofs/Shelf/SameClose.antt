-- The tests of a file on a shelf are those of the whole close of its record, so that both do the same.
use mathlib.Core.Path.{◌≡◌, refl, sym, ap, ◌∙◌}
use mathlib.Core.Bool.{Bool, true, false, ◌&&◌}
use mathlib.Core.List.{List}
use Prim.Native.Nat.{ℕ, ◌*◌, ◌/◌, ◌%◌, ◌^◌}
use native.Mathlib.Omega.{arith}
use borrow.Author.Tests.{eqb-true, eqb-false, eq-eqb, ne_eqb}
use lib.Dec.{leb, eqb}
use lib.ListN.{length, drop, length-drop, length-replicate}
use lib.Seq.{length-take-le}
use Rattle.definitions.specs.Lists.{every}
use Rattle.definitions.specs.Record.{BeaconState, encode}
use Rattle.definitions.specs.Checked.{Checked, value, refused, bind, code_of, settle}
use Rattle.definitions.specs.Refusals.{in_order, is_vector_length, settings_shaped, registry_shaped, after_tests, closing_buffer}
use Rattle.definitions.specs.Rules.{rules_shaped}
use Rattle.definitions.specs.Close.{limited_tests, state_of}
use Rattle.definitions_file.specs.File.{Contents, version_of, count_of, root_count_of, slashing_count_of, roots_at, contents_of, queue_in, good_header, file_shaped}
use Rattle.definitions_file.specs.ClosedFile.{file_tests, work, closed_file, answer_for, part_for}
use Rattle.definitions_close.specs.FullClose.{full_tests, limited_full_tests, limited_fully_closed, closing_queue, full_close, limited_full_close}
use Rattle.laws.proofs.Checked.{number_not_zero}
use Rattle.laws_file.proofs.Passed.{good-header, length-registry, length-slashings}
use Rattle.theorems.specs.Shelf.Files.{OnShelf, whole, file_after}

bools : (a x y f : Bool) → ((a && (x && (y && (true && (true && (true && (true && true))))))) && (f && true)) ≡ (((x && y) && f) && ((true && a) && (true && (true && (true && (true && true))))))
bools true true true true = refl
bools true true true false = refl
bools true true false true = refl
bools true true false false = refl
bools true false y f = refl
bools false true true true = refl
bools false true true false = refl
bools false true false f = refl
bools false false y f = refl

-- lengths that S and L call for, or unlike them
shapes : (n S L s l : ℕ) (f : Bool) → ((leb n (2 ^ 24) && (is_vector_length S && (is_vector_length L && (eqb S s && (eqb L l && (true && (true && true))))))) && (f && true)) ≡ (((is_vector_length s && is_vector_length l) && f) && ((true && leb n (2 ^ 24)) && (eqb (32 * S) (32 * s) && (eqb L l && (true && (true && true))))))
shapes n S L s l f = go (eqb S s) refl (eqb L l) refl
  where
    none : (a x y f : Bool) (q : Bool) → ((a && (x && (y && (false && q)))) && (f && true)) ≡ false
    none true true true f q = refl
    none true true false f q = refl
    none true false y f q = refl
    none false x y f q = refl

    none_2 : (x b : Bool) (q : Bool) → (x && ((true && b) && (false && q))) ≡ false
    none_2 true true q = refl
    none_2 true false q = refl
    none_2 false b q = refl

    neither : (a x y f : Bool) → ((a && (x && (y && (true && false)))) && (f && true)) ≡ false
    neither true true true f = refl
    neither true true false f = refl
    neither true false y f = refl
    neither false x y f = refl

    neither_2 : (x b : Bool) → (x && ((true && b) && (true && false))) ≡ false
    neither_2 true true = refl
    neither_2 true false = refl
    neither_2 false b = refl

    go : (p : Bool) → eqb S s ≡ p → (q : Bool) → eqb L l ≡ q → ((leb n (2 ^ 24) && (is_vector_length S && (is_vector_length L && (eqb S s && (eqb L l && (true && (true && true))))))) && (f && true)) ≡ (((is_vector_length s && is_vector_length l) && f) && ((true && leb n (2 ^ 24)) && (eqb (32 * S) (32 * s) && (eqb L l && (true && (true && true))))))
    go true e true g =
        let S-is = eqb-true S s e in
        let L-is = eqb-true L l g in
        rw (e, g, S-is, L-is, eq-eqb (32 * s) (32 * s) refl) (bools (leb n (2 ^ 24)) (is_vector_length s) (is_vector_length l) f)
    go true e false g =
        let S-is = eqb-true S s e in
        rw (e, g, S-is, eq-eqb (32 * s) (32 * s) refl) (neither (leb n (2 ^ 24)) (is_vector_length s) (is_vector_length L) f ∙ sym (neither_2 ((is_vector_length s && is_vector_length l) && f) (leb n (2 ^ 24))))
    go false e q g =
        let unlike : 32 * S ≡ 32 * s → ⊥ = λ h. eqb-false S s e (omega (arith, h)) in
        rw (e, ne_eqb (32 * S) (32 * s) unlike) (none (leb n (2 ^ 24)) (is_vector_length S) (is_vector_length L) f (eqb L l && true) ∙ sym (none_2 ((is_vector_length s && is_vector_length l) && f) (leb n (2 ^ 24)) (eqb L l && true)))

module _ (f : OnShelf) (h : good_header f.file ≡ true) (v : version_of f.file ≡ 2) where
  abbrev file : List ℕ
  file = f.file

  abbrev c : Contents
  c = contents_of file

  roots-long : length c.roots ≡ 32 * root_count_of file
  unfolding contents_of
  roots-long =
      let e = (good-header file h).long in
      length-take-le (32 * root_count_of file) (drop (roots_at (version_of file) (count_of file)) file) (omega (arith, e, length-drop (roots_at (version_of file) (count_of file)) file))

  pub same_tests : full_tests (whole f) ≡ file_tests f.fork f.pair file
  unfolding limited_full_tests limited_tests file_tests file_shaped rules_shaped settings_shaped registry_shaped in_order every
  same_tests =
      let n = count_of file in
      let s = c.settings.slots_per_historical_root in
      let l = c.settings.epochs_per_slashings_vector in
      let reg = length-registry file in
      let sl = length-slashings file in
      let nines = length-replicate {A = ℕ} (9 * n) 0 in
      let tens : length c.registry / 10 ≡ n = omega (arith, reg) in
      let amounts : eqb (length (whole f).amounts) (9 * (length c.registry / 10)) ≡ true = eq-eqb (length (whole f).amounts) (9 * (length c.registry / 10)) (omega (arith, tens, nines)) in
      let whole-entries : eqb (length c.registry % 10) 0 ≡ true = eq-eqb (length c.registry % 10) 0 (omega (arith, reg)) in
      let few : leb (length c.registry / 10) (2 ^ 24) ≡ leb n (2 ^ 24) = ap (λ (k : ℕ). leb k (2 ^ 24)) tens in
      let roots : eqb (length c.roots) (32 * s) ≡ eqb (32 * root_count_of file) (32 * s) = ap (λ (k : ℕ). eqb k (32 * s)) roots-long in
      let slashings : eqb (length c.slashings) l ≡ eqb (slashing_count_of file) l = ap (λ (k : ℕ). eqb k l) sl in
      let own-entries : eqb (length c.registry) (length c.registry) ≡ true = eq-eqb (length c.registry) (length c.registry) refl in
      let own-slashings : eqb (length c.slashings) (length c.slashings) ≡ true = eq-eqb (length c.slashings) (length c.slashings) refl in
      let entries : eqb (length c.registry) (10 * n) ≡ true = eq-eqb (length c.registry) (10 * n) reg in
      let counted : eqb (length c.slashings) (slashing_count_of file) ≡ true = eq-eqb (length c.slashings) (slashing_count_of file) sl in
      let second : eqb (version_of file) 2 ≡ true = eq-eqb (version_of file) 2 v in
      rw (h, second, amounts, whole-entries, few, roots, slashings, own-entries, own-slashings, entries, counted, shapes n (root_count_of file) (slashing_count_of file) s l (leb f.fork 1))

  pub same_number : answer_for f.fork f.pair file ≡ (full_close (whole f)).refusal
  unfolding answer_for limited_full_close limited_fully_closed
  same_number = rw same_tests

  pub same-part : (lent : List ℕ) → answer_for f.fork f.pair file ≡ 0 → part_for f.fork f.pair file lent ≡ file_after file (full_close (whole f))
  unfolding answer_for part_for limited_full_close limited_fully_closed closing_queue after_tests bind closing_buffer
  same-part lent = rw same_tests (go (file_tests f.fork f.pair file) (work f.fork f.pair file))
    where
      go : (t : Checked (Unit {0})) (w : Checked BeaconState) → code_of (after_tests t w) ≡ 0 → closing_buffer (closed_file file) t w file lent ≡ file_after file (record { refusal = code_of (after_tests t w); finality = (settle (after_tests t w) (state_of (whole f).call)).finality; queue = closing_queue (after_tests t w) (queue_in file); raised = (full_close (whole f)).raised; test = (full_close (whole f)).test; closing_registry = closing_buffer (λ st. encode st.validators) t w c.registry c.registry; closing_slashings = closing_buffer (λ st. st.slashings) t w c.slashings c.slashings; amounts = (full_close (whole f)).amounts })
      go (value u) (value st) e = refl
      go (value u) (refused r) e = absurd (number_not_zero r e)
      go (refused r) w e = absurd (number_not_zero r e)
