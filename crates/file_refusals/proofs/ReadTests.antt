-- The tests of reading: what is answered and where reading stops.
use mathlib.Core.Path.{◌≡◌, refl, sym, ap, ◌∙◌}
use mathlib.Core.Bool.{Bool, true, false, ◌&&◌, and-false, and_assoc}
use mathlib.Core.List.{List, [], ◌∷◌}
use Prim.Native.Nat.{ℕ, ◌*◌, ◌^◌, ◌≤◌, ◌<◌}
use native.Mathlib.Omega.{arith}
use borrow.Author.Tests.{lt-ltb, le-ltb, lt-leb, ne_eqb, eqb-true}
use lib.Dec.{leb, eqb}
use lib.ListN.{length}
use Rattle.definitions.specs.declared.Settings.{Settings}
use Rattle.definitions.specs.declared.ExitQueue.{ExitQueue}
use Rattle.definitions.specs.Lists.{every}
use Rattle.definitions.specs.Record.{decode}
use Rattle.definitions.specs.Checked.{Checked, value, refused, bind, code_of}
use Rattle.definitions.specs.declared.Refusal.{Refusal}
use Rattle.definitions.specs.declared.Refusal.TheVariants.{BadRecord, BadFile, WrongQueue}
use Rattle.laws.proofs.Checked.{not_value, refused_same}
use Rattle.definitions.specs.Refusals.{in_order, is_vector_length, settings_shaped, length_is, good_settings, good_finality, good_registry}
use Rattle.definitions.specs.ExitQueue.{queue_of, is_queue_of, queue_test}
use Rattle.definitions_file.specs.File.{version_of, validators_at, queue_from, queue_in, no_queue, read, count_of, root_count_of, slashing_count_of, contents_of, good_header, file_shaped, read_tests, stopped_at, position}
use Rattle.laws.proofs.Tests.{and_true, in_order-value}
use Rattle.laws.proofs.Queue.{is_its_own}
use Rattle.laws_file.proofs.Passed.{good-header}
use Rattle.file_refusals.specs.Tests.{other_tests, Answered, QueueAnswered}
use Rattle.exit_queue.specs.Queue.{same_queue}

-- 1, 2 and 3

-- S and L are the settings' own, or the tests fail: so the settings may be tested in their place
vectors : (S L : ℕ) (s : Settings) (more : Bool) → (settings_shaped s && (eqb S s.slots_per_historical_root && (eqb L s.epochs_per_slashings_vector && more))) ≡ (is_vector_length S && (is_vector_length L && (eqb S s.slots_per_historical_root && (eqb L s.epochs_per_slashings_vector && more))))
unfolding settings_shaped
vectors S L s more = go (eqb S s.slots_per_historical_root) (eqb L s.epochs_per_slashings_vector) refl refl
  where
    go : (a b : Bool) → eqb S s.slots_per_historical_root ≡ a → eqb L s.epochs_per_slashings_vector ≡ b → ((is_vector_length s.slots_per_historical_root && is_vector_length s.epochs_per_slashings_vector) && (a && (b && more))) ≡ (is_vector_length S && (is_vector_length L && (a && (b && more))))
    go true true e f = rw (eqb-true S s.slots_per_historical_root e, eqb-true L s.epochs_per_slashings_vector f) (and_assoc (is_vector_length s.slots_per_historical_root) (is_vector_length s.epochs_per_slashings_vector) more)
    go true false e f = simp and-false
    go false b e f = simp and-false

module _ (bytes registry slashings : List ℕ) where
  -- the tests under 1, as they are made
  abbrev pub shape_tests : List Bool
  shape_tests =
      let s = (contents_of bytes).settings in
      leb (count_of bytes) (2 ^ 24)
      ∷ settings_shaped s
      ∷ eqb (root_count_of bytes) s.slots_per_historical_root
      ∷ eqb (slashing_count_of bytes) s.epochs_per_slashings_vector
      ∷ length_is (10 * count_of bytes) registry
      ∷ length_is (slashing_count_of bytes) slashings
      ∷ []

  pub shape-tested : (settings recorded : List Bool) → in_order shape_tests settings recorded ≡ in_order (file_shaped bytes registry slashings ∷ []) settings recorded
  unfolding in_order file_shaped every
  shape-tested settings recorded = rw vectors (simp and_true)

-- refused, and not with 3: the shape or the settings failed. With 3: neither, but one of the last two
sooner : (t s f r : Bool) {p : Refusal} → in_order (t ∷ []) (s ∷ []) (f ∷ r ∷ []) ≡ refused p → (p ≡ BadRecord → ⊥) → (t && s) ≡ false
unfolding in_order every
sooner true true true true z n = absurd (not_value (sym z))
sooner true true true false z n = absurd (n (sym (refused_same z)))
sooner true true false r z n = absurd (n (sym (refused_same z)))
sooner true false f r z n = refl
sooner false s f r z n = refl

third : (t s f r : Bool) → in_order (t ∷ []) (s ∷ []) (f ∷ r ∷ []) ≡ refused BadRecord → ((t && s) ≡ true) × ((f && r) ≡ false)
unfolding in_order every
third true true true true e = absurd (not_value (sym e))
third true true true false e = (refl, refl)
third true true false r e = (refl, refl)
third true false f r e = absurd (let n : ◌≡◌ {A = ℕ} 2 3 = ap code_of e in omega arith)
third false s f r e = absurd (let n : ◌≡◌ {A = ℕ} 1 3 = ap code_of e in omega arith)

-- 6, then these: what is answered

module _ (bytes registry slashings : List ℕ) where
  pub answered-short : length bytes < 80 → Answered bytes registry slashings (refused BadFile) 0 no_queue
  unfolding read_tests position good_header read bind every
  answered-short l = record { is = rw (lt-leb _ _ l); place = rw (lt-ltb _ _ l); pair = rw (lt-leb _ _ l) }

  pub answered-header : 80 ≤ length bytes → good_header bytes ≡ false → Answered bytes registry slashings (refused BadFile) 80 no_queue
  unfolding read_tests position read bind
  answered-header l h = record { is = rw h; place = rw (le-ltb _ _ l, h); pair = rw h }

-- the header is good, and x is what the other tests said
pub record Others (bytes registry slashings : List ℕ) (x : Checked (Unit {0})) : Type 0 where
  pub header : good_header bytes ≡ true
  pub is : x ≡ other_tests bytes registry slashings (good_registry (contents_of bytes).registry)

module _ {bytes registry slashings : List ℕ} {x : Checked (Unit {0})} (o : Others bytes registry slashings x) where
  abbrev others : Checked (Unit {0})
  others = other_tests bytes registry slashings (good_registry (contents_of bytes).registry)

  abbrev h : good_header bytes ≡ true
  h = o.header

  abbrev e : x ≡ others
  e = o.is

  enough : 80 ≤ length bytes
  enough = (good-header bytes h).enough

  others-refused : {p : Refusal} → x ≡ refused p → {at : ℕ} → at ≡ position bytes registry slashings → Answered bytes registry slashings (refused p) at no_queue
  unfolding read_tests read bind
  others-refused {p} z q = let m : others ≡ refused p = sym e ∙ z in record { is = rw (h, m); place = q; pair = rw (h, m) }

  pub answered-sooner : {p : Refusal} → x ≡ refused p → (p ≡ BadRecord → ⊥) → Answered bytes registry slashings (refused p) 232 no_queue
  unfolding position
  answered-sooner z n =
      let t = sooner (file_shaped bytes registry slashings) (good_settings (contents_of bytes).settings) (good_finality (contents_of bytes).finality) (good_registry (contents_of bytes).registry) (sym e ∙ z) n in
      others-refused z (rw (le-ltb _ _ enough, h, t))

  module _ (n : x ≡ refused BadRecord) where
    among : ((file_shaped bytes registry slashings && good_settings (contents_of bytes).settings) ≡ true) × ((good_finality (contents_of bytes).finality && good_registry (contents_of bytes).registry) ≡ false)
    among = third _ _ _ _ (sym e ∙ n)

    pub answered-finality : good_finality (contents_of bytes).finality ≡ false → Answered bytes registry slashings (refused BadRecord) 368 no_queue
    unfolding position
    answered-finality f = others-refused n {at = 368} (rw (le-ltb _ _ enough, h, among.0, f))

    pub answered-registry : good_finality (contents_of bytes).finality ≡ true → Answered bytes registry slashings (refused BadRecord) (stopped_at (validators_at (version_of bytes)) (decode (contents_of bytes).registry)) no_queue
    unfolding position
    answered-registry f =
        let r : good_registry (contents_of bytes).registry ≡ false = rw f at among.1 in
        others-refused n {at = stopped_at (validators_at (version_of bytes)) (decode (contents_of bytes).registry)} (rw (le-ltb _ _ enough, h, among.0, f, r))

  pub answered-queue : x ≡ value tt → {y : Checked (Unit {0})} {at : ℕ} {q : ExitQueue} → QueueAnswered bytes y at q → Answered bytes registry slashings y at q
  unfolding read_tests position read bind
  answered-queue z a =
      let p = in_order-value _ _ _ (sym e ∙ z) in
      let m : others ≡ value tt = sym e ∙ z in
      record {
        is = rw (h, m) a.is;
        place = rw (le-ltb _ _ enough, h, p.shaped 0, p.settings 0, p.recorded 0, p.recorded 1) a.place;
        pair = rw (h, m) a.pair;
      }

-- Test 8

module _ (bytes : List ℕ) where
  pub queue-passes : {q : ExitQueue} → q ≡ queue_in bytes → is_queue_of (queue_in bytes) (decode (contents_of bytes).registry) ≡ true → QueueAnswered bytes (value tt) (length bytes) q
  unfolding queue_test bind
  queue-passes e t = record { is = rw t; place = rw t; pair = rw t e }

  pub queue_worked_out : {q : ExitQueue} → (version_of bytes ≡ 2 → ⊥) → q ≡ queue_of (decode (contents_of bytes).registry) → QueueAnswered bytes (value tt) (length bytes) q
  unfolding queue_in
  queue_worked_out n e =
      let z = ne_eqb (version_of bytes) 2 n in
      queue-passes (rw z e) (rw z (is_its_own (decode (contents_of bytes).registry)))

  module _ (v : version_of bytes ≡ 2) {stored own : ExitQueue} (e : stored ≡ queue_from bytes) (o : own ≡ queue_of (decode (contents_of bytes).registry)) where
    stored_is : stored ≡ queue_in bytes
    unfolding queue_in
    stored_is = rw v e

    tested : (t : Bool) → same_queue stored own ≡ t → is_queue_of (queue_in bytes) (decode (contents_of bytes).registry) ≡ t
    unfolding is_queue_of
    tested t s = rw (← stored_is, ← o) s

    pub queue-stored : same_queue stored own ≡ true → QueueAnswered bytes (value tt) (length bytes) stored
    queue-stored s = queue-passes stored_is (tested true s)

    pub queue-wrong : same_queue stored own ≡ false → QueueAnswered bytes (refused WrongQueue) 368 no_queue
    unfolding queue_test bind
    queue-wrong s = let f = tested false s in record { is = rw f; place = rw f; pair = rw f }
