-- The tests of one file of a shelf: by its reading's and by the rules, and what holds once they have passed.
use mathlib.Core.Path.{◌≡◌, refl, sym, ap, ap₂, subst, ◌∙◌}
use mathlib.Core.Bool.{Bool, true, false, cond, ◌&&◌, ◌||◌}
use mathlib.Core.List.{List, [], ◌∷◌}
use Prim.Native.Nat.{ℕ, ◌*◌, ◌/◌, ◌%◌}
use native.Mathlib.Omega.{arith}
use borrow.Author.Tests.{le-leb, eq-eqb, eqb-true}
use lib.Dec.{leb, eqb}
use lib.ListN.{length}
use Rattle.definitions.specs.declared.ActivationLimit.TheVariants.{Churn}
use Rattle.definitions.specs.declared.Settings.{Settings}
use Rattle.definitions.specs.declared.ActivationLimit.TheVariants.{Churn}
use Rattle.definitions.specs.declared.Finality.{Finality}
use Rattle.definitions.specs.declared.CloseAnswer.{CloseAnswer}
use Rattle.definitions.specs.declared.Bellatrix.{Bellatrix}
use Rattle.definitions.specs.declared.Rules.{Rules}
use Rattle.definitions.specs.Lists.{every}
use Rattle.definitions.specs.Record.{BeaconState, decode}
use Rattle.definitions.specs.Checked.{Checked, value, refused, bind, number_of, code_of, settle}
use Rattle.definitions.specs.declared.Refusal.{Refusal}
use Rattle.definitions.specs.declared.Refusal.TheVariants.{BadShape, BadSettings, BadFile, WrongQueue}
use Rattle.definitions.specs.Refusals.{in_order, settings_shaped, registry_shaped, good_settings, good_finality, good_registry, after_tests, closing_buffer}
use Rattle.definitions.specs.Rules.{«BELLATRIX», is_altair, good_bellatrix, settings_under, rules_shaped, good_rules}
use Rattle.definitions.specs.ExitQueue.{queue_of, is_queue_of, queue_test}
use Rattle.definitions.specs.Rust.Phase0.EpochProcessing.{reset_slashings}
use Rattle.definitions.specs.Close.{Call}
use Rattle.definitions_file.specs.File.{Contents, version_of, count_of, root_count_of, slashing_count_of, contents_of, queue_in, good_header, file_shaped, read_tests, file_length, file_of, contents_with}
use Rattle.definitions_file.specs.ClosedFile.{rules_in, state_in, file_tests, work, closed_contents, closed_file, answer_for, part_for}
use Rattle.laws.proofs.Checked.{not_value, bound}
use Rattle.laws.proofs.Tests as laws
use Rattle.laws.proofs.Tests.{both}
use Rattle.refusals.specs.Refusal.{rules_refusal}
use Rattle.laws_file.proofs.Tests.{queue-passed}
use Rattle.laws_file.proofs.Passed.{Passed, Accepted, accepted, length-registry, length-slashings}
use Rattle.close.specs.Called.{called}
use Rattle.registry_close.specs.Worked.{state_now, Tested, Worked}
use Rattle.close.specs.Worked.{record_tests, limited_record_tests}
use Rattle.laws_file.proofs.Codes.{code-value}
use Rattle.laws.proofs.Encode.{decode-encode}
use Rattle.record_file.specs.Sized.{Sized}
use Rattle.close.proofs.Lent.{lent}
use Rattle.shelf_file.specs.Parts.{FileClosed}

abbrev eight : Bool → Checked (Unit {0})
eight t = cond t (value tt) (refused WrongQueue)

-- fork (f) and pair (p) beside the tests of reading: 1 (a), 2 (g), 3 (r), 8 (t)
beside : (f a p g r t : Bool) → let x = bind (laws.tested (a && true) (g && true) r) (λ _. eight t) in cond f (cond (eqb (code_of x) 1) x (cond p x (refused BadSettings))) (refused BadShape) ≡ bind (laws.tested (a && (f && true)) ((g && p) && true) r) (λ _. eight t)
unfolding bind
beside false true p g r t = refl
beside false false p g r t = refl
beside true false p g r t = refl
beside true true false false r t = refl
beside true true false true false t = refl
beside true true false true true false = refl
beside true true false true true true = refl
beside true true true false r t = refl
beside true true true true false t = refl
beside true true true true true false = refl
beside true true true true true true = refl

-- test 1 asks only how long the lent buffers are
same_shape : (file xs ys us vs : List ℕ) → length xs ≡ length us → length ys ≡ length vs → file_shaped file xs ys ≡ file_shaped file us vs
unfolding file_shaped
same_shape file xs ys us vs l m = rw (l, m)

module _ (fork : ℕ) (pair : Bellatrix) (file : List ℕ) where
  abbrev r : Rules
  r = rules_in fork pair file

  abbrev c : Contents
  c = contents_of file

  pub off_shelf : (good_header file && eqb (version_of file) 2) ≡ false → {k : ℕ} → k ≡ number_of BadFile → (part : List ℕ) → FileClosed fork pair file part part k
  unfolding file_tests answer_for part_for after_tests bind closing_buffer
  off_shelf e n part = record { number = rw (e, n); part = rw e }

  pub same-rules : (own : Rules) → own.settings ≡ c.settings → own.fork ≡ fork → own.bellatrix ≡ pair → own ≡ r
  same-rules own a b d = λ i. record { settings = a i; fork = b i; bellatrix = d i }

  module _ (h : good_header file ≡ true) (v : version_of file ≡ 2) (xs ys : List ℕ) (l : length xs ≡ 10 * count_of file) (m : length ys ≡ slashing_count_of file) where
    shape : file_shaped file xs ys ≡ file_shaped file c.registry c.slashings
    shape = same_shape file xs ys c.registry c.slashings (l ∙ sym (length-registry file)) (m ∙ sym (length-slashings file))

    pub tested : {x y : Checked (Unit {0})} → y ≡ rules_refusal r x → x ≡ read_tests file xs ys → y ≡ file_tests fork pair file
    unfolding read_tests file_tests rules_refusal good_rules queue_test in_order every
    tested {x} {y} e f =
        let recorded = good_finality c.finality ∷ good_registry c.registry ∷ [] in
        let t = is_queue_of (queue_in file) (decode c.registry) in
        let read : x ≡ bind (in_order (file_shaped file c.registry c.slashings ∷ []) (good_settings c.settings ∷ []) recorded) (λ _. eight t) = f ∙ rw (h, shape) in
        e ∙ rw (h, v, read) (beside (leb fork «BELLATRIX») (file_shaped file c.registry c.slashings) (is_altair r || good_bellatrix pair) (good_settings c.settings) (every recorded) t)

  -- refused: the part stays
  pub refused-tests : {p : Refusal} {k : ℕ} → file_tests fork pair file ≡ refused p → k ≡ number_of p → (part : List ℕ) → FileClosed fork pair file part part k
  unfolding answer_for part_for after_tests bind closing_buffer
  refused-tests m n part = record { number = rw (m, n); part = rw m }

  -- All of them passed

  pub record Passes : Type 0 where
    pub header : good_header file ≡ true
    pub second : version_of file ≡ 2
    pub fork-known : leb fork «BELLATRIX» ≡ true
    pub rules : good_rules r ≡ true
    pub accepts : Accepted file

  first-passed : (t : Bool) (m : Checked (Unit {0})) → cond t m (refused BadFile) ≡ value tt → (t ≡ true) × (m ≡ value tt)
  first-passed true m e = (refl, e)
  first-passed false m e = absurd (not_value e)

  module _ (e : file_tests fork pair file ≡ value tt) where
    pub passes : Passes
    unfolding file_tests good_rules
    passes =
        let first = first-passed (good_header file && eqb (version_of file) 2) _ e in
        let head = both (good_header file) (eqb (version_of file) 2) first.0 in
        let then = bound _ (λ _. queue_test (queue_in file) (decode c.registry)) first.1 in
        let order = laws.in_order-value _ _ _ then.gave in
        let settings = both (good_settings c.settings) (is_altair r || good_bellatrix pair) (order.settings 0) in
        let p : Passed file c.registry c.slashings =
        record {
          header = head.0;
          shaped = order.shaped 0;
          settings = settings.0;
          finality = order.recorded 0;
          registry = order.recorded 1;
          queue = queue-passed (queue_in file) (decode c.registry) then.then;
        }
        in
        record {
          header = head.0;
          second = eqb-true (version_of file) 2 head.1;
          fork-known = order.shaped 1;
          rules = order.settings 0;
          accepts = accepted file c.registry c.slashings p;
        }

    abbrev call : Call
    call = called r c.finality c.registry c.slashings c.roots c.registry c.slashings

    record_passes : value tt ≡ record_tests call
    unfolding limited_record_tests rules_shaped settings_shaped registry_shaped in_order every
    record_passes =
        let p = passes in
        let g = p.accepts.good in
        let zero_rest : length c.registry % 10 ≡ 0 = omega (arith, g.entries) in
        rw (
          le-leb _ _ g.some-roots,
          le-leb _ _ g.few-roots,
          le-leb _ _ g.some-slashings,
          le-leb _ _ g.few-slashings,
          p.fork-known,
          eq-eqb _ _ zero_rest,
          le-leb _ _ g.few,
          eq-eqb _ _ g.roots,
          eq-eqb _ _ g.slashings,
          eq-eqb (length c.registry) (length c.registry) refl,
          eq-eqb (length c.slashings) (length c.slashings) refl,
          p.rules,
          g.finality,
        )

    -- what the steps rely on
    pub steps-tested : Tested (settings_under r) c.finality c.registry c.slashings c.roots
    steps-tested = (lent Churn call record_passes refl).opening

    module _ {x : ℕ} (w : x ≡ code_of (work fork pair file)) where
      answer-is : x ≡ answer_for fork pair file
      unfolding answer_for after_tests bind
      answer-is = w ∙ rw e

      -- a step refused: the file's own bytes
      pub closed-refused : (x ≡ 0 → ⊥) → (before : List ℕ) {after : List ℕ} → after ≡ file → FileClosed fork pair file before after x
      unfolding part_for closing_buffer
      closed-refused z before {after} a = go (work fork pair file) refl
        where
          go : (m : Checked BeaconState) → work fork pair file ≡ m → FileClosed fork pair file before after x
          go (value state) q = absurd (z (w ∙ ap code_of q))
          go (refused p) q = record { number = answer-is; part = a ∙ rw (e, q) }

      -- none did: the closed record
      pub closed-done : (before : List ℕ) {after : List ℕ} (state : BeaconState) → work fork pair file ≡ value state → after ≡ closed_file file state → FileClosed fork pair file before after x
      unfolding part_for closing_buffer
      closed-done before state v a = record { number = answer-is; part = a ∙ rw (e, v) }

-- what was read of a file that has passed its tests is what it holds
pub record FileRead (own : Rules) (file : List ℕ) (s : Settings) (f : Finality) (xs ys rs : List ℕ) : Type 0 where
  pub tests : file_tests own.fork own.bellatrix file ≡ value tt
  pub settings : own.settings ≡ (contents_of file).settings
  pub under : s ≡ settings_under own
  pub finality : f ≡ (contents_of file).finality
  pub registry : xs ≡ (contents_of file).registry
  pub slashings : ys ≡ (contents_of file).slashings
  pub roots : rs ≡ (contents_of file).roots

module _ {own : Rules} {file : List ℕ} {s : Settings} {f : Finality} {xs ys rs : List ℕ} (h : FileRead own file s f xs ys rs) where
  abbrev rules : Rules
  rules = rules_in own.fork own.bellatrix file

  under-rules : s ≡ settings_under rules
  under-rules = h.under ∙ ap settings_under (same-rules own.fork own.bellatrix file own h.settings refl refl)

  pub read-tested : Tested s f xs ys rs
  read-tested = rw (under-rules, h.finality, h.registry, h.slashings, h.roots) (steps-tested own.fork own.bellatrix file h.tests)

  -- a record of the same lengths fits the part
  pub sized : {g : Finality} {us zs part : List ℕ} → length us ≡ 10 * count_of file → length zs ≡ length ys → length part ≡ length file → Sized (contents_with own.settings g us rs zs) part
  sized {g} {us} {zs} {part} l m n =
      let p = passes own.fork own.bellatrix file h.tests in
      let k = p.accepts in
      let tens : length us / 10 ≡ count_of file = omega arith in
      let S : own.settings.slots_per_historical_root ≡ root_count_of file = rw h.settings k.root-count in
      let L : own.settings.epochs_per_slashings_vector ≡ slashing_count_of file = rw h.settings k.slashing-count in
      let long : length file ≡ file_length 2 (count_of file) (root_count_of file) (slashing_count_of file) = omega (arith, k.header.long, p.second) in
      record {
        entries = omega arith;
        roots = rw h.roots (k.good.roots ∙ rw (k.root-count, S));
        slashings = m ∙ ap length h.slashings ∙ length-slashings file ∙ sym L;
        long = n ∙ long ∙ rw (tens, S, L);
      }

  -- the steps on what was read are those on the file's record
  module _ {us : List ℕ} {answer : CloseAnswer} (w : Worked s (state_now f xs ys rs) us (reset_slashings s f.slot ys) answer) where
    on_record : Worked (settings_under rules) (state_in file) us (reset_slashings s f.slot ys) answer
    on_record = subst (λ (st : BeaconState). Worked (settings_under rules) st us (reset_slashings s f.slot ys) answer) state (subst (λ (t : Settings). Worked t (state_now f xs ys rs) us (reset_slashings s f.slot ys) answer) under-rules w)
      where
        state : state_now f xs ys rs ≡ state_in file
        state = rw (h.finality, h.registry, h.slashings, h.roots)

    pub put_refused : (answer.refusal ≡ 0 → ⊥) → (before : List ℕ) {after : List ℕ} → after ≡ file → FileClosed own.fork own.bellatrix file before after answer.refusal
    put_refused z before a = closed-refused own.fork own.bellatrix file h.tests on_record.code z before a

    pub put-done : answer.refusal ≡ 0 → (before : List ℕ) {after zs : List ℕ} → zs ≡ reset_slashings s f.slot ys → after ≡ file_of (contents_with own.settings answer.finality us rs zs) (queue_of (decode us)) → FileClosed own.fork own.bellatrix file before after 0
    put-done y before {after} {zs} d k =
        let w = on_record in
        let m = work own.fork own.bellatrix file in
        let state = settle m (state_in file) in
        let v : m ≡ value state = code-value m (state_in file) (sym w.code ∙ y) in
        let held = w.held state v in
        let f : answer.finality ≡ state.finality = w.finality in
        let vs : decode us ≡ state.validators = ap decode held.0 ∙ decode-encode state.validators in
        let same : contents_with own.settings answer.finality us rs zs ≡ closed_contents file state = λ i. record { settings = h.settings i; finality = f i; registry = held.0 i; roots = h.roots i; slashings = (d ∙ held.1) i } in
        closed-done own.fork own.bellatrix file h.tests (sym y ∙ w.code) before state v (k ∙ ap₂ file_of same (ap queue_of vs))
