-- What the survey has found of a prefix of the registry, field by field, and with one more validator.
use Rattle.std.proofs.Common.{◌≡◌, ℕ, ◌+◌, ◌*◌, ◌%◌, ◌^◌, ◌<◌, ◌≤◌, Bool, true, false, cond, ◌&&◌, eqb, ltb, List, [], ◌∷◌, ◌++◌, map, length, take, sym, refl, ap, ◌∙◌, arith, length-take, ltb-false, ltb-true, eqb-true}
use borrow.Author.Tests.{eqb-false}
use lib.ListN.{length-map, get_or-map}
use Rattle.definitions.specs.declared.Settings.{Settings}
use Rattle.definitions.specs.Lists.{filter, all, sum}
use Rattle.definitions.specs.Checked.{Checked, value, refused}
use Rattle.definitions.specs.declared.Refusal.TheVariants.{BadRecord}
use Rattle.definitions.specs.Record.{Validator, decode_one, decode, nobody}
use Rattle.definitions.specs.Refusals.{good_validator, good_registry}
use Rattle.definitions.specs.Rust.Phase0.Helpers.{get_active_validator_indices}
use Rattle.definitions.specs.Rust.Altair.Helpers.{is_unslashed_participating}
use Rattle.laws.proofs.Encode.{length-decode}
use Rattle.laws.proofs.Tests.{test}
use Rattle.laws.proofs.Loops.Entry.{entry_at}
use Rattle.laws.proofs.Loops.Filtered.{filter-last, filter_le, sum64-filter}
use Rattle.laws.proofs.Loops.Reading.{Reading, reading_none, reading_more, reading_is, prefix_all, prefix_more}
use Rattle.laws.proofs.Loops.Summed.{sum64-given, sum64-refused}
use Rattle.selection.specs.Keep.{Blank, Kept, waiting_since}
use Rattle.selection.proofs.Picking.{Picking, picking_none, picking_more}
use Rattle.selection.proofs.Waiting.{smallest-kept}
use Rattle.exit_queue.specs.Queue.{Tracks}
use Rattle.exit_queue.proofs.Tracks.{tracks-none, tracks-last, tracks-few}
use Rattle.survey.specs.declared.Sums.{Sums}
use Rattle.survey.specs.declared.Overs.{Overs}
use Rattle.survey.specs.declared.Findings.{Findings}
use Rattle.survey.specs.Sums.{weight, active_at, PlainSums}
use Rattle.survey.specs.Found.{PlainSum, Finds, over_after, found_after, all_fit}

-- A sum: its low 64 bits, and whether it has left them
pub record Low (whole low over : ℕ) : Type 0 where
  pub small : low < 2 ^ 64
  pub held : over ≡ 0 → low ≡ whole
  pub past : (over ≡ 0 → ⊥) → 2 ^ 64 ≤ whole

low-more : {whole low over : ℕ} (x : ℕ) → Low whole low over → Low (whole + x) ((low + x) % 2 ^ 64) (over_after over low x)
unfolding over_after
low-more {whole} {low} {over} x g = go (ltb (low + x) (2 ^ 64)) refl (eqb over 0) refl
  where
    go : (t : Bool) → ltb (low + x) (2 ^ 64) ≡ t → (z : Bool) → eqb over 0 ≡ z → Low (whole + x) ((low + x) % 2 ^ 64) (cond t over 1)
    go true e true f =
        let h = g.held (eqb-true over 0 f) in
        record { small = omega arith; held = λ _. omega (arith, ltb-true (low + x) (2 ^ 64) e); past = λ n. absurd (n (eqb-true over 0 f)) }
    go true e false f =
        let h = g.past (eqb-false over 0 f) in
        record { small = omega arith; held = λ z. absurd (eqb-false over 0 f z); past = λ _. omega arith }
    go false e true f =
        let h = g.held (eqb-true over 0 f) in
        record { small = omega arith; held = λ z. absurd (omega arith); past = λ _. omega (arith, ltb-false (low + x) (2 ^ 64) e) }
    go false e false f =
        let h = g.past (eqb-false over 0 f) in
        record { small = omega arith; held = λ z. absurd (omega arith); past = λ _. omega arith }

pub weights : (Validator → Bool) → List Validator → ℕ
weights p vs = sum (map (weight p) vs)

weights-last : (p : Validator → Bool) (us : List Validator) (v : Validator) → weights p (us ++ (v ∷ [])) ≡ weights p us + weight p v
unfolding weights sum
weights-last p [] v = omega arith
weights-last p (u ∷ us) v = omega (arith, weights-last p us v)

-- one sum of the five, over us
pub record Adding (p : Validator → Bool) (us : List Validator) (low over : ℕ) : Type 0 where
  pub sums : Low (weights p us) low over

adding_none : (p : Validator → Bool) → Adding p [] 0 0
unfolding weights sum
adding_none p = record { sums = record { small = omega arith; held = λ _. refl; past = λ n. absurd (n refl) } }

module _ {p : Validator → Bool} {us : List Validator} {low over : ℕ} (g : Adding p us low over) where
  adding_more : (v : Validator) → Adding p (us ++ (v ∷ [])) ((low + weight p v) % 2 ^ 64) (over_after over low (weight p v))
  adding_more v = record { sums = rw (weights-last p us v) (low-more (weight p v) g.sums) }

  adding_all : PlainSum p us low over
  unfolding weights
  adding_all =
      let whole = sum64-filter p (λ v. v.effective_balance) us in
      record {
        fits = λ z. (let e = g.sums.held z in whole ∙ sum64-given (map (weight p) us) (omega (arith, g.sums.small)) ∙ ap value (sym e));
        past = λ n. whole ∙ sum64-refused (map (weight p) us) (g.sums.past n);
      }

-- test 3: whether all have passed
abbrev graded : Bool → Checked (Unit {0})
graded passed = cond passed (value tt) (refused BadRecord)

all-last : (p : Validator → Bool) (us : List Validator) (v : Validator) → cond (p v) (graded (all p us)) (refused BadRecord) ≡ graded (all p (us ++ (v ∷ [])))
unfolding all
all-last p [] v = go (p v)
  where
    go : (t : Bool) → graded t ≡ graded (t && true)
    go true = refl
    go false = refl
all-last p (u ∷ us) v = go (p u) (p v) (all p us) (all p (us ++ (v ∷ []))) (all-last p us v)
  where
    go : (a b c d : Bool) → cond b (graded c) (refused BadRecord) ≡ graded d → cond b (graded (a && c)) (refused BadRecord) ≡ graded (a && d)
    go true b c d e = e
    go false true c d e = refl
    go false false c d e = refl

-- Everything, over the validators us
pub record Found (current previous : ℕ) (us : List Validator) (r : Findings) : Type 0 where
  pub tested : r.tested ≡ graded (all good_validator us)
  pub active : Adding (active_at current) us r.sums.active r.over.active
  pub source : Adding (is_unslashed_participating current 0 previous) us r.sums.source r.over.source
  pub target : Adding (is_unslashed_participating current 1 previous) us r.sums.target r.over.target
  pub head : Adding (is_unslashed_participating current 2 previous) us r.sums.head r.over.head
  pub current_target : Adding (is_unslashed_participating current 1 current) us r.sums.current_target r.over.current_target
  pub number : r.active ≡ length (filter (active_at current) us)
  pub queue : Tracks 0 us r.queue

abbrev pub nothing : Findings
nothing =
    let sums : Sums = record { active = 0; source = 0; target = 0; head = 0; current_target = 0 } in
    let over : Overs = record { active = 0; source = 0; target = 0; head = 0; current_target = 0 } in
    record { tested = value tt; sums = sums; over = over; active = 0; queue = record { last_epoch = 0; number = 0 } }

found_none : (current previous : ℕ) → Found current previous [] nothing
unfolding all filter
found_none current previous =
    record {
      tested = refl;
      active = adding_none _;
      source = adding_none _;
      target = adding_none _;
      head = adding_none _;
      current_target = adding_none _;
      number = refl;
      queue = tracks-none 0 (omega arith);
    }

found-more : {current previous : ℕ} {us : List Validator} {r : Findings} → Found current previous us r → (v : Validator) → Found current previous (us ++ (v ∷ [])) (found_after current previous r v)
unfolding found_after
found-more {current} {previous} {us} {r} g v =
    record {
      tested = rw g.tested (all-last good_validator us v);
      active = adding_more g.active v;
      source = adding_more g.source v;
      target = adding_more g.target v;
      head = adding_more g.head v;
      current_target = adding_more g.current_target v;
      number = omega (arith, g.number, filter-last (active_at current) us v);
      queue = tracks-last g.queue v;
    }

-- The loop: what is found of the first i, and the epochs kept of them
pub record Seeing (most current previous n : ℕ) (xs : List ℕ) (i : ℕ) (ks : List ℕ) (r : Findings) (p : ℕ) : Type 0 where
  pub at : Reading n xs i
  pub found : Found current previous (take i (decode xs)) r
  pub kept : Picking (map (waiting_since most current) (decode xs)) 64 i ks p

pub seeing_none : (most current previous : ℕ) {n : ℕ} {xs ks : List ℕ} → length xs ≡ 10 * n → length ks ≡ 64 → Blank ks → Seeing most current previous n xs 0 ks nothing 0
seeing_none most current previous {n} {xs} {ks} h e k = record { at = reading_none h; found = found_none current previous; kept = rw (← e) (picking_none _ k) }

module _ {most current previous n : ℕ} {xs : List ℕ} {i : ℕ} {ks : List ℕ} {r : Findings} {p : ℕ} (g : Seeing most current previous n xs i ks r p) where
  few : length (take i (decode xs)) ≤ i
  few = omega (arith, length-take i (decode xs))

  pub room-active : r.active ≤ i
  room-active = omega (arith, few, g.found.number, filter_le (active_at current) (take i (decode xs)))

  pub room-queue : r.queue.number ≤ i
  room-queue = omega (arith, few, tracks-few g.found.queue)

  -- this validator's own, and the epochs kept with it
  pub seeing_more : {t : Findings} {x : ℕ} {ls : List ℕ} {q : ℕ} → i < n → t ≡ found_after current previous r (decode_one (entry_at xs i)) → x ≡ waiting_since most current (decode_one (entry_at xs i)) → Kept ks x ls q → Seeing most current previous n xs (i + 1) ls t q
  seeing_more {t} {x} l e w k =
      let since = waiting_since most current in
      let long = length-map (decode xs) since ∙ length-decode n xs g.at.long in
      record {
        at = reading_more g.at l;
        found = rw (e, prefix_more g.at l) (found-more g.found (decode_one (entry_at xs i)));
        kept = picking_more g.kept (since nobody) (omega (arith, long)) (w ∙ ap since (reading_is g.at l) ∙ sym (get_or-map since (decode xs) i nobody)) k;
      }

pub seeing_all : (s : Settings) {current previous n : ℕ} {xs : List ℕ} {i : ℕ} {ks : List ℕ} {r : Findings} {p : ℕ} → Seeing s.max_effective_balance current previous n xs i ks r p → n ≤ i → Finds s current previous xs ks r
unfolding good_registry get_active_validator_indices
seeing_all s {current} {previous} {n} {xs} {i} {ks} {r} g l =
    let f : Found current previous (decode xs) r = rw (← prefix_all g.at l) g.found in
    record {
      tested = f.tested;
      active = adding_all f.active;
      source = adding_all f.source;
      target = adding_all f.target;
      head = adding_all f.head;
      current_target = adding_all f.current_target;
      number = f.number;
      queue = f.queue;
      waiting = smallest-kept s current (decode xs) g.kept (omega (arith, length-decode n xs g.at.long));
    }

-- where no sum has left 64 bits, they are the plain sums
pub plain-sums : {s : Settings} {current previous : ℕ} {xs ks : List ℕ} {r : Findings} → Finds s current previous xs ks r → all_fit r.over ≡ true → PlainSums current previous (decode xs) r.sums
unfolding all_fit
plain-sums {r = r} f h =
    let t = test _ h in
    record {
      active = f.active.fits (eqb-true _ 0 (t 0));
      source = f.source.fits (eqb-true _ 0 (t 1));
      target = f.target.fits (eqb-true _ 0 (t 2));
      head = f.head.fits (eqb-true _ 0 (t 3));
      current_target = f.current_target.fits (eqb-true _ 0 (t 4));
    }
