-- Reading stops at the first bad number of the first bad entry, and at a stored pair that is not the register's.
use mathlib.Core.Path.{◌≡◌, refl, sym, ap, ◌∙◌}
use mathlib.Core.Bool.{Bool, true, false, true≢false}
use mathlib.Core.List.{List}
use Prim.Native.Nat.{ℕ, ◌+◌, ◌*◌, ◌<◌}
use native.Mathlib.Omega.{arith}
use borrow.Author.Tests.{le-ltb, ne_eqb, eqb-true, eqb-false}
use lib.Dec.{eqb}
use lib.ListN.{length, get_or, take, drop}
use lib.Seq.{drop-drop, get_or-take, get_or-drop}
use Rattle.definitions.specs.Lists.{every}
use Rattle.definitions.specs.Record.{encode_one, decode, nobody}
use Rattle.definitions.specs.Checked.{refused, bind}
use Rattle.definitions.specs.declared.Refusal.TheVariants.{BadRecord}
use Rattle.definitions.specs.Refusals.{in_order, good_registry}
use Rattle.definitions.specs.ExitQueue.{is_queue_of, queue_test}
use Rattle.definitions_file.specs.File.{number_at, version_of, validators_at, queue_in, count_of, contents_of, read_tests, read_file, stopped_at, position}
use Rattle.laws.proofs.Encode.{entry-at, encode-decode, length-decode}
use Rattle.round_trip.specs.Refused.{StoppedInRegistry, RegistryRefused, QueueRefused}
use Rattle.laws_file.proofs.Numbers.{number-at}
use Rattle.laws_file.proofs.Passed.{good-header, length-registry}
use Rattle.laws_file.proofs.Stopped.{stopped-at, small-place}
use Rattle.laws.proofs.Queue.{is_its_own}

-- where a number of an entry stands in the file
number-there : (bytes : List ℕ) (j : ℕ) → j < 10 * count_of bytes → number_at (validators_at (version_of bytes) + 8 * j) bytes ≡ get_or (contents_of bytes).registry j 0
unfolding contents_of
number-there bytes j h = rw (number-at (10 * count_of bytes) j (drop (validators_at (version_of bytes)) bytes) h, drop-drop)

number_of-entry : (n i k : ℕ) (xs : List ℕ) → length xs ≡ 10 * n → i < n → k < 10 → get_or xs (10 * i + k) 0 ≡ get_or (encode_one (get_or (decode xs) i nobody)) k 0
number_of-entry n i k xs l h small =
    let entry = entry-at (decode xs) i nobody (omega (arith, length-decode n xs l)) in
    let here : take 10 (drop (10 * i) xs) ≡ encode_one (get_or (decode xs) i nobody) = rw (encode-decode n xs l) at entry in
    sym (get_or-take 10 (drop (10 * i) xs) k 0 small ∙ get_or-drop (10 * i) xs k 0) ∙ ap (λ (e : List ℕ). get_or e k 0) here

stops_in_registry :
    (bytes registry slashings : List ℕ) →
    read_file bytes registry slashings ≡ refused BadRecord →
    position bytes registry slashings ≡ stopped_at (validators_at (version_of bytes)) (decode (contents_of bytes).registry) →
    good_registry (contents_of bytes).registry ≡ false →
    StoppedInRegistry bytes registry slashings
unfolding good_registry
stops_in_registry bytes registry slashings answer e bad =
    let xs = (contents_of bytes).registry in
    let n = count_of bytes in
    let l = length-registry bytes in
    let s = stopped-at (validators_at (version_of bytes)) (decode xs) bad in
    let i = s.entry in
    let k = s.place in
    let h : i < n = omega (arith, s.inside, length-decode n xs l) in
    let small = small-place s.first in
    let at : position bytes registry slashings ≡ validators_at (version_of bytes) + 8 * (10 * i + k) = omega (arith, e, s.there) in
    record {
      answer = answer;
      stopped = rw e s;
      number = rw at (number-there bytes (10 * i + k) (omega arith) ∙ number_of-entry n i k xs l h small);
    }

pub registry-refused : RegistryRefused
unfolding position read_file read_tests in_order bind every
registry-refused bytes registry slashings header shaped settings finality bad =
    stops_in_registry bytes registry slashings
    (rw (header, shaped, settings, finality, bad))
    (rw (le-ltb (length bytes) 80 (good-header bytes header).enough, header, shaped, settings, finality, bad))
    bad

-- in version 1 the pair is the register's own
first-own : (bytes : List ℕ) → (version_of bytes ≡ 2 → ⊥) → is_queue_of (queue_in bytes) (decode (contents_of bytes).registry) ≡ true
unfolding queue_in
first-own bytes n = rw (ne_eqb (version_of bytes) 2 n) (is_its_own (decode (contents_of bytes).registry))

stores : (bytes : List ℕ) → is_queue_of (queue_in bytes) (decode (contents_of bytes).registry) ≡ false → (t : Bool) → eqb (version_of bytes) 2 ≡ t → version_of bytes ≡ 2
stores bytes wrong true e = eqb-true (version_of bytes) 2 e
stores bytes wrong false e = absurd (true≢false (sym (first-own bytes (eqb-false (version_of bytes) 2 e)) ∙ wrong))

pub queue-refused : QueueRefused
unfolding position read_file read_tests in_order bind queue_test every
queue-refused bytes registry slashings header shaped settings finality good wrong =
    record {
      answer = rw (header, shaped, settings, finality, good, wrong);
      there = rw (le-ltb (length bytes) 80 (good-header bytes header).enough, header, shaped, settings, finality, good, wrong);
      stored = stores bytes wrong (eqb (version_of bytes) 2) refl;
    }
