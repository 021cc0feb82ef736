-- A record that passes 1, 2, 3 and 8, written and then read, is the same record.
use mathlib.Core.Path.{◌≡◌, refl, sym, ap, ◌∙◌}
use mathlib.Core.Bool.{true}
use mathlib.Core.List.{List, [], ◌∷◌, ◌++◌, append_assoc, append-nil}
use Prim.Native.Nat.{ℕ, ◌*◌, ◌^◌, ◌<◌}
use native.Mathlib.Omega.{arith}
use borrow.Author.Tests.{le-leb, eq-eqb}
use lib.Dec.{lit<}
use lib.ListN.{length, get_or, length-append}
use Rattle.definitions.specs.declared.Checkpoint.{Checkpoint}
use Rattle.definitions.specs.declared.ExitQueue.{ExitQueue}
use Rattle.definitions.specs.Lists.{every}
use Rattle.definitions.specs.Record.{decode}
use Rattle.definitions.specs.Checked.{value, bind}
use Rattle.definitions.specs.Refusals.{in_order, settings_numbers, settings_from}
use Rattle.definitions.specs.ExitQueue.{is_queue_of, queue_test}
use Rattle.definitions_file.specs.File.{Contents, little_endian, version_of, queue_in, numbers_to_bytes, numbers_from_bytes, number_at, count_of, root_count_of, slashing_count_of, roots_at, slashings_at, header, checkpoint_to_bytes, finality_to_bytes, file_of, contents_of, same_numbers, good_header, file_shaped, read_tests, read_file, position, read, written}
use Rattle.laws.proofs.Checked.{bound}
use Rattle.round_trip.specs.RoundTrip.{Below, Typed, TypedCheckpoint, TypedQueue, WrittenRead}
use Rattle.round_trip.proofs.Numbers.{below_nil, below_cons, below-append, little_below, to_bytes_below}
use Rattle.laws_file.proofs.Numbers.{length_little, length_to_bytes, number-at}
use Rattle.round_trip.proofs.Parts.{At, length-checkpoint, at_part, at_next, read_number, read-numbers, read-checkpoint}
use Rattle.laws_file.proofs.Tests.{Good, count_in, root_count_in, slashing_count_in, file_length_of, write_good, is-file}
use Rattle.round_trip.proofs.Refused.{read-to_end}

-- The file from each part on

abbrev header_of : Contents → List ℕ
header_of c = header 2 (count_in c) (root_count_in c) (slashing_count_in c)

abbrev from_roots : Contents → List ℕ
from_roots c = c.roots ++ (numbers_to_bytes c.slashings ++ [])

abbrev from_registry : Contents → List ℕ
from_registry c = numbers_to_bytes c.registry ++ from_roots c

abbrev from_number : Contents → ExitQueue → List ℕ
from_number c q = little_endian 8 q.number ++ from_registry c

abbrev from_queue : Contents → ExitQueue → List ℕ
from_queue c q = little_endian 8 q.last_epoch ++ from_number c q

abbrev from_finalized : Contents → ExitQueue → List ℕ
from_finalized c q = checkpoint_to_bytes c.finality.finalized_checkpoint ++ from_queue c q

abbrev from_current : Contents → ExitQueue → List ℕ
from_current c q = checkpoint_to_bytes c.finality.current_justified_checkpoint ++ from_finalized c q

abbrev from_previous : Contents → ExitQueue → List ℕ
from_previous c q = checkpoint_to_bytes c.finality.previous_justified_checkpoint ++ from_current c q

abbrev from_bits : Contents → ExitQueue → List ℕ
from_bits c q = little_endian 8 c.finality.justification_bits ++ from_previous c q

abbrev from_finality : Contents → ExitQueue → List ℕ
from_finality c q = little_endian 8 c.finality.slot ++ from_bits c q

abbrev from_settings : Contents → ExitQueue → List ℕ
from_settings c q = numbers_to_bytes (settings_numbers c.settings) ++ from_finality c q

same-numbers : (xs : List ℕ) → same_numbers xs xs ≡ true
unfolding same_numbers
same-numbers [] = refl
same-numbers (x ∷ xs) = rw (eq-eqb x x refl) (same-numbers xs)

checkpoint-below : {c : Checkpoint} → TypedCheckpoint c → Below 256 (checkpoint_to_bytes c)
checkpoint-below {c} t = below-append (little_below 8 c.epoch) t.root

finality-below : {c : Contents} → Typed c → Below 256 (finality_to_bytes c.finality)
finality-below {c} t =
    below-append (below-append (below-append (below-append (little_below 8 c.finality.slot) (little_below 8 c.finality.justification_bits)) (checkpoint-below t.previous)) (checkpoint-below t.current)) (checkpoint-below t.finalized)

module _ (c : Contents) (q : ExitQueue) (t : Typed c) (u : TypedQueue q) (g : Good c) where
  whole : At 0 (file_of c q) (numbers_to_bytes (header_of c)) (from_settings c q)
  unfolding file_of
  whole = record { there = simp (append_assoc, append-nil) }

  settings-at : At 80 (file_of c q) (numbers_to_bytes (settings_numbers c.settings)) (from_finality c q)
  settings-at = at_next whole (length_to_bytes (header_of c)) refl

  slot_at : At 232 (file_of c q) (little_endian 8 c.finality.slot) (from_bits c q)
  slot_at = at_next settings-at (length_to_bytes (settings_numbers c.settings)) refl

  bits_at : At 240 (file_of c q) (little_endian 8 c.finality.justification_bits) (from_previous c q)
  bits_at = at_next slot_at (length_little 8 c.finality.slot) refl

  previous-at : At 248 (file_of c q) (checkpoint_to_bytes c.finality.previous_justified_checkpoint) (from_current c q)
  previous-at = at_next bits_at (length_little 8 c.finality.justification_bits) refl

  current-at : At 288 (file_of c q) (checkpoint_to_bytes c.finality.current_justified_checkpoint) (from_finalized c q)
  current-at = at_next previous-at (length-checkpoint t.previous) refl

  finalized-at : At 328 (file_of c q) (checkpoint_to_bytes c.finality.finalized_checkpoint) (from_queue c q)
  finalized-at = at_next current-at (length-checkpoint t.current) refl

  last-at : At 368 (file_of c q) (little_endian 8 q.last_epoch) (from_number c q)
  last-at = at_next finalized-at (length-checkpoint t.finalized) refl

  queue-number_at : At 376 (file_of c q) (little_endian 8 q.number) (from_registry c)
  queue-number_at = at_next last-at (length_little 8 q.last_epoch) refl

  registry-at : At 384 (file_of c q) (numbers_to_bytes c.registry) (from_roots c)
  registry-at = at_next queue-number_at (length_little 8 q.number) refl

  roots-at : At (roots_at 2 (count_in c)) (file_of c q) c.roots (numbers_to_bytes c.slashings ++ [])
  roots-at = at_next registry-at (length_to_bytes c.registry) (omega (arith, g.entries))

  slashings-at : At (slashings_at 2 (count_in c) (root_count_in c)) (file_of c q) (numbers_to_bytes c.slashings) []
  slashings-at = at_next roots-at g.roots refl

  header-below : Below (2 ^ 64) (header_of c)
  header-below =
      let few = g.few in
      let roots = g.few-roots in
      let slashings = g.few-slashings in
      below_cons (omega arith) (below_cons (omega arith) (below_cons (omega arith) (below_cons (omega arith) (below_cons (omega arith) (below_cons (omega arith) (below_cons (omega arith) (below_cons (omega arith) (below_cons (omega arith) (below_cons (omega arith) below_nil)))))))))

  header_read : numbers_from_bytes 10 (file_of c q) ≡ header_of c
  header_read = read-numbers (header_of c) whole refl header-below

  header-number : (i : ℕ) → i < 10 → number_at (8 * i) (file_of c q) ≡ get_or (header_of c) i 0
  header-number i h = sym (number-at 10 i (file_of c q) h) ∙ ap (λ (xs : List ℕ). get_or xs i 0) header_read

  version : version_of (file_of c q) ≡ 2
  version = header-number 0 (lit< tt)

  count : count_of (file_of c q) ≡ count_in c
  count = header-number 2 (lit< tt)

  root-count : root_count_of (file_of c q) ≡ root_count_in c
  root-count = header-number 3 (lit< tt)

  slashing-count : slashing_count_of (file_of c q) ≡ slashing_count_in c
  slashing-count = header-number 4 (lit< tt)

  settings-read : (contents_of (file_of c q)).settings ≡ c.settings
  unfolding contents_of
  settings-read = ap settings_from (read-numbers (settings_numbers c.settings) settings-at refl t.settings)

  finality-read : (contents_of (file_of c q)).finality ≡ c.finality
  unfolding contents_of
  finality-read =
      rw (
        read_number slot_at t.slot,
        read_number bits_at t.bits,
        read-checkpoint c.finality.previous_justified_checkpoint previous-at t.previous,
        read-checkpoint c.finality.current_justified_checkpoint current-at t.current,
        read-checkpoint c.finality.finalized_checkpoint finalized-at t.finalized,
      )

  registry-read : (contents_of (file_of c q)).registry ≡ c.registry
  unfolding contents_of
  registry-read = rw (version, count) (read-numbers c.registry registry-at g.entries t.registry)

  roots-read : (contents_of (file_of c q)).roots ≡ c.roots
  unfolding contents_of
  roots-read = rw (version, count, root-count) (at_part roots-at g.roots)

  slashings-read : (contents_of (file_of c q)).slashings ≡ c.slashings
  unfolding contents_of
  slashings-read = rw (version, count, root-count, slashing-count) (read-numbers c.slashings slashings-at g.slashings t.slashings)

  contents-read : contents_of (file_of c q) ≡ c
  contents-read =
      λ i. record { settings = settings-read i; finality = finality-read i; registry = registry-read i; roots = roots-read i; slashings = slashings-read i }

  queue-read : queue_in (file_of c q) ≡ q
  unfolding queue_in
  queue-read = rw (version, read_number last-at u.last, read_number queue-number_at u.number)

  length-file : length (file_of c q) ≡ file_length_of c
  unfolding file_of
  length-file =
      simp (length-append, length_to_bytes, length_little) (omega (arith, t.previous.thirty_two, t.current.thirty_two, t.finalized.thirty_two, g.entries, g.roots, g.slashings))

  file-below : Below 256 (file_of c q)
  unfolding file_of
  file-below =
      below-append (below-append (below-append (below-append (below-append (below-append (to_bytes_below (header_of c)) (to_bytes_below (settings_numbers c.settings))) (finality-below t)) (below-append (little_below 8 q.last_epoch) (little_below 8 q.number))) (to_bytes_below c.registry)) t.roots) (to_bytes_below c.slashings)

  header-good : good_header (file_of c q) ≡ true
  unfolding good_header every
  header-good = rw (version, count, root-count, slashing-count, header_read, same-numbers, le-leb 80 (length (file_of c q)) (omega (arith, length-file)), eq-eqb _ _ length-file)

  shape-good : (registry slashings : List ℕ) → length registry ≡ length c.registry → length slashings ≡ length c.slashings → file_shaped (file_of c q) registry slashings ≡ true
  unfolding file_shaped every
  shape-good registry slashings r s =
      rw (
        contents-read,
        count,
        root-count,
        slashing-count,
        le-leb _ _ g.few,
        le-leb _ _ g.some-roots,
        le-leb _ _ g.few-roots,
        le-leb _ _ g.some-slashings,
        le-leb _ _ g.few-slashings,
        eq-eqb (root_count_in c) (root_count_in c) refl,
        eq-eqb (slashing_count_in c) (slashing_count_in c) refl,
        eq-eqb _ _ (r ∙ g.entries),
        eq-eqb _ _ (s ∙ g.slashings),
      )

  file-read : is_queue_of q (decode c.registry) ≡ true → (registry slashings : List ℕ) → length registry ≡ length c.registry → length slashings ≡ length c.slashings → read_file (file_of c q) registry slashings ≡ value c
  unfolding read_file read_tests in_order bind queue_test every
  file-read p registry slashings r s = rw (contents-read, queue-read, header-good, shape-good registry slashings r s, g.settings, g.finality, g.registry, p)

tests-passed : (bytes registry slashings : List ℕ) {c : Contents} → read_file bytes registry slashings ≡ value c → read_tests bytes registry slashings ≡ value tt
unfolding read_file
tests-passed bytes registry slashings {c} e = (bound (read_tests bytes registry slashings) (λ _. value (contents_of bytes)) e).gave

outcome-of : (bytes registry slashings : List ℕ) (c : Contents) (q : ExitQueue) (n : ℕ) → read_file bytes registry slashings ≡ value c → queue_in bytes ≡ q → position bytes registry slashings ≡ n → read bytes registry slashings ≡ record { refusal = 0; position = n; contents = c; queue = q }
unfolding read bind
outcome-of bytes registry slashings c q n e f p = rw (e, p, tests-passed bytes registry slashings e, f)

pub written_read : WrittenRead
written_read c q file registry slashings t u r s e =
    let passed = write_good c q file e in
    let good = passed.good in
    let w = is-file c q file e in
    let long : length (written c q file) ≡ length file = ap length w ∙ length-file c q t u good ∙ sym passed.long in
    let same : read_file (written c q file) registry slashings ≡ value c = rw w (file-read c q t u good passed.queue registry slashings r s) in
    let pair : queue_in (written c q file) ≡ q = rw w (queue-read c q t u good) in
    let end = read-to_end (written c q file) registry slashings c same in
    record {
      as_long = long;
      bytes = rw w (file-below c q t u good);
      second = rw w (version c q t u good);
      same = same;
      pair = pair;
      to_end = end;
      outcome = outcome-of (written c q file) registry slashings c q (length file) same pair (end ∙ long);
    }
