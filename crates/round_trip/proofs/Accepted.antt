-- An accepted file of version 2, read and then written, is the same bytes.
use mathlib.Core.Path.{◌≡◌, refl, ap, subst, ◌∙◌}
use mathlib.Core.List.{List}
use Prim.Native.Nat.{ℕ, ◌+◌, ◌*◌, ◌≤◌}
use native.Mathlib.Omega.{arith}
use lib.Dec.{lit≤}
use lib.ListN.{length, take, drop, length-drop}
use lib.Seq.{take_all, length-take-le}
use Rattle.definitions.specs.Checked.{value}
use Rattle.definitions.specs.Refusals.{settings_numbers}
use Rattle.definitions_file.specs.File.{Contents, little_endian, version_of, validators_at, queue_from, queue_in, queue_to_bytes, numbers_to_bytes, numbers_from_bytes, number_at, count_of, root_count_of, slashing_count_of, roots_at, slashings_at, file_length, header, checkpoint_to_bytes, checkpoint_at, finality_to_bytes, finality_from, file_of, contents_of, read_tests, read_file, write_tests}
use Rattle.laws.proofs.Checked.{bound, value_same}
use Rattle.round_trip.specs.RoundTrip.{Below, TypedCheckpoint, Typed, TypedQueue, SameBytes, ReadWritten}
use Rattle.round_trip.proofs.Numbers.{below-take, below-drop, number-below, from_bytes_below, eight-written, numbers-written}
use Rattle.round_trip.proofs.Parts.{join}
use Rattle.laws_file.proofs.Tests.{count_in, root_count_in, slashing_count_in, good_write}
use Rattle.laws_file.proofs.Passed.{Accepted, read-passed, accepted}
use Rattle.laws_file.proofs.Tests.{is-file}

module _ (bytes : List ℕ) (b : Below 256 bytes) where
  number-written : (o : ℕ) → o + 8 ≤ length bytes → little_endian 8 (number_at o bytes) ≡ take 8 (drop o bytes)
  number-written o h =
      eight-written (take 8 (drop o bytes)) (below-take 8 (below-drop o b)) (length-take-le 8 (drop o bytes) (omega (arith, length-drop o bytes)))

  run-written : (o n : ℕ) → o + 8 * n ≤ length bytes → numbers_to_bytes (numbers_from_bytes n (drop o bytes)) ≡ take (8 * n) (drop o bytes)
  run-written o n h = numbers-written n (drop o bytes) (below-drop o b) (omega (arith, length-drop o bytes))

  checkpoint-written : (o : ℕ) → o + 40 ≤ length bytes → checkpoint_to_bytes (checkpoint_at o bytes) ≡ take 40 (drop o bytes)
  checkpoint-written o h = rw (number-written o (omega arith)) (join o 8 (o + 8) 32 40 bytes refl refl)

  finality-written : 368 ≤ length bytes → finality_to_bytes (finality_from bytes) ≡ take 136 (drop 232 bytes)
  finality-written h =
      rw (
        number-written 232 (omega arith),
        number-written 240 (omega arith),
        checkpoint-written 248 (omega arith),
        checkpoint-written 288 (omega arith),
        checkpoint-written 328 (omega arith),
        join 232 8 240 8 16 bytes refl refl,
        join 232 16 248 40 56 bytes refl refl,
        join 232 56 288 40 96 bytes refl refl,
      )
      (join 232 96 328 40 136 bytes refl refl)

  queue-written : 384 ≤ length bytes → queue_to_bytes (queue_from bytes) ≡ take 16 (drop 368 bytes)
  queue-written h = rw (number-written 368 (omega arith), number-written 376 (omega arith)) (join 368 8 376 8 16 bytes refl refl)

  settings-written : 368 ≤ length bytes → numbers_to_bytes (settings_numbers (contents_of bytes).settings) ≡ take 152 (drop 80 bytes)
  unfolding contents_of numbers_from_bytes
  settings-written h = run-written 80 19 (omega arith)

  queue-typed : TypedQueue (queue_from bytes)
  queue-typed = record { last = number-below 368 b; number = number-below 376 b }

  module _ (a : Accepted bytes) (v : version_of bytes ≡ 2) where
    queue-stored : queue_in bytes ≡ queue_from bytes
    unfolding queue_in
    queue-stored = rw v

    numbers : numbers_from_bytes 10 bytes ≡ header 2 (count_of bytes) (root_count_of bytes) (slashing_count_of bytes)
    numbers = a.header.numbers ∙ ap (λ (version : ℕ). header version (count_of bytes) (root_count_of bytes) (slashing_count_of bytes)) v

    header-written : numbers_to_bytes (header 2 (count_in (contents_of bytes)) (root_count_in (contents_of bytes)) (slashing_count_in (contents_of bytes))) ≡ take 80 bytes
    header-written = rw (a.count, a.root-count, a.slashing-count, ← numbers) (run-written 0 10 (omega (arith, a.header.long)))

    finality-part : finality_to_bytes (contents_of bytes).finality ≡ take 136 (drop 232 bytes)
    unfolding contents_of
    finality-part = finality-written (omega (arith, a.header.long))

    registry-written : numbers_to_bytes (contents_of bytes).registry ≡ take (80 * count_of bytes) (drop 384 bytes)
    unfolding contents_of
    registry-written =
        let n = count_of bytes in
        let e : 8 * (10 * n) ≡ 80 * n = omega arith in
        rw (v, ← e) (run-written 384 (10 * n) (omega (arith, a.header.long)))

    roots-written : (contents_of bytes).roots ≡ take (32 * root_count_of bytes) (drop (roots_at 2 (count_of bytes)) bytes)
    unfolding contents_of
    roots-written = rw v

    slashings-written : numbers_to_bytes (contents_of bytes).slashings ≡ take (8 * slashing_count_of bytes) (drop (slashings_at 2 (count_of bytes) (root_count_of bytes)) bytes)
    unfolding contents_of
    slashings-written = rw v (run-written (slashings_at 2 (count_of bytes) (root_count_of bytes)) (slashing_count_of bytes) (omega (arith, a.header.long)))

    checkpoint-typed : (o : ℕ) → o + 40 ≤ 368 → TypedCheckpoint (checkpoint_at o bytes)
    checkpoint-typed o h =
        record {
          epoch = number-below o b;
          root = below-take 32 (below-drop (o + 8) b);
          thirty_two = length-take-le 32 (drop (o + 8) bytes) (omega (arith, a.header.long, length-drop (o + 8) bytes));
        }

    contents-typed : Typed (contents_of bytes)
    unfolding contents_of numbers_from_bytes
    contents-typed =
        record {
          settings = from_bytes_below 19 (below-drop 80 b);
          slot = number-below 232 b;
          bits = number-below 240 b;
          previous = checkpoint-typed 248 (lit≤ tt);
          current = checkpoint-typed 288 (lit≤ tt);
          finalized = checkpoint-typed 328 (lit≤ tt);
          registry = from_bytes_below (10 * count_of bytes) (below-drop (validators_at (version_of bytes)) b);
          roots = below-take (32 * root_count_of bytes) (below-drop (roots_at (version_of bytes) (count_of bytes)) b);
          slashings = from_bytes_below (slashing_count_of bytes) (below-drop (slashings_at (version_of bytes) (count_of bytes) (root_count_of bytes)) b);
        }

    file-written : file_of (contents_of bytes) (queue_from bytes) ≡ bytes
    unfolding file_of
    file-written =
        let n = count_of bytes in
        let S = root_count_of bytes in
        let L = slashing_count_of bytes in
        rw (
          header-written,
          settings-written (omega (arith, a.header.long)),
          finality-part,
          queue-written (omega (arith, a.header.long)),
          registry-written,
          roots-written,
          slashings-written,
          join 0 80 80 152 232 bytes refl refl,
          join 0 232 232 136 368 bytes refl refl,
          join 0 368 368 16 384 bytes refl refl,
          join 0 384 384 (80 * n) (roots_at 2 n) bytes refl refl,
          join 0 (roots_at 2 n) (roots_at 2 n) (32 * S) (slashings_at 2 n S) bytes (omega arith) refl,
          join 0 (slashings_at 2 n S) (slashings_at 2 n S) (8 * L) (file_length 2 n S L) bytes (omega arith) refl,
        )
        (take_all (file_length 2 n S L) bytes (omega (arith, a.header.long)))

-- what an accepted read finds is what the bytes hold
contents-found : (bytes registry slashings : List ℕ) {c : Contents} → read_file bytes registry slashings ≡ value c → contents_of bytes ≡ c
unfolding read_file
contents-found bytes registry slashings e = value_same (bound (read_tests bytes registry slashings) (λ _. value (contents_of bytes)) e).then

pub read-written : ReadWritten
read-written bytes registry slashings file c b e v long =
    let d = contents_of bytes in
    let q = queue_in bytes in
    let a = accepted bytes registry slashings (read-passed bytes registry slashings e) in
    let as_long : length file ≡ file_length 2 (count_of bytes) (root_count_of bytes) (slashing_count_of bytes) = omega (arith, a.header.long) in
    let passes : write_tests d q file ≡ value tt = good_write d q file a.good (rw (a.count, a.root-count, a.slashing-count) as_long) a.queue in
    let stored = queue-stored bytes b a v in
    let same : SameBytes d q bytes file =
    record {
      typed = contents-typed bytes b a v;
      typed-pair = rw stored (queue-typed bytes b);
      passes = passes;
      same = is-file d q file passes ∙ rw stored (file-written bytes b a v);
    }
    in
    subst (λ (c : Contents). SameBytes c q bytes file) (contents-found bytes registry slashings e) same
