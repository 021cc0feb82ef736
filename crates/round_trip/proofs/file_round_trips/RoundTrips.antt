-- The round trips of the definitions, at what the functions answered.
use mathlib.Core.Path.{◌≡◌, refl, sym, ap, ◌∙◌}
use mathlib.Core.Bool.{true}
use mathlib.Core.List.{List}
use Prim.Native.Nat.{ℕ}
use lib.ListN.{length}
use Rattle.definitions.specs.declared.ExitQueue.{ExitQueue}
use Rattle.definitions.specs.Checked.{value, bind, code_of}
use Rattle.definitions_file.specs.File.{Contents, queue_in, write_tests, written, contents_of, good_header, read_tests, read_file, ReadOutcome, read}
use Rattle.round_trip.specs.RoundTrip.{Below, Typed, TypedQueue}
use Rattle.round_trip.proofs.Written.{written_read}
use Rattle.round_trip.proofs.Accepted.{read-written}
use Rattle.round_trip.specs.Functions.{Passes, Accepted, SameBytes}
use Rattle.record_file.proofs.Reading.{read-code, read-accepted, read-lengths}

abbrev same : Contents → ExitQueue → List ℕ → ReadOutcome
same c q file = record { refusal = 0; position = length file; contents = c; queue = q }

-- what is read of what was written
pub read_back : (c : Contents) (q : ExitQueue) (file registry slashings : List ℕ) {bytes : List ℕ} → Typed c → TypedQueue q → bytes ≡ written c q file → Passes c q file registry slashings → read bytes registry slashings ≡ same c q file
read_back c q file registry slashings t u e p =
    ap (λ (b : List ℕ). read b registry slashings) e ∙ (written_read c q file registry slashings t u p.as_many p.as_long p.tests).outcome

-- it has a header, and the record's roots behind it
pub written-roots : (c : Contents) (q : ExitQueue) (file : List ℕ) {bytes : List ℕ} → Typed c → TypedQueue q → bytes ≡ written c q file → write_tests c q file ≡ value tt → (good_header bytes ≡ true) × ((contents_of bytes).roots ≡ c.roots)
written-roots c q file {bytes} t u e p =
    let r = c.registry in
    let s = c.slashings in
    let back = read_back c q file r s t u e (record { tests = p; as_many = refl; as_long = refl }) in
    let z = ap (λ (o : ReadOutcome). o.refusal) back in
    let held = (read-accepted bytes r s (read-code bytes r s) z).contents in
    ((read-lengths bytes r s (read-code bytes r s) z).header, ap (λ (k : Contents). k.roots) (sym held ∙ ap (λ (o : ReadOutcome). o.contents) back))

module _ (bytes registry slashings : List ℕ) (e : read_tests bytes registry slashings ≡ value tt) where
  found : read_file bytes registry slashings ≡ value (contents_of bytes)
  unfolding read_file bind
  found = rw e

  pair_found : (read bytes registry slashings).queue ≡ queue_in bytes
  unfolding read bind
  pair_found = rw e

  pub contents-found : (read bytes registry slashings).contents ≡ contents_of bytes
  unfolding read
  contents-found = rw found

-- what is written of what was read
pub same_bytes : (bytes registry slashings file : List ℕ) (c : Contents) (q : ExitQueue) {r : ℕ} {after : List ℕ} → Below 256 bytes → c ≡ (read bytes registry slashings).contents → q ≡ (read bytes registry slashings).queue → r ≡ code_of (write_tests c q file) → after ≡ written c q file → Accepted bytes registry slashings file → SameBytes bytes r after
same_bytes bytes registry slashings file c q b e f answer after p =
    let k : c ≡ contents_of bytes = e ∙ contents-found bytes registry slashings p.tests in
    let m : q ≡ queue_in bytes = f ∙ pair_found bytes registry slashings p.tests in
    let s = read-written bytes registry slashings file (contents_of bytes) b (found bytes registry slashings p.tests) p.second p.as_long in
    record { accepted = answer ∙ rw (k, m) (ap code_of s.passes); same = after ∙ rw (k, m) s.same }
