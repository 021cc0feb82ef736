-- The fronts of buffers that are long enough for every file.
use mathlib.Core.Bool.{Bool, true, false}
use mathlib.Core.List.{List}
use mathlib.Core.Path.{◌≡◌, refl, ap, ◌∙◌}
use Prim.Native.Nat.{ℕ, ◌*◌, ◌≤◌}
use native.Mathlib.Omega.{arith}
use lib.ListN.{length, take}
use lib.Seq.{length-take-le}
use Rattle.definitions_file.specs.File.{good_header, count_of, root_count_of, slashing_count_of, header_read}
use Rattle.laws_file.proofs.Passed.{good-header}
use Rattle.definitions_file.specs.declared.Header.{Header}
use Rattle.outage.specs.Lent.{Exact, Enough}

-- 65536 bytes hold no more
pub record Few (file : List ℕ) : Type 0 where
  pub entries : 10 * count_of file ≤ 8140
  pub sums : slashing_count_of file ≤ 8146
  pub places : 32 * root_count_of file ≤ 65168

pub few : (file : List ℕ) → good_header file ≡ true → length file ≤ 65536 → Few file
few file g l =
    let n = (good-header file g).long in
    record { entries = omega (arith, n, l); sums = omega (arith, n, l); places = omega (arith, n, l) }

-- what the code's header says of the file
pub record Counted (file : List ℕ) (h : Header) : Type 0 where
  pub good : good_header file ≡ true
  pub validators : h.validators ≡ count_of file
  pub slashings : h.slashings ≡ slashing_count_of file
  pub roots : h.roots ≡ root_count_of file

counted-by : (file : List ℕ) (t : Bool) {h : Header} → good_header file ≡ t → h ≡ header_read file → h.refusal ≡ 0 → Counted file h
unfolding header_read
counted-by file true g e z =
    let k = rw g at e in
    record { good = g; validators = ap (λ (h : Header). h.validators) k; slashings = ap (λ (h : Header). h.slashings) k; roots = ap (λ (h : Header). h.roots) k }
counted-by file false g e z =
    let k = rw g at e in
    absurd (omega (arith, ap (λ (h : Header). h.refusal) k, z))

pub counted : (file : List ℕ) {h : Header} → h ≡ header_read file → h.refusal ≡ 0 → Counted file h
counted file e z = counted-by file (good_header file) refl e z

headless-by : (file : List ℕ) (t : Bool) {h : Header} → good_header file ≡ t → h ≡ header_read file → (h.refusal ≡ 0 → ⊥) → good_header file ≡ false
unfolding header_read
headless-by file true g e z = let k = rw g at e in absurd (z (ap (λ (h : Header). h.refusal) k))
headless-by file false g e z = g

pub headless : (file : List ℕ) {h : Header} → h ≡ header_read file → (h.refusal ≡ 0 → ⊥) → good_header file ≡ false
headless file e z = headless-by file (good_header file) refl e z

-- each front lies within its buffer
pub record Fit (h : Header) (opening absences registry slashings roots closing_registry closing_slashings : List ℕ) : Type 0 where
  pub openings : 10 * h.validators ≤ length opening
  pub pairs : 2 * h.validators ≤ length absences
  pub entries : 10 * h.validators ≤ length registry
  pub sums : h.slashings ≤ length slashings
  pub places : 32 * h.roots ≤ length roots
  pub closing-entries : 10 * h.validators ≤ length closing_registry
  pub closing-sums : h.slashings ≤ length closing_slashings

module _ {file opening absences registry slashings roots closing_registry closing_slashings text : List ℕ} (b : Enough file opening absences registry slashings roots closing_registry closing_slashings text) {h : Header} (k : Counted file h) where
  pub held : Few file
  held = few file k.good b.short

  pub fit : Fit h opening absences registry slashings roots closing_registry closing_slashings
  fit =
      let f = held in
      record {
        openings = omega (arith, k.validators, f.entries, b.openings);
        pairs = omega (arith, k.validators, f.entries, b.pairs);
        entries = omega (arith, k.validators, f.entries, b.entries);
        sums = omega (arith, k.slashings, f.sums, b.sums);
        places = omega (arith, k.roots, f.places, b.places);
        closing-entries = omega (arith, k.validators, f.entries, b.closing-entries);
        closing-sums = omega (arith, k.slashings, f.sums, b.closing-sums);
      }

  pub exact : Exact file (take (10 * h.validators) opening) (take (2 * h.validators) absences) (take (10 * h.validators) registry) (take h.slashings slashings) (take (32 * h.roots) roots) (take (10 * h.validators) closing_registry) (take h.slashings closing_slashings) text
  exact =
      record {
        header = k.good;
        few = omega (arith, held.entries);
        openings = length-take-le (10 * h.validators) opening fit.openings ∙ ap (λ (n : ℕ). 10 * n) k.validators;
        pairs = length-take-le (2 * h.validators) absences fit.pairs ∙ ap (λ (n : ℕ). 2 * n) k.validators;
        entries = length-take-le (10 * h.validators) registry fit.entries ∙ ap (λ (n : ℕ). 10 * n) k.validators;
        sums = length-take-le h.slashings slashings fit.sums ∙ k.slashings;
        places = length-take-le (32 * h.roots) roots fit.places ∙ ap (λ (n : ℕ). 32 * n) k.roots;
        closing-entries = length-take-le (10 * h.validators) closing_registry fit.closing-entries ∙ ap (λ (n : ℕ). 10 * n) k.validators;
        closing-sums = length-take-le h.slashings closing_slashings fit.closing-sums ∙ k.slashings;
        bytes = b.bytes;
      }
