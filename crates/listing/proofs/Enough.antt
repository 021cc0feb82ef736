-- The rooms and the text are long enough for every file.
use mathlib.Core.Bool.{Bool, true, false}
use mathlib.Core.List.{List, ◌++◌}
use mathlib.Core.Path.{◌≡◌, refl, sym, ap, ◌∙◌}
use Prim.Native.Nat.{ℕ, ◌+◌, ◌*◌, ◌≤◌, ◌<◌}
use native.Mathlib.Omega.{arith}
use borrow.Author.Tests.{le-leb, lt-leb}
use lib.ListN.{length, take, drop}
use lib.Seq.{length-take-le, sets-eq}
use Rattle.definitions_file.specs.declared.Header.{Header}
use Rattle.definitions_file.specs.File.{good_header, header_read}
use Rattle.definitions_file.specs.Listing.{listing}
use Rattle.fields.specs.Put.{Put}
use Rattle.laws_file.proofs.Passed.{good-header}
use Rattle.listing.specs.Printed.{Exact, longest, printed_text, printed_length}

pub record Few (h : Header) : Type 0 where
  pub validators : h.validators ≤ 814
  pub slashings : h.slashings ≤ 8146

few-by : (bytes : List ℕ) (g : Bool) → good_header bytes ≡ g → length bytes ≤ 65536 → Few (header_read bytes)
unfolding header_read
few-by bytes true q l = let n = (good-header bytes q).long in rw q (record { validators = omega arith; slashings = omega arith })
few-by bytes false q l = rw q (record { validators = omega arith; slashings = omega arith })

-- `h` is the header that was read
module _ (bytes : List ℕ) {h : Header} (e : h ≡ header_read bytes) (l : length bytes ≤ 65536) where
  pub few : Few h
  few = rw e (few-by bytes (good_header bytes) refl l)

  pub exact : (registry slashings closing_registry closing_slashings : List ℕ) {text : List ℕ} → 8146 ≡ length registry → 8146 ≡ length slashings → 8146 ≡ length closing_registry → 8146 ≡ length closing_slashings → longest ≤ length text → Exact bytes (take (10 * h.validators) registry) (take h.slashings slashings) (take (10 * h.validators) closing_registry) (take h.slashings closing_slashings) text
  exact registry slashings closing_registry closing_slashings a b c d t =
      let f = few in
      let n = length-take-le (10 * h.validators) registry (omega (arith, f, a)) in
      let m = length-take-le h.slashings slashings (omega (arith, f, b)) in
      record {
        short = l;
        entries = n ∙ ap (λ (k : Header). 10 * k.validators) e;
        sums = m ∙ ap (λ (k : Header). k.slashings) e;
        closing-entries = length-take-le (10 * h.validators) closing_registry (omega (arith, f, c)) ∙ sym n;
        closing-sums = length-take-le h.slashings closing_slashings (omega (arith, f, d)) ∙ sym m;
        room = omega (arith, f.validators, t, ap (λ (k : Header). k.validators) e);
      }

-- what the caller learns
abbrev pub Printed : List ℕ → List ℕ → List ℕ → ℕ → Type 0
Printed bytes before after r = record {
  value : r ≡ printed_length bytes before;
  text_after : after ≡ printed_text bytes before;
  upper_bound : (r ≤ length after) × (r ≡ length (take r after));
}

pub too_short : (bytes text : List ℕ) → length text < longest → Printed bytes text text 0
unfolding printed_length printed_text
too_short bytes text l =
    let e = lt-leb longest (length text) l in
    record { value = rw e; text_after = rw e; upper_bound = (omega arith, refl) }

pub long-enough : (bytes : List ℕ) {before after : List ℕ} {r : ℕ} → longest ≤ length before → Put before 0 (listing bytes) after r → r ≤ length before → length after ≡ length before → Printed bytes before after r
unfolding printed_length printed_text
long-enough bytes {before} {after} {r} t p l m =
    let e = le-leb longest (length before) t in
    let z : 0 + length (listing bytes) ≡ length (listing bytes) = omega arith in
    let inside : r ≤ length after = omega (arith, l, m) in
    let held = p.held ∙ sets-eq (listing bytes) before 0 (omega (arith, p.stopped, l)) ∙ ap (λ (k : ℕ). listing bytes ++ drop k before) z in
    record { value = rw e (p.stopped ∙ z); text_after = rw e held; upper_bound = (inside, sym (length-take-le r after inside)) }
