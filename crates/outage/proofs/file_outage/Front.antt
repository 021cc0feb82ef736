-- The text at the front of the lent bytes.
use mathlib.Core.List.{List, ◌++◌}
use mathlib.Core.Path.{◌≡◌, refl, sym, ap, ◌∙◌}
use Prim.Native.Nat.{ℕ, ◌+◌, ◌≤◌, ◌<◌}
use native.Mathlib.Omega.{arith}
use borrow.Author.Tests.{le-leb, lt-leb}
use lib.ListN.{length, take, drop}
use lib.Seq.{length-take-le, sets-eq}
use Rattle.fields.proofs.decimals.Put.{put-length}
use Rattle.definitions_file.specs.Outage.{outage}
use Rattle.outage.specs.Lent.{Printed}
use Rattle.outage.specs.Text.{longest, printed_text, printed_length}

-- what the caller learns
pub record Fronted (input before after : List ℕ) (r : ℕ) : Type 0 where
  pub count : r ≡ printed_length input before
  pub text : after ≡ printed_text input before
  pub inside : r ≤ length after
  pub front : r ≡ length (take r after)

pub too_short : (input text : List ℕ) → length text < 964000 → Fronted input text text 0
unfolding printed_length printed_text
too_short input text l =
    let e = lt-leb longest (length text) l in
    record { count = rw e; text = rw e; inside = omega arith; front = refl }

pub long-enough : (input : List ℕ) {before after : List ℕ} {r : ℕ} → 964000 ≤ length before → Printed (outage input) before after r → Fronted input before after r
unfolding printed_length printed_text
long-enough input {before} {after} {r} l p =
    let e = le-leb longest (length before) l in
    let z : 0 + length (outage input) ≡ length (outage input) = omega arith in
    let held = p.put.held ∙ sets-eq (outage input) before 0 (omega (arith, p.put.stopped, p.inside)) ∙ ap (λ (k : ℕ). outage input ++ drop k before) z in
    let inside : r ≤ length after = omega (arith, p.inside, put-length p.put) in
    record {
      count = rw e (p.put.stopped ∙ z);
      text = rw e held;
      inside = inside;
      front = sym (length-take-le r after inside);
    }
