-- Where the file ends, and input that holds none.
use mathlib.Core.Bool.{false}
use mathlib.Core.List.{List}
use mathlib.Core.Path.{◌≡◌, sym, ap, ◌∙◌}
use Prim.Native.Nat.{ℕ, ◌-◌, ◌≤◌, ◌<◌}
use native.Mathlib.Omega.{arith}
use borrow.Author.Tests.{lt-ltb, le-ltb, lt-leb}
use lib.ListN.{length, take, drop, length-take, length-drop, drop_of_length-le}
use lib.Seq.{take_all}
use Rattle.definitions.specs.Lists.{every}
use Rattle.definitions_file.specs.File.{number_at, good_header}
use Rattle.definitions_file.specs.Lines.{refused_line}
use Rattle.definitions_file.specs.OutageInput.{file_in, tail_in}
use Rattle.definitions_file.specs.Outage.{text_of, outage}
use Rattle.outage.proofs.Text.{text-headless}

module _ (input : List ℕ) {n : ℕ} (e : n ≡ number_at 8 input) where
  -- fewer bytes than the header says
  pub ends-early : length input < n → (take (length input) input ≡ file_in input) × (drop (length input) input ≡ tail_in input)
  ends-early l =
      let h : length input ≤ number_at 8 input = omega (arith, e, l) in
      let k : length input ≤ length input = omega arith in
      (take_all (length input) input k ∙ sym (take_all (number_at 8 input) input h), drop_of_length-le input k ∙ sym (drop_of_length-le input h))

  pub ends_there : (take n input ≡ file_in input) × (drop n input ≡ tail_in input)
  ends_there = (ap (λ (k : ℕ). take k input) e, ap (λ (k : ℕ). drop k input) e)

short-header : (file : List ℕ) → length file < 80 → good_header file ≡ false
unfolding good_header every
short-header file l = rw (lt-leb 80 (length file) l)

pub outage-long : (input : List ℕ) → 65536 < length input → outage input ≡ refused_line 6
unfolding outage
outage-long input l = rw (lt-ltb 65536 (length input) l)

pub outage-of : (input : List ℕ) → length input ≤ 65536 → text_of (file_in input) (tail_in input) ≡ outage input
unfolding outage
outage-of input l = rw (le-ltb 65536 (length input) l)

pub outage-short : (input : List ℕ) → length input < 80 → outage input ≡ refused_line 6
outage-short input l =
    let k : length input ≤ 65536 = omega arith in
    let m : length (file_in input) < 80 = simp length-take (omega arith) in
    sym (outage-of input k) ∙ text-headless (file_in input) (tail_in input) (short-header (file_in input) m)

-- `n` is where the file ends
pub parted : (input : List ℕ) (n : ℕ) → take n input ≡ file_in input → drop n input ≡ tail_in input → length input ≤ 65536 → text_of (take n input) (take (length input - n) (drop n input)) ≡ outage input
parted input n a b l =
    let m : length (drop n input) ≤ length input - n = omega (arith, length-drop n input) in
    rw (take_all (length input - n) (drop n input) m, a, b) (outage-of input l)
