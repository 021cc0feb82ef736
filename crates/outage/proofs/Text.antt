-- The text of a file and a tail, by what their tests say.
use mathlib.Core.Bool.{true, false}
use mathlib.Core.List.{List}
use mathlib.Core.Path.{◌≡◌, sym, ◌∙◌}
use Prim.Native.Nat.{ℕ}
use native.Mathlib.Omega.{arith}
use Rattle.definitions.specs.Checked.{bind}
use Rattle.definitions_file.specs.File.{Contents, good_header, count_of, contents_of, read_tests, read_file, read}
use Rattle.definitions_file.specs.Lines.{refused_line}
use Rattle.definitions_file.specs.Listing.{opened}
use Rattle.listing.proofs.listing_close.Printed.{or_refused_lem, or_text}
use Rattle.listing.proofs.Opened.{opened-contents}
use Rattle.definitions_file.specs.OutageInput.{Plan, epochs_in, plan_from, good_tail}
use Rattle.definitions_file.specs.OutageRun.{run}
use Rattle.definitions_file.specs.Outage.{run_text, text_of}

headless-six : (file : List ℕ) → good_header file ≡ false → 6 ≡ (opened file).refusal
unfolding read read_file read_tests bind
headless-six file g = rw g

module _ (file tail : List ℕ) where
  pub text-refused : {x : ℕ} → x ≡ (opened file).refusal → (x ≡ 0 → ⊥) → text_of file tail ≡ refused_line x
  unfolding text_of
  text-refused e z = or_refused_lem _ e z

  pub text-headless : good_header file ≡ false → text_of file tail ≡ refused_line 6
  text-headless g = text-refused (headless-six file g) (λ z. absurd (omega arith))

  module _ (z : (opened file).refusal ≡ 0) where
    pub text-tail : good_tail (count_of file) tail ≡ false → text_of file tail ≡ refused_line 1
    unfolding text_of
    text-tail g = or_text _ z ∙ rw g

    -- `c` is the file's record
    pub text-run : {c : Contents} {p : Plan} {epochs : ℕ} → c ≡ contents_of file → p ≡ plan_from (count_of file) tail → epochs ≡ epochs_in tail → good_tail (count_of file) tail ≡ true → run_text c (run p epochs c) ≡ text_of file tail
    unfolding text_of
    text-run a b d g = rw (a, b, d) (sym (or_text _ z ∙ rw (g, opened-contents file z)))
