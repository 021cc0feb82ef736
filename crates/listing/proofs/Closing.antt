-- What a close gives, by its refusal; of the closing buffers it asks the lengths alone.
use mathlib.Core.List.{List}
use mathlib.Core.Path.{◌≡◌, ◌∙◌}
use Prim.Native.Nat.{ℕ}
use lib.ListN.{length}
use Rattle.definitions_file.specs.File.{Contents}
use Rattle.definitions.specs.Close.{close_tests, limited_tests, closed, close}
use Rattle.definitions_file.specs.Listing.{call_of}
use Rattle.laws_file.proofs.Codes.{no-refusal}
use Rattle.refusals.proofs.Answers.{same-buffer}

-- Two closing buffers as long as two others

module _ (c : Contents) (xs ys : List ℕ) (us vs : List ℕ) (l : length xs ≡ length us) (m : length ys ≡ length vs) where
  same_tests : close_tests (call_of c xs ys) ≡ close_tests (call_of c us vs)
  unfolding limited_tests
  same_tests = rw (l, m)

  pub same-refusal : (close (call_of c xs ys)).refusal ≡ (close (call_of c us vs)).refusal
  unfolding close closed
  same-refusal = rw same_tests

  pub same-finality : (close (call_of c xs ys)).finality ≡ (close (call_of c us vs)).finality
  unfolding close closed
  same-finality = rw same_tests

  pub same-raised : (close (call_of c xs ys)).raised ≡ (close (call_of c us vs)).raised
  unfolding close closed
  same-raised = rw same_tests

  pub same-registry : (close (call_of c xs ys)).refusal ≡ 0 → (close (call_of c xs ys)).closing_registry ≡ (close (call_of c us vs)).closing_registry
  unfolding close closed
  same-registry e = same-buffer _ (close_tests (call_of c xs ys)) _ c.registry xs us (no-refusal _ e) ∙ rw same_tests
