-- One close, into closing buffers of any contents. `r`, `us` and `vs` are what it gave.
use mathlib.Core.List.{List}
use mathlib.Core.Path.{◌≡◌, refl, sym, ap, ◌∙◌}
use Prim.Native.Nat.{ℕ, ◌+◌, ◌≤◌}
use native.Mathlib.Omega.{arith}
use borrow.Author.Tests.{eq-eqb, ne_eqb}
use lib.ListN.{length}
use Rattle.definitions.specs.declared.CloseAnswer.{CloseAnswer}
use Rattle.definitions_file.specs.File.{Contents}
use Rattle.definitions.specs.Close.{Outcome, close_tests, limited_tests, closed, close}
use Rattle.close.specs.Called.{outcome}
use Rattle.fields.specs.Put.{Put}
use Rattle.definitions_file.specs.Listing.{call_of, closing}
use Rattle.listing.proofs.Closing.{same-refusal, same-finality, same-registry}
use Rattle.definitions_file.specs.OutageRun.{head_of, closed_with, close_once}
use Rattle.listing_lines.specs.Sizes.{longest_head}
use Rattle.outage.specs.Went.{Went}
use Rattle.laws_file.proofs.Codes.{no-refusal}
use Rattle.refusals.proofs.Answers.{same-buffer}

module _ (c : Contents) (xs ys : List ℕ) (l : length xs ≡ length c.registry) (m : length ys ≡ length c.slashings) where
  same_tests : close_tests (call_of c xs ys) ≡ close_tests (closing c)
  unfolding limited_tests
  same_tests = rw (l, m)

  same-raised : (close (call_of c xs ys)).raised ≡ (close (closing c)).raised
  unfolding close closed
  same-raised = rw same_tests

  same-slashings : (close (call_of c xs ys)).refusal ≡ 0 → (close (call_of c xs ys)).closing_slashings ≡ (close (closing c)).closing_slashings
  unfolding close closed
  same-slashings e = same-buffer _ (close_tests (call_of c xs ys)) _ c.slashings ys c.slashings (no-refusal _ e) ∙ rw same_tests

  module _ {r : CloseAnswer} {us vs : List ℕ} (e : outcome r us vs ≡ close (call_of c xs ys)) where
    code : (close (closing c)).refusal ≡ r.refusal
    code = sym (ap (λ (o : Outcome). o.refusal) e ∙ same-refusal c xs ys c.registry c.slashings l m)

    finality : (close (closing c)).finality ≡ r.finality
    finality = sym (ap (λ (o : Outcome). o.finality) e ∙ same-finality c xs ys c.registry c.slashings l m)

    raised : (close (closing c)).raised ≡ r.raised
    raised = sym (ap (λ (o : Outcome). o.raised) e ∙ same-raised)

    pub once-refused : {text : List ℕ} {at : ℕ} → (r.refusal ≡ 0 → ⊥) → Went (close_once c) 1 text at text r.refusal c at
    unfolding close_once
    once-refused {text} {at} z =
        rw (code, ne_eqb r.refusal 0 z)
        (record { code = refl; stands = refl; put = record { held = refl; stopped = omega arith }; inside = omega arith })

    module _ (z : r.refusal ≡ 0) where
      accepted : (close (call_of c xs ys)).refusal ≡ 0
      accepted = sym (ap (λ (o : Outcome). o.refusal) e) ∙ z

      entries : us ≡ (close (closing c)).closing_registry
      entries = ap (λ (o : Outcome). o.closing_registry) e ∙ same-registry c xs ys c.registry c.slashings l m accepted

      sums : vs ≡ (close (closing c)).closing_slashings
      sums = ap (λ (o : Outcome). o.closing_slashings) e ∙ same-slashings accepted

      left : closed_with c (outcome r us vs) ≡ closed_with c (close (closing c))
      left = λ i. record { settings = c.settings; finality = sym finality i; registry = entries i; roots = c.roots; slashings = sums i }

      line : head_of (call_of c xs ys) (outcome r us vs) ≡ head_of (closing c) (close (closing c))
      unfolding head_of
      line = rw (finality, raised)

      pub once_closed : {text after : List ℕ} {at last : ℕ} → Put text at (head_of (call_of c xs ys) (outcome r us vs)) after last → last ≤ at + longest_head → Went (close_once c) 1 text at after 0 (closed_with c (outcome r us vs)) last
      unfolding close_once
      once_closed p h = rw (eq-eqb (close (closing c)).refusal 0 (code ∙ z)) (record { code = refl; stands = left; put = rw line at p; inside = omega arith })

pub went-same : {c d : Contents} {before : List ℕ} {at : ℕ} {after : List ℕ} {number : ℕ} {left : Contents} {last : ℕ} → c ≡ d → Went (close_once c) 1 before at after number left last → Went (close_once d) 1 before at after number left last
went-same e w = rw e at w
