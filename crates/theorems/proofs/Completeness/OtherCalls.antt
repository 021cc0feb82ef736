-- Justification, which has no buffer, and what the calls on a file answer.
use mathlib.Core.Path.{◌≡◌, refl, sym, ap, ◌∙◌}
use mathlib.Core.Bool.{Bool, true, false, cond}
use mathlib.Core.List.{[], ◌∷◌, List}
use mathlib.Core.Logic.{inl, inr}
use Prim.Native.Nat.{ℕ}
use native.Mathlib.Omega.{arith}
use Rattle.definitions.specs.declared.ActivationLimit.TheVariants.{Churn}
use Rattle.definitions.specs.declared.Settings.{Settings}
use Rattle.definitions.specs.declared.Finality.{Finality}
use Rattle.definitions.specs.declared.CloseAnswer.{CloseAnswer}
use Rattle.definitions.specs.Lists.{every}
use Rattle.definitions.specs.Record.{BeaconState, decode}
use Rattle.definitions.specs.Updates.{with_finality}
use Rattle.definitions.specs.Checked.{Checked, value, refused, bind, code_of}
use Rattle.definitions.specs.declared.Refusal.TheVariants.{BadFile, WrongQueue}
use Rattle.definitions.specs.Raised.{raised_totals, raised_unless_refused, close_answer_for}
use Rattle.definitions.specs.Refusals.{in_order, after_tests, justification_tests}
use Rattle.definitions.specs.Rust.Altair.EpochProcessing as rust
use Rattle.definitions.specs.Close.{limited_step}
use Rattle.definitions.specs.ExitQueue.{is_queue_of, queue_test}
use Rattle.definitions_file.specs.File.{Contents, contents_of, queue_in, good_header, write_tests, read_tests, read_file, read}
use Rattle.laws.proofs.Tests.{tested}
use Rattle.agreement.specs.Restored.{OneOf}
use Rattle.theorems.specs.Completeness.Calls.{justification_in64_bits, JustificationCall, JustificationCalls, FileCalls}
use Rattle.theorems.specs.Completeness.DocumentIn64Bits as in64
use Rattle.agreement.proofs.Justification.{justification}
use Rattle.agreement.proofs.Registry.{registry}
use Rattle.agreement.proofs.Restored.{low, high, one_left, one_right, tests-number, work-number}

not_zero : (n : ℕ) → OneOf n (1 ∷ 2 ∷ 3 ∷ 4 ∷ 5 ∷ []) → n ≡ 0 → ⊥
not_zero n (inl e) z = omega arith
not_zero n (inr (inl e)) z = omega arith
not_zero n (inr (inr (inl e))) z = omega arith
not_zero n (inr (inr (inr (inl e)))) z = omega arith
not_zero n (inr (inr (inr (inr (inl e))))) z = omega arith
not_zero n (inr (inr (inr (inr (inr o))))) z = o

module _ (s : Settings) (st : BeaconState) (registry : List ℕ) where
  abbrev tests : Checked (Unit {0})
  tests = justification_tests s st.block_roots st.finality registry

  abbrev work : Checked Finality
  work = rust.process_justification_and_finalization s st.block_roots st.finality st.validators

  abbrev answer_of : Checked Finality → CloseAnswer
  answer_of m = close_answer_for m st.finality (raised_totals s st.finality.slot st.validators)

  -- the step of the document in 64 bits gives the same finality, and refuses alike
  same-finality : (m : Checked Finality) → m ≡ bind (bind m (λ f. value (with_finality f st))) (λ (after : BeaconState). value after.finality)
  unfolding bind
  same-finality (value f) = refl
  same-finality (refused r) = refl

  in_64_bits : answer_of (after_tests tests work) ≡ justification_in64_bits s st registry
  unfolding in64.limited_step limited_step
  in_64_bits = ap (λ (m : Checked Finality). answer_of (after_tests tests m)) (same-finality work)

  answered : (t : Checked (Unit {0})) (w : Checked Finality) → tests ≡ t → work ≡ w → (answer : CloseAnswer) → answer ≡ justification_in64_bits s st registry → answer ≡ answer_of (after_tests t w) → JustificationCall s st registry answer
  unfolding after_tests bind raised_unless_refused justification_tests limited_step
  answered (refused q) w t g answer k e =
      let n : OneOf answer.refusal (1 ∷ 2 ∷ 3 ∷ []) = rw e (tests-number _ _ _ q t) in
      record {
        number = inr (one_left answer.refusal (1 ∷ 2 ∷ 3 ∷ []) (4 ∷ 5 ∷ []) n);
        accepted = λ z. absurd (omega (arith, low answer.refusal n));
        refused = λ _. (rw e, rw e);
        complete = k;
      }
  answered (value u) (refused q) t g answer k e =
      let n : OneOf answer.refusal (4 ∷ 5 ∷ []) = rw e (work-number q ((justification Churn s st).only q (rw g))) in
      record {
        number = inr (one_right answer.refusal (1 ∷ 2 ∷ 3 ∷ []) (4 ∷ 5 ∷ []) n);
        accepted = λ z. absurd (omega (arith, high answer.refusal n));
        refused = λ _. (rw e, rw e);
        complete = k;
      }
  answered (value u) (value f) t g answer k e =
      record {
        number = inl (rw e);
        accepted = λ _. (rw e (sym (ap (λ (after : BeaconState). after.finality) ((justification Churn s st).same (with_finality f st) (rw g)))), rw e);
        refused = λ o. absurd (not_zero answer.refusal o (rw e));
        complete = k;
      }

pub justification-calls : JustificationCalls
justification-calls s st registry answer e h =
    let given = rw e at h in
    answered s st registry _ _ refl refl answer (given ∙ in_64_bits s st registry) given

-- Files

abbrev eight : Bool → Checked (Unit {0})
eight t = cond t (value tt) (refused WrongQueue)

-- 1, 2 or 3, and 8 once they have passed
record_number : (a b d : List Bool) (e : Bool) → OneOf (code_of (bind (in_order a b d) (λ _. eight e))) (0 ∷ 1 ∷ 2 ∷ 3 ∷ 8 ∷ [])
unfolding in_order bind
record_number a b d e = go (every a) (every b) (every d) e
  where
    go : (a b d e : Bool) → OneOf (code_of (bind (tested a b d) (λ _. eight e))) (0 ∷ 1 ∷ 2 ∷ 3 ∷ 8 ∷ [])
    go false b d e = inr (inl refl)
    go true false d e = inr (inr (inl refl))
    go true true false e = inr (inr (inr (inl refl)))
    go true true true false = inr (inr (inr (inr (inl refl))))
    go true true true true = inl refl

read_number : (header : Bool) (a b d : List Bool) (e : Bool) (c : Contents) → OneOf (code_of (bind (cond header (bind (in_order a b d) (λ _. eight e)) (refused BadFile)) (λ _. value c))) (0 ∷ 1 ∷ 2 ∷ 3 ∷ 6 ∷ 8 ∷ [])
unfolding in_order bind
read_number header a b d e c = go header (every a) (every b) (every d) e
  where
    go : (h a b d e : Bool) → OneOf (code_of (bind (cond h (bind (tested a b d) (λ _. eight e)) (refused BadFile)) (λ _. value c))) (0 ∷ 1 ∷ 2 ∷ 3 ∷ 6 ∷ 8 ∷ [])
    go false a b d e = inr (inr (inr (inr (inl refl))))
    go true false b d e = inr (inl refl)
    go true true false d e = inr (inr (inl refl))
    go true true true false e = inr (inr (inr (inl refl)))
    go true true true true false = inr (inr (inr (inr (inr (inl refl)))))
    go true true true true true = inl refl

pub file-calls : FileCalls
unfolding read read_file read_tests write_tests queue_test
file-calls =
    record {
      reads = λ bytes registry slashings. read_number (good_header bytes) _ _ _ (is_queue_of (queue_in bytes) (decode (contents_of bytes).registry)) (contents_of bytes);
      writes = λ c q file. record_number _ _ _ (is_queue_of q (decode c.registry));
    }
