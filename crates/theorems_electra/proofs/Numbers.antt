-- What a call answers and what its buffer holds, by the number, from what its tests and its work answered.
use mathlib.Core.Path.{◌≡◌, refl, sym, ap, ◌∙◌}
use mathlib.Core.List.{List, [], ◌∷◌}
use mathlib.Core.Logic.{inl, inr}
use Prim.Native.Nat.{ℕ}
use native.Mathlib.Omega.{arith}
use Rattle.definitions.specs.Checked.{number_of, Checked, value, refused, bind, code_of}
use Rattle.definitions.specs.declared.Refusal.{Refusal}
use Rattle.definitions.specs.Refusals.{after_tests, closing_buffer}
use Rattle.laws.proofs.Checked.{number_not_zero}
use Rattle.agreement.specs.Restored.{OneOf}
use Rattle.agreement.proofs.Restored.{low, high, one_left}
use Rattle.agreement.proofs.Agrees.{Agrees, IsOverflow}
use Rattle.definitions_electra.specs.declared.ExitChurn.{ExitChurn}
use Rattle.definitions_electra.specs.Record.{ElectraState}
use Rattle.definitions_electra.specs.Calls.{churn_in, exit_churn_answer}
use Rattle.theorems_electra.specs.Calls.{ElectraCall}
use Rattle.theorems_electra.proofs.Alike.{Alike}

-- the tests refuse under 1, 2 or 3
abbrev pub TestsNumber : Checked (Unit {0}) → Type 0
TestsNumber tests = (q : Refusal) → tests ≡ refused q → OneOf (number_of q) (1 ∷ 2 ∷ 3 ∷ [])

pub electra-call : {R : ElectraState → ElectraState → Type 0} (contents : ElectraState → List ℕ) (tests : Checked (Unit {0})) (work text : Checked ElectraState) (document : ElectraState) → TestsNumber tests → Alike R work text → ((a b : ElectraState) → R a b → contents a ≡ contents b) → Agrees IsOverflow text document → {opening closing after : List ℕ} {n : ℕ} → n ≡ code_of (after_tests tests work) → after ≡ closing_buffer contents tests work opening closing → ElectraCall tests text document contents opening closing after n
unfolding bind after_tests closing_buffer
electra-call contents (refused q) work text document t a same g {n = n} e h =
    let l : OneOf n (1 ∷ 2 ∷ 3 ∷ []) = rw e (t q refl) in
    let b = low n l in
    record {
      answers = e;
      by_number =
          record {
            number = inr (one_left n (1 ∷ 2 ∷ 3 ∷ []) (5 ∷ []) l);
            accepted = λ z. absurd (omega (arith, b, z));
            untouched = λ _. h;
            restored = λ o. absurd (omega (arith, b, high n o));
          };
      overflows = λ z. absurd (omega (arith, b, z));
    }
electra-call contents (value u) (refused p) (refused q) document t a same g {n = n} e h =
    let w = g.only q refl in
    let five : n ≡ 5 = e ∙ ap number_of (a.both ∙ w) in
    record {
      answers = e ∙ ap number_of a.both;
      by_number =
          record {
            number = inr (inr (inr (inr (inl five))));
            accepted = λ z. absurd (omega (arith, five, z));
            untouched = λ o. absurd (omega (arith, five, low n o));
            restored = λ _. h;
          };
      overflows = λ _. ap refused w;
    }
electra-call contents (value u) (value x) (value y) document t a same g {n = n} e h =
    let z : n ≡ 0 = e in
    record {
      answers = e;
      by_number =
          record {
            number = inl z;
            accepted = λ _. h ∙ same x y a.both ∙ ap contents (sym (g.same y refl));
            untouched = λ o. absurd (omega (arith, z, low n o));
            restored = λ o. absurd (omega (arith, z, high n o));
          };
      overflows = λ f. absurd (omega (arith, z, f));
    }
electra-call contents (value u) (value x) (refused q) document t a same g e h = absurd a.both
electra-call contents (value u) (refused p) (value y) document t a same g e h = absurd a.both

-- What comes back by value: f of the document's state on 0, and else what was lent
pub record ByValue {X : Type 0} (f : ElectraState → X) (document : ElectraState) (lent x : X) (n : ℕ) : Type 0 where
  pub accepted : n ≡ 0 → x ≡ f document
  pub refused : (n ≡ 0 → ⊥) → x ≡ lent

-- f of what was worked out, or what was lent
abbrev pub value_of : {X : Type 0} → (ElectraState → X) → X → Checked ElectraState → X
value_of f lent (value st) = f st
value_of f lent (refused q) = lent

pub by_value : {X : Type 0} {R : ElectraState → ElectraState → Type 0} (f : ElectraState → X) (tests : Checked (Unit {0})) (work text : Checked ElectraState) (document : ElectraState) → Alike R work text → ((a b : ElectraState) → R a b → f a ≡ f b) → Agrees IsOverflow text document → {lent x : X} {n : ℕ} → n ≡ code_of (after_tests tests work) → x ≡ value_of f lent (after_tests tests work) → ByValue f document lent x n
unfolding bind after_tests
by_value f (refused q) work text document a same g e h = record { accepted = λ z. absurd (number_not_zero q (sym e ∙ z)); refused = λ _. h }
by_value f (value u) (refused p) text document a same g e h = record { accepted = λ z. absurd (number_not_zero p (sym e ∙ z)); refused = λ _. h }
by_value f (value u) (value x) (value y) document a same g e h =
    record { accepted = λ _. h ∙ same x y a.both ∙ ap f (sym (g.same y refl)); refused = λ z. absurd (z e) }
by_value f (value u) (value x) (refused q) document a same g e h = absurd a.both

-- The answers, part by part

pub churn-code : (m : Checked ElectraState) → code_of (churn_in m) ≡ code_of m
unfolding bind
churn-code (value st) = refl
churn-code (refused q) = refl

pub churn-value : (m : Checked ElectraState) (lent : ExitChurn) → (exit_churn_answer (churn_in m) lent).churn ≡ value_of (λ st. st.churn) lent m
unfolding bind
churn-value (value st) lent = refl
churn-value (refused q) lent = refl
