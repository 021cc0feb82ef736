-- What a close hands back and what the closing buffers hold, by the number that it answers.
use mathlib.Core.Path.{◌≡◌, refl}
use mathlib.Core.Bool.{Bool, true, false}
use mathlib.Core.List.{List, [], ◌∷◌, ◌++◌}
use mathlib.Core.Logic.{◌⊎◌, inl, inr}
use Prim.Native.Nat.{ℕ, ◌≤◌}
use native.Mathlib.Omega.{arith}
use Rattle.definitions.specs.Lists.{every}
use Rattle.definitions.specs.Record.{BeaconState}
use Rattle.definitions.specs.Checked.{Checked, value, refused, bind, number_of}
use Rattle.definitions.specs.declared.Refusal.{Refusal}
use Rattle.definitions.specs.declared.Refusal.TheVariants.{BadShape, BadSettings, BadRecord, NoRoot, Overflow}
use Rattle.definitions.specs.Refusals.{in_order, after_tests, closing_buffer}
use Rattle.definitions.specs.Raised.{raised_unless_refused}
use Rattle.definitions.specs.Rules.{settings_under}
use Rattle.definitions.specs.Close.{Call, close, closed, close_tests, limited_tests, state_of, process_epoch}
use Rattle.laws.proofs.Tests.{tested}
use Rattle.agreement.specs.Restored.{OneOf, Accepted, Untouched, Opening, Restored, StepBuffer}
use Rattle.agreement.proofs.Refused.{work-refused}
use Rattle.agreement.proofs.Agrees.{not_refused}

-- the closing buffer of a step

pub step-buffer : {A : Type 0} (contents : A → List ℕ) (tests : Checked (Unit {0})) (work : Checked A) (opening closing : List ℕ) → StepBuffer contents tests work opening closing
unfolding closing_buffer
step-buffer contents tests work opening closing =
    record { untouched = λ r p. rw p; restored = λ r p q. rw (p, q); done = λ a p q. rw (p, q) }

-- by what the tests and the work answered

untouched : (c : Call) (r : Refusal) → close_tests c ≡ refused r → Untouched c
unfolding close closed after_tests bind closing_buffer raised_unless_refused
untouched c r t = record { finality = rw t; raised = rw t; registry = rw t; slashings = rw t }

opening : (c : Call) (r : Refusal) → close_tests c ≡ value tt → process_epoch (settings_under c.rules) (state_of c) ≡ refused r → Opening c
unfolding close closed after_tests bind closing_buffer raised_unless_refused
opening c r t w = record { finality = rw (t, w); raised = rw (t, w); registry = rw (t, w); slashings = rw (t, w) }

accepted : (c : Call) (st : BeaconState) → close_tests c ≡ value tt → process_epoch (settings_under c.rules) (state_of c) ≡ value st → Accepted c
unfolding close closed after_tests bind closing_buffer raised_unless_refused
accepted c st t w =
    record { state = st; gave = rw (t, w); finality = rw (t, w); raised = rw (t, w); registry = rw (t, w); slashings = rw (t, w) }

-- numbers

pub low : (n : ℕ) → OneOf n (1 ∷ 2 ∷ 3 ∷ []) → (1 ≤ n) × (n ≤ 3)
low n (inl e) = omega arith
low n (inr (inl e)) = omega arith
low n (inr (inr (inl e))) = omega arith
low n (inr (inr (inr o))) = absurd o

pub high : (n : ℕ) → OneOf n (4 ∷ 5 ∷ []) → 4 ≤ n
high n (inl e) = omega arith
high n (inr (inl e)) = omega arith
high n (inr (inr o)) = absurd o

pub one_left : (n : ℕ) (xs ys : List ℕ) → OneOf n xs → OneOf n (xs ++ ys)
one_left n [] ys o = absurd o
one_left n (x ∷ xs) ys (inl e) = inl e
one_left n (x ∷ xs) ys (inr o) = inr (one_left n xs ys o)

pub one_right : (n : ℕ) (xs ys : List ℕ) → OneOf n ys → OneOf n (xs ++ ys)
one_right n [] ys o = o
one_right n (x ∷ xs) ys o = inr (one_right n xs ys o)

-- the number of a refusal by the tests, and of one after them

pub tests-number : (shaped settings recorded : List Bool) (r : Refusal) → in_order shaped settings recorded ≡ refused r → OneOf (number_of r) (1 ∷ 2 ∷ 3 ∷ [])
unfolding in_order
tests-number shaped settings recorded r p = go (every shaped) (every settings) (every recorded) p
  where
    go : (a b c : Bool) → tested a b c ≡ refused r → OneOf (number_of r) (1 ∷ 2 ∷ 3 ∷ [])
    go false b c p = let e : r ≡ BadShape = cc in rw e (inl refl)
    go true false c p = let e : r ≡ BadSettings = cc in rw e (inr (inl refl))
    go true true false p = let e : r ≡ BadRecord = cc in rw e (inr (inr (inl refl)))
    go true true true p = absurd (not_refused p)

pub work-number : (r : Refusal) → (r ≡ Overflow) ⊎ (r ≡ NoRoot) → OneOf (number_of r) (4 ∷ 5 ∷ [])
work-number r (inl e) = rw e (inr (inl refl))
work-number r (inr e) = rw e (inl refl)

data Row (c : Call) : Type 0 where
  closes : (close c).refusal ≡ 0 → Accepted c → Row c
  touches_nothing : OneOf (close c).refusal (1 ∷ 2 ∷ 3 ∷ []) → Untouched c → Row c
  restores : OneOf (close c).refusal (4 ∷ 5 ∷ []) → Opening c → Row c

row : (c : Call) (t : Checked (Unit {0})) (w : Checked BeaconState) → close_tests c ≡ t → process_epoch (settings_under c.rules) (state_of c) ≡ w → Row c
unfolding close closed after_tests bind limited_tests
row c (refused r) w t p = touches_nothing (rw t (tests-number _ _ _ r t)) (untouched c r t)
row c (value u) (refused r) t p = restores (rw (t, p) (work-number r (work-refused c r p))) (opening c r t p)
row c (value u) (value st) t p = closes (rw (t, p)) (accepted c st t p)

from_row : (c : Call) → Row c → Restored c
from_row c (closes e h) =
    record {
      number = inl e;
      accepted = λ _. h;
      untouched = λ o. absurd (omega (arith, low (close c).refusal o));
      opening = λ o. absurd (omega (arith, high (close c).refusal o));
    }
from_row c (touches_nothing e h) =
    record {
      number = inr (one_left (close c).refusal (1 ∷ 2 ∷ 3 ∷ []) (4 ∷ 5 ∷ []) e);
      accepted = λ z. absurd (omega (arith, low (close c).refusal e));
      untouched = λ _. h;
      opening = λ o. absurd (omega (arith, low (close c).refusal e, high (close c).refusal o));
    }
from_row c (restores e h) =
    record {
      number = inr (one_right (close c).refusal (1 ∷ 2 ∷ 3 ∷ []) (4 ∷ 5 ∷ []) e);
      accepted = λ z. absurd (omega (arith, high (close c).refusal e));
      untouched = λ o. absurd (omega (arith, low (close c).refusal o, high (close c).refusal e));
      opening = λ _. h;
    }

pub restored : (c : Call) → Restored c
restored c = from_row c (row c (close_tests c) (process_epoch (settings_under c.rules) (state_of c)) refl refl)
