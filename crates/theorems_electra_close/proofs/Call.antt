-- The law of a call that is accepted.
use mathlib.Core.Path.{◌≡◌, refl, sym, ap, ◌∙◌}
use mathlib.Core.List.{List}
use Prim.Native.Nat.{ℕ, ◌+◌, ◌*◌, ◌<◌}
use native.Mathlib.Omega.{arith}
use borrow.Author.Tests.{eqb-true}
use lib.ListN.{length, get_or, take, drop, length-drop}
use lib.Seq.{drop-append-le, take-append-le}
use Rattle.definitions.specs.Record.{Validator, encode, decode}
use Rattle.definitions.specs.Checked.{value, bind}
use Rattle.definitions.specs.Refusals.{after_tests, closing_buffer}
use Rattle.laws.proofs.Checked.{bound}
use Rattle.laws.proofs.Encode.{length-decode, length-encode, decode-encode}
use Rattle.laws.proofs.Loops.Entry.{number-at}
use Rattle.laws_close.specs.Nine.{balance_at}
use Rattle.laws.proofs.Tests.{in_order-value}
use Rattle.refusals.proofs.Laws.{RegistryShape, registry-shaped}
use Rattle.definitions_electra.specs.Record.{ElectraState}
use Rattle.definitions_electra.specs.Calls.{over}
use Rattle.definitions_electra.specs.Evaluated.Electra.EpochProcessing.{process_epoch}
use Rattle.definitions_electra_close.specs.Amounts.{electra_amounts}
use Rattle.definitions_electra_close.specs.Close.{ElectraCall, electra_state_of, electra_tests, electra_closed, electra_answer, electra_close}
use Rattle.theorems_electra_close.specs.Accounted.{row_of, EveryCall}
use Rattle.theorems_electra_close.proofs.Lists.{front_at}
use Rattle.theorems_electra_close.proofs.Accounted.{accounted}

shape : (c : ElectraCall) {u : Unit {0}} → electra_tests c ≡ value u → RegistryShape c.registry
unfolding electra_tests
shape c e = registry-shaped c.registry ((in_order-value _ _ _ e).shaped 1)

-- each validator has its credentials
fits : (c : ElectraCall) {u : Unit {0}} → electra_tests c ≡ value u → length c.compounding ≡ length (decode c.registry)
unfolding electra_tests
fits c e = eqb-true (length c.compounding) _ ((in_order-value _ _ _ e).shaped 4) ∙ sym (length-decode _ c.registry (shape c e).long)

-- a row of what lies over a buffer
row-over : (xs ys : List ℕ) (n i : ℕ) → length xs ≡ 12 * n → i < n → row_of (over xs ys) i ≡ row_of xs i
row-over xs ys n i h l =
    ap (take 12) (drop-append-le (12 * i) xs (drop (length xs) ys) (omega (arith, h, l)))
    ∙ take-append-le 12 (drop (12 * i) xs) (drop (length xs) ys) (omega (arith, h, l, length-drop (12 * i) xs))

module _ (c : ElectraCall) {u : Unit {0}} {closing : ElectraState} (t : electra_tests c ≡ value u) (w : process_epoch c.rules (electra_state_of c) ≡ value closing) where
  written : {xs : List ℕ} → electra_amounts c.rules (electra_state_of c) ≡ value xs → (electra_close c).amounts ≡ over xs c.amounts
  unfolding electra_close closing_buffer bind
  written a = rw (t, w, a) refl

  registry-written : (electra_close c).closing_registry ≡ over (encode closing.altair.validators) c.closing_registry
  unfolding electra_close closing_buffer
  registry-written = rw (t, w) refl

  counted : (electra_close c).answer.validators ≡ length closing.altair.validators
  unfolding electra_close electra_closed electra_answer after_tests bind
  counted = rw (t, w) refl

-- the balance among the ten numbers
balance_in : (xs : List ℕ) (n : ℕ) → length xs ≡ 10 * n → (i : ℕ) → i < n → get_or xs (10 * i + 6) 0 ≡ balance_at (decode xs) i
balance_in xs n h i l = number-at n xs i h l 6 (omega arith)

balance-over : (vs : List Validator) (ys : List ℕ) (i : ℕ) → i < length vs → get_or (over (encode vs) ys) (10 * i + 6) 0 ≡ balance_at vs i
balance-over vs ys i l =
    let n = length-encode vs in
    front_at 0 (encode vs) (drop (length (encode vs)) ys) (10 * i + 6) (omega (arith, l, n))
    ∙ balance_in (encode vs) (length vs) n i l
    ∙ ap (λ (us : List Validator). balance_at us i) (decode-encode vs)

pub accounted-call : EveryCall
unfolding electra_closed after_tests
accounted-call c closing e =
    let a = bound (electra_tests c) (λ _. process_epoch c.rules (electra_state_of c)) e in
    let law = accounted c.rules (electra_state_of c) closing (fits c a.gave) a.then in
    let lent = written c a.gave a.then law.are in
    record {
      law = law;
      lent = lent;
      row = λ i l. ap (λ (xs : List ℕ). row_of xs i) lent ∙ row-over law.filled c.amounts _ i law.long l;
      count = counted c a.gave a.then;
      opens = λ i l. balance_in c.registry _ (shape c a.gave).long i (omega (arith, l, length-decode _ c.registry (shape c a.gave).long));
      closes = λ i l. ap (λ (xs : List ℕ). get_or xs (10 * i + 6) 0) (registry-written c a.gave a.then) ∙ balance-over closing.altair.validators c.closing_registry i l;
    }
