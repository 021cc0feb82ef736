-- The ninth call carries the orders out, in order of arrival, on what the whole close leaves.
use mathlib.Core.Path.{◌≡◌, refl, sym, ap, ◌∙◌, subst}
use mathlib.Core.List.{List}
use Prim.Native.Nat.{ℕ, ◌/◌, ◌%◌, ◌^◌, ◌≤◌, ◌<◌}
use native.Mathlib.Omega.{arith}
use borrow.Author.Tests.{lt-ltb, le-leb, eq-eqb}
use lib.ListN.{length}
use Rattle.definitions.specs.declared.FullAnswer.{FullAnswer}
use Rattle.definitions.specs.Lists.{every}
use Rattle.definitions.specs.Record.{BeaconState, encode, decode}
use Rattle.definitions.specs.Checked.{value, bind}
use Rattle.definitions.specs.Refusals.{in_order, good_registry}
use Rattle.definitions.specs.ExitQueue.{queue_of, is_queue_of, queue_test}
use Rattle.definitions_close.specs.FullClose.{FullCall, settings_of, full_close}
use Rattle.definitions_close.specs.CloseBySteps.{says_ended}
use Rattle.definitions_close.proofs.Orders.{orders-long}
use Rattle.definitions_close.specs.Orders.{Order, orders_in, room, NinthCall, ninth_tests, untried, carries_out, ninth_in_turn, carry_out}
use Rattle.laws.proofs.Encode.{decode-encode}
use Rattle.theorems.specs.CloseBySteps.Desk.{Desk, acts, arrived, ninth_call, Carries, NineCalls, CarriedOut, AfterNine}
use Rattle.laws_close.proofs.Passed.{full-passed}
use Rattle.theorems.proofs.CloseBySteps.Tests.{shaped_as, long_as}
use Rattle.theorems.proofs.CloseBySteps.Turns.{UnderWay, desk_at, waiting, onward, ended}
use Rattle.theorems.proofs.CloseBySteps.Eight.{stopped-done, onward-gives, Over, Way, under, over, any_way}

module _ (c : FullCall) (st : BeaconState) (count : ℕ) (orders : List ℕ) (u : UnderWay c 8 st) (period : ℕ) (answers : List ℕ) where
  abbrev here : Desk
  here = desk_at c 8 st count orders

  abbrev ninth : NinthCall
  ninth = ninth_call c here period answers

  ninth-tested : length orders % 2 ≡ 0 → count ≤ length orders / 2 → length answers ≡ room orders → period < 2 ^ 48 → ninth_tests ninth ≡ value tt
  unfolding ninth_tests in_order bind good_registry queue_test is_queue_of every
  ninth-tested two fits long small =
      let p = full-passed c u.tested in
      let h = u.sound in
      let shape = shaped_as c.call.registry (encode st.validators) (long_as c st p h) ∙ p.registry_shape in
      rw (p.rules, shape, eq-eqb (length orders % 2) 0 two, le-leb count (length orders / 2) fits, eq-eqb (length answers) (length orders / 2) long, p.good_rules, lt-ltb period (2 ^ 48) small, h.finality, decode-encode st.validators, h.validators, eq-eqb (queue_of st.validators).last_epoch _ refl, eq-eqb (queue_of st.validators).number _ refl)

  carried : ninth_tests ninth ≡ value tt → carry_out ninth ≡ carries_out ninth
  unfolding carry_out ninth_in_turn
  carried t = rw t

  carries : (os : List Order) → orders_in count orders ≡ os → ninth_tests ninth ≡ value tt → Carries c os period answers (carry_out ninth)
  unfolding carries_out
  carries os e t =
      let g = onward-gives c st count orders u in
      let f : (full_close c).finality ≡ st.finality = sym (ap (λ (a : FullAnswer). a.finality) g.answer) in
      let r : decode (full_close c).closing_registry ≡ st.validators = ap decode (sym g.closing_registry) ∙ decode-encode st.validators in
      let raised = ap (λ (a : FullAnswer). a.raised) g.answer in
      let test = ap (λ (a : FullAnswer). a.test) g.answer in
      rw (carried t)
      (record {
        refusal = refl;
        done = refl;
        orders = refl;
        answer = rw (f, r, ← raised, ← test, decode-encode st.validators, e, ← e, orders-long count orders) (refl, refl, refl);
      })

nine-way : (c : FullCall) (d : Desk) (os : List Order) (size : ℕ) → Way c d os size → d.running.done ≡ 8 → (period : ℕ) (answers : List ℕ) → size % 2 ≡ 0 → length answers ≡ size / 2 → period < 2 ^ 48 → Carries c os period answers (carry_out (ninth_call c d period answers))
unfolding carries_out
nine-way c d os size (under n l (waiting e h none long)) z period answers two m small = absurd (omega (arith, h.done, z))
nine-way c d os size (under n l (ended s h)) z period answers two m small = absurd (omega (arith, stopped-done c d s, z))
nine-way c d os size (over v) z period answers two m small = absurd (omega (arith, ap (λ (x : Desk). x.running.done) v.is, z))
nine-way c d os size (under n l (onward st count orders u e h)) z period answers two m small =
    let k : n ≡ 8 = sym (ap (λ (x : Desk). x.running.done) e) ∙ z in
    let way = subst (λ (j : ℕ). UnderWay c j st) k u in
    subst (λ (x : Desk). Carries c os period answers (carry_out (ninth_call c x period answers))) (sym (e ∙ ap (λ (j : ℕ). desk_at c j st count orders) k))
    (let i = h.long in
    carries c st count orders way period answers os h.are (ninth-tested c st count orders way period answers (rw i two) (rw i h.fits) (rw i m) small))

pub says : (x : NinthCall) → x.running.done ≡ 9 → carry_out x ≡ untried (says_ended x.running) x
unfolding carry_out
says x e = rw e

pub nine-calls : NineCalls
nine-calls c d h list period answers = (
  λ z lent. nine-way c (acts c d list) (arrived c d list) (length d.orders) (any_way c d h list) z period answers lent.pairs lent.answers lent.period,
  λ z. says (ninth_call c (acts c d list) period answers) z,
)

-- Where the orders have been carried out

over-carried : (c : FullCall) (d : Desk) (os : List Order) (size : ℕ) → Over c d os size → CarriedOut (full_close c) (settings_of c) os d
unfolding carries_out
over-carried c d os size v =
    let st = v.state in
    let g = onward-gives c st v.count v.list v.way in
    let f : (full_close c).finality ≡ st.finality = sym (ap (λ (a : FullAnswer). a.finality) g.answer) in
    let r : decode (full_close c).closing_registry ≡ st.validators = ap decode (sym g.closing_registry) ∙ decode-encode st.validators in
    let raised = ap (λ (a : FullAnswer). a.raised) g.answer in
    let test = ap (λ (a : FullAnswer). a.test) g.answer in
    rw v.is
    (record {
      period = v.period;
      accepted = sym (ap (λ (a : FullAnswer). a.refusal) g.answer);
      answer = rw (f, r, ← raised, ← test, decode-encode st.validators, v.listed.are) (refl, refl);
      closing_slashings = g.closing_slashings;
      amounts = g.amounts;
      orders = refl;
    })

way-nine : (c : FullCall) (d : Desk) (os : List Order) (size : ℕ) → Way c d os size → d.running.done ≡ 9 → d.running.answer.refusal ≡ 0 → CarriedOut (full_close c) (settings_of c) os d
way-nine c d os size (under n l (waiting e h none long)) z r = absurd (omega (arith, h.done, z))
way-nine c d os size (under n l (onward st count orders u e h)) z r = absurd (omega (arith, ap (λ (x : Desk). x.running.done) e, z, l))
way-nine c d os size (under n l (ended s h)) z r = absurd (s.refusal (sym (ap (λ (a : FullAnswer). a.refusal) s.gives.answer) ∙ r))
way-nine c d os size (over v) z r = over-carried c d os size v

pub after-nine : AfterNine
after-nine c d h list z r = way-nine c (acts c d list) (arrived c d list) (length d.orders) (any_way c d h list) z r
