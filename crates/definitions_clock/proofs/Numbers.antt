-- Slots, epochs and the closing window, of the numbers.
use mathlib.Core.Path.{◌≡◌, sym, ap, ◌∙◌}
use Prim.Native.Nat.{ℕ, ◌+◌, ◌-◌, ◌*◌, ◌/◌, ◌≤◌, ◌<◌}
use native.Mathlib.Omega.{arith}
use native.Mathlib.Nat.{mul_comm, add-mul, one-mul, mul-le-mul_right, div-mul-le_self, lt-mul-div-succ, le-div_iff_mul-le, div-lt_iff_lt-mul}
use borrow.Author.Tests.{eq-eqb, eqb-true}
use Rattle.definitions_clock.specs.declared.Clock.{Clock}
use Rattle.definitions_clock.specs.Clock.{slot_at, epoch_at, first_slot_of, last_slot_of, first_second_of_slot_call, last_second_of_slot_call, first_second_of_epoch_call, last_second_of_epoch_call}
use Rattle.definitions_clock.specs.Laws.{SlotLaws, EpochLaws, WindowLaws}

-- a quotient, by its two bounds
quotient : (x p k : ℕ) → 0 < p → k * p ≤ x → x < (k + 1) * p → x / p ≡ k
quotient x p k h a b =
    let l : k ≤ x / p = (le-div_iff_mul-le {k = p} h).1 a in
    let m : x / p < k + 1 = (div-lt_iff_lt-mul {k = p} h).1 b in
    omega arith

-- one place further
step : (k p : ℕ) → (k + 1) * p ≡ k * p + p
step k p = rw (add-mul k 1 p, one-mul p)

quotient-above : (x p : ℕ) → 0 < p → x < (x / p) * p + p
quotient-above x p h =
    let l = lt-mul-div-succ x {b = p} h in
    omega (arith, mul_comm p (x / p + 1), step (x / p) p)

module _ (c : Clock) (h : 0 < c.seconds_per_slot) where
  slot-one : (second slot : ℕ) → first_second_of_slot_call c slot ≤ second → second ≤ last_second_of_slot_call c slot → slot_at c second ≡ slot
  slot-one second slot a b =
      quotient (second - c.genesis_time) c.seconds_per_slot slot h (omega arith) (omega (arith, step slot c.seconds_per_slot))

  pub slot_laws : SlotLaws c
  slot_laws =
      record {
        begun = λ t l. omega (arith, div-mul-le_self (t - c.genesis_time) c.seconds_per_slot);
        not_over = λ t l. omega (arith, quotient-above (t - c.genesis_time) c.seconds_per_slot h);
        one = slot-one;
        neighbours = λ k. omega (arith, step k c.seconds_per_slot);
      }

module _ (c : Clock) (h : 0 < c.seconds_per_slot) (o : 0 < c.slots_per_epoch) where
  -- a later slot does not begin earlier
  in_order_lem : (a b : ℕ) → a ≤ b → first_second_of_slot_call c a ≤ first_second_of_slot_call c b
  in_order_lem a b l = let m : a * c.seconds_per_slot ≤ b * c.seconds_per_slot = mul-le-mul_right c.seconds_per_slot l in omega arith

  between : (t a b : ℕ) → first_second_of_slot_call c a ≤ t → t ≤ last_second_of_slot_call c b → (a ≤ slot_at c t) × (slot_at c t ≤ b)
  between t a b l m =
      let lo : a ≤ slot_at c t = (le-div_iff_mul-le {k = c.seconds_per_slot} h).1 (omega arith) in
      let hi : slot_at c t < b + 1 = (div-lt_iff_lt-mul {k = c.seconds_per_slot} h).1 (omega (arith, step b c.seconds_per_slot)) in
      (lo, omega arith)

  epoch-one : (t e : ℕ) → first_second_of_epoch_call c e ≤ t → t ≤ last_second_of_epoch_call c e → epoch_at c t ≡ e
  epoch-one t e l m =
      let s = between t (first_slot_of c e) (last_slot_of c e) l m in
      quotient (slot_at c t) c.slots_per_epoch e o s.0 (omega (arith, step e c.slots_per_epoch, s.1))

  pub epoch_span : (e : ℕ) → first_second_of_epoch_call c e ≤ last_second_of_epoch_call c e
  epoch_span e = omega (arith, in_order_lem (first_slot_of c e) (last_slot_of c e) (omega arith))

  pub epoch-laws : EpochLaws c
  epoch-laws =
      record {
        begun = λ t l. omega (arith, (slot_laws c h).begun t l, in_order_lem (first_slot_of c (epoch_at c t)) (slot_at c t) (div-mul-le_self (slot_at c t) c.slots_per_epoch));
        not_over = λ t l. omega (arith, (slot_laws c h).not_over t l, in_order_lem (slot_at c t) (last_slot_of c (epoch_at c t)) (omega (arith, quotient-above (slot_at c t) c.slots_per_epoch o)));
        one = epoch-one;
        neighbours = λ e. ap (first_second_of_slot_call c) (next-slot e) ∙ (slot_laws c h).neighbours (last_slot_of c e);
      }
    where
      next-slot : (e : ℕ) → first_slot_of c (e + 1) ≡ last_slot_of c e + 1
      next-slot e = omega (arith, step e c.slots_per_epoch)

  pub window-laws : WindowLaws c
  window-laws =
      record {
        inside = λ t l w. same (ap (first_second_of_slot_call c) (sym (eqb-true _ _ w))) ((slot_laws c h).begun t l);
        whole = λ t e l m. eq-eqb _ _ (closing t e l m);
      }
    where
      same : {a b d : ℕ} → a ≡ b → b ≤ d → a ≤ d
      same e l = rw e l

      closing : (t e : ℕ) → first_second_of_slot_call c (last_slot_of c e) ≤ t → t ≤ last_second_of_epoch_call c e → slot_at c t ≡ last_slot_of c (epoch_at c t)
      closing t e l m =
          let s = slot-one c h t (last_slot_of c e) l m in
          let d = epoch-one t e (omega (arith, in_order_lem (first_slot_of c e) (last_slot_of c e) (omega arith))) m in
          s ∙ sym (ap (last_slot_of c) d)
