-- Functions on one entry, one after the other, with a state carried along.
use mathlib.Core.Path.{◌≡◌, refl, sym, ap, ap₂, ◌∙◌}
use mathlib.Core.List.{List}
use Prim.Native.Nat.{ℕ}
use Rattle.definitions.specs.Checked.{Checked, value, refused, bind, done}
use Rattle.definitions.specs.declared.Refusal.{Refusal}
use Rattle.definitions.specs.Record.{Validator, decode_one, encode_one}
use Rattle.laws.proofs.Checked.{not_value, refused_same, value_same}
use Rattle.laws.proofs.Loops.Ran.{done-refused}
use Rattle.write_turn.specs.Runs.{Runs}
use Rattle.write_turn.specs.Sweep.{Moved, Turning, after, first, last, along}
use Rattle.write_turn.specs.Steps.{carry_of, Steps}
use Rattle.write_turn.proofs.Sweeps.Fused.{paired, keeping}

carry-refused : {C A : Type 0} (m : Checked (Moved C A)) {p : Refusal} → carry_of m ≡ refused p → m ≡ refused p
carry-refused (value m) e = absurd (not_value (sym e))
carry-refused (refused q) e = ap refused (refused_same e)

module _ {C : Type 0} (f : Turning C Validator) {c : C} {before after : List ℕ} {r : Checked C} where
  pub steps-value : {m : Moved C Validator} → f c (decode_one before) ≡ value m → r ≡ value m.carry → after ≡ encode_one m.held → Steps f c before after r
  steps-value q k h = record { is = k ∙ ap carry_of (sym q); held = λ p t. h ∙ ap (λ (x : Moved C Validator). encode_one x.held) (value_same (sym q ∙ t)) }

  pub steps-refused : {p : Refusal} → f c (decode_one before) ≡ refused p → r ≡ refused p → Steps f c before after r
  steps-refused q k = record { is = k ∙ ap carry_of (sym q); held = λ p t. absurd (not_value (sym q ∙ t)) }

-- what one that carries gave, or that it was refused
module _ {C : Type 0} {f : Turning C Validator} {before between : List ℕ} {c : C} {r : Checked C} (h : Steps f c before between r) where
  pub steps-gave : {d : C} → r ≡ value d → f c (decode_one before) ≡ value (record { carry = d; held = decode_one between })
  steps-gave {d} z = go (f c (decode_one before)) refl
    where
      go : (m : Checked (Moved C Validator)) → f c (decode_one before) ≡ m → m ≡ value (record { carry = d; held = decode_one between })
      go (value m) e = ap value (sym (ap₂ (λ (a : C) (w : Validator). record { carry = a; held = w }) (value_same (sym z ∙ h.is ∙ ap carry_of e)) (ap decode_one (h.held m e))))
      go (refused p) e = absurd (not_value (sym (h.is ∙ ap carry_of e) ∙ z))

  pub steps-by : {p : Refusal} → r ≡ refused p → f c (decode_one before) ≡ refused p
  steps-by z = carry-refused (f c (decode_one before)) (sym h.is ∙ z)

-- a pure one: what it gave
runs-gave : {f : Validator → Checked Validator} {before between : List ℕ} {r : Checked (Unit {0})} → Runs f before between r → r ≡ value tt → f (decode_one before) ≡ value (decode_one between)
runs-gave {f} {before} {between} h z = go (f (decode_one before)) refl
  where
    go : (m : Checked Validator) → f (decode_one before) ≡ m → m ≡ value (decode_one between)
    go (value w) e = ap value (sym (ap decode_one (h.held w e)))
    go (refused p) e = absurd (not_value (sym (h.is ∙ ap done e) ∙ z))

-- a pure one first
module _ {f : Validator → Checked Validator} {before between : List ℕ} {r : Checked (Unit {0})} (h : Runs f before between r) {C : Type 0} (g : Turning C Validator) {c : C} {after : List ℕ} where
  pub first_then : {s : Checked C} → r ≡ value tt → Steps g c between after s → Steps (first f g) c before after s
  unfolding bind
  first_then z k =
      let q : g c (decode_one between) ≡ first f g c (decode_one before) = ap (λ (m : Checked Validator). bind m (g c)) (sym (runs-gave h z)) in
      record { is = k.is ∙ ap carry_of q; held = λ m t. k.held m (q ∙ t) }

  pub first-stop : {p : Refusal} → r ≡ refused p → Steps (first f g) c before after (refused p)
  unfolding bind
  first-stop z = steps-refused (first f g) (ap (λ (m : Checked Validator). bind m (g c)) (done-refused (f (decode_one before)) (sym h.is ∙ z))) refl

-- one that carries first
module _ {C : Type 0} {f : Turning C Validator} {before between : List ℕ} {c : C} {r : Checked C} (h : Steps f c before between r) where
  -- then one that carries
  module _ {D : Type 0} (g : Turning D Validator) {a : D} {left : List ℕ} where
    pub after_then : {d : C} {b : D} → r ≡ value d → Steps g a between left (value b) → Steps (after f g) (c, a) before left (value (d, b))
    unfolding bind
    after_then {d} {b} z k =
        let n = steps-gave k refl in
        steps-value (after f g)
        (ap (λ (m : Checked (Moved C Validator)). bind m (λ m. bind (g a m.held) (paired m.carry))) (steps-gave h z) ∙ ap (λ (n : Checked (Moved D Validator)). bind n (paired d)) n)
        refl
        (k.held _ n)

    pub after_stop : {p : Refusal} → r ≡ refused p → Steps (after f g) (c, a) before left (refused p)
    unfolding bind
    after_stop z = steps-refused (after f g) (ap (λ (m : Checked (Moved C Validator)). bind m (λ m. bind (g a m.held) (paired m.carry))) (steps-by h z)) refl

  -- then a pure one
  module _ (g : Validator → Checked Validator) where
    given : {d : C} {n : Checked Validator} → r ≡ value d → g (decode_one between) ≡ n → last f g c (decode_one before) ≡ bind n (keeping d)
    unfolding bind
    given {d} z e = ap (λ (m : Checked (Moved C Validator)). bind m (λ m. bind (g m.held) (keeping m.carry))) (steps-gave h z) ∙ ap (λ (n : Checked Validator). bind n (keeping d)) e

    module _ {left : List ℕ} where
      pub last_then : {d : C} {s : Checked (Unit {0})} → r ≡ value d → Runs g between left s → s ≡ value tt → Steps (last f g) c before left (value d)
      unfolding bind
      last_then z k y = let e = runs-gave k y in steps-value (last f g) (given z e) refl (k.held _ e)

      pub last-over : {d : C} {s : Checked (Unit {0})} {p : Refusal} → r ≡ value d → Runs g between left s → s ≡ refused p → Steps (last f g) c before left (refused p)
      unfolding bind
      last-over z k y = steps-refused (last f g) (given z (done-refused (g (decode_one between)) (sym k.is ∙ y))) refl

      pub last-stop : {p : Refusal} → r ≡ refused p → Steps (last f g) c before left (refused p)
      unfolding bind
      last-stop z = steps-refused (last f g) (ap (λ (m : Checked (Moved C Validator)). bind m (λ m. bind (g m.held) (keeping m.carry))) (steps-by h z)) refl

-- by a part of what is carried
abbrev pub through : {C D : Type 0} → (D → C) → Checked D → Checked C
through f (value d) = value (f d)
through f (refused p) = refused p

pub steps-along : {C D : Type 0} (part : C → D) (put : C → D → C) (f : Turning D Validator) {c : C} {before after : List ℕ} {r : Checked D} → Steps f (part c) before after r → Steps (along part put f) c before after (through (put c) r)
unfolding bind
steps-along {C} {D} part put f {c} {before} {after} {r} h = go (f (part c) (decode_one before)) refl
  where
    by : Checked (Moved D Validator) → Checked (Moved C Validator)
    by m = bind m (λ m. value (record { carry = put c m.carry; held = m.held }))

    go : (m : Checked (Moved D Validator)) → f (part c) (decode_one before) ≡ m → Steps (along part put f) c before after (through (put c) r)
    go (value m) e = steps-value (along part put f) (ap by e) (ap (through (put c)) (h.is ∙ ap carry_of e)) (h.held m e)
    go (refused p) e = steps-refused (along part put f) (ap by e) (ap (through (put c)) (h.is ∙ ap carry_of e))

-- the ten numbers that it was lent are a copy of others
pub steps_copied : {C : Type 0} {f : Turning C Validator} {c : C} {from copied after : List ℕ} {r : Checked C} → copied ≡ from → Steps f c copied after r → Steps f c from after r
steps_copied e h = rw (← e) h
