-- Truth values, lists of tests, and what is chosen by them.
use mathlib.Core.Path.{◌≡◌, refl, ap}
use mathlib.Core.Bool.{Bool, true, false, cond, ◌&&◌, ◌||◌, false≢true}
use mathlib.Core.List.{List, [], ◌∷◌, ◌++◌}
use Prim.Native.Nat.{ℕ, zero, suc, ◌-◌, ◌<◌, min}
use native.Mathlib.Omega.{arith}
use borrow.Author.Tests.{ltb-true, ltb-false}
use lib.Dec.{T, ltb, eqb}
use lib.ListN.{length, get_or}
use Rattle.definitions.specs.Lists.{all, every}
use Rattle.definitions.specs.Checked.{Checked, value, refused, code_of}
use Rattle.definitions.specs.declared.Refusal.TheVariants.{BadShape, BadSettings, BadRecord}
use Rattle.definitions.specs.Refusals.{in_order}

pub both : (a b : Bool) → (a && b) ≡ true → (a ≡ true) × (b ≡ true)
both true b p = (refl, p)
both false b p = absurd (false≢true p)

pub and_both : {a b : Bool} → a ≡ true → b ≡ true → (a && b) ≡ true
and_both h k = rw (h, k)

pub and_true : (b : Bool) → (b && true) ≡ b
and_true true = refl
and_true false = refl

pub and_false : (b : Bool) → (b && false) ≡ false
and_false true = refl
and_false false = refl

pub and_right : (a b c : Bool) → (b ≡ true → c ≡ true) → (a && b) ≡ true → (a && c) ≡ true
and_right true b c h e = h e
and_right false b c h e = e

pub or_swap : (a b c : Bool) → (a || (b || c)) ≡ (b || (a || c))
or_swap true true c = refl
or_swap true false c = refl
or_swap false b c = refl

-- of two checked values, whichever is chosen
pub either : {A : Type 0} (P : A → Type 0) (t : Bool) {m n : Checked A} {a : A} → (m ≡ value a → P a) → (n ≡ value a → P a) → cond t m n ≡ value a → P a
either P true f g p = f p
either P false f g p = g p

-- cut off at 0
pub lowered : (a b : ℕ) → cond (ltb a b) 0 (a - b) ≡ a - min a b
lowered a b = go (ltb a b) refl
  where
    go : (t : Bool) → ltb a b ≡ t → cond t 0 (a - b) ≡ a - min a b
    go true q = let l = ltb-true a b q in omega (arith, l)
    go false q = let l = ltb-false a b q in omega (arith, l)

-- Lists of tests

-- those that passed together: each, by its place
pub test : (ts : List Bool) → every ts ≡ true → (i : ℕ) → get_or ts i true ≡ true
unfolding every
test [] e i = refl
test (t ∷ ts) e zero = (both t (every ts) e).0
test (t ∷ ts) e (suc i) = test ts (both t (every ts) e).1 i

-- all pass: so does each
pub all-at : {A : Type 0} (p : A → Bool) (xs : List A) (i : ℕ) (d : A) → i < length xs → all p xs ≡ true → p (get_or xs i d) ≡ true
unfolding all
all-at p [] i d l h = absurd (omega arith)
all-at p (x ∷ xs) zero d l h = (both (p x) (all p xs) h).0
all-at p (x ∷ xs) (suc i) d l h = all-at p xs i d (omega arith) (both (p x) (all p xs) h).1

pub every-all : (ts : List Bool) → every ts ≡ all (λ t. t) ts
unfolding every all
every-all [] = refl
every-all (true ∷ ts) = every-all ts
every-all (false ∷ ts) = refl

pub every_append : (ts us : List Bool) → every (ts ++ us) ≡ (every ts && every us)
unfolding every
every_append [] us = refl
every_append (true ∷ ts) us = every_append ts us
every_append (false ∷ ts) us = refl

-- none of 1, 2 and 3 refused
pub record InOrder (first second third : List Bool) : Type 0 where
  pub shaped : (i : ℕ) → get_or first i true ≡ true
  pub settings : (i : ℕ) → get_or second i true ≡ true
  pub recorded : (i : ℕ) → get_or third i true ≡ true

-- by three truth values
abbrev pub tested : Bool → Bool → Bool → Checked (Unit {0})
tested a b c = cond a (cond b (cond c (value tt) (refused BadRecord)) (refused BadSettings)) (refused BadShape)

abbrev pub numbered : Bool → Bool → Bool → ℕ
numbered a b c = code_of (tested a b c)

pub in_order_lem : (shaped settings recorded : List Bool) → code_of (in_order shaped settings recorded) ≡ 0 → InOrder shaped settings recorded
unfolding in_order
in_order_lem shaped settings recorded e =
    let all = go (every shaped) (every settings) (every recorded) e in
    record { shaped = test shaped all.0; settings = test settings all.1; recorded = test recorded all.2 }
  where
    go : (a b c : Bool) → numbered a b c ≡ 0 → (a ≡ true) × (b ≡ true) × (c ≡ true)
    go true true true e = (refl, refl, refl)
    go true true false e = absurd (omega arith)
    go true false c e = absurd (omega arith)
    go false b c e = absurd (omega arith)

pub in_order-value : (shaped settings recorded : List Bool) {u : Unit {0}} → in_order shaped settings recorded ≡ value u → InOrder shaped settings recorded
in_order-value shaped settings recorded e = in_order_lem shaped settings recorded (ap code_of e)

-- Tests of 2 made after others: x is what the others answered
pub settings-tested : (shaped settings more recorded : List Bool) {x : Checked (Unit {0})} → x ≡ in_order shaped settings recorded → cond (eqb (code_of x) 1) x (cond (every more) x (refused BadSettings)) ≡ in_order shaped (settings ++ more) recorded
unfolding in_order
settings-tested shaped settings more recorded e = rw (every_append settings more, e) (go (every shaped) (every settings) (every recorded) (every more))
  where
    go : (a b c d : Bool) → cond (eqb (code_of (tested a b c)) 1) (tested a b c) (cond d (tested a b c) (refused BadSettings)) ≡ tested a (b && d) c
    go true true true true = refl
    go true true true false = refl
    go true true false true = refl
    go true true false false = refl
    go true false c true = refl
    go true false c false = refl
    go false b c d = refl

-- fewer pass where more do
pub settings-fewer : (shaped settings more recorded : List Bool) {u : Unit {0}} → in_order shaped (settings ++ more) recorded ≡ value u → in_order shaped settings recorded ≡ value u
unfolding in_order
settings-fewer shaped settings more recorded {u} e = go (every shaped) (every settings) (every recorded) (every more) (rw (every_append settings more) at e)
  where
    go : (a b c d : Bool) → tested a (b && d) c ≡ value u → tested a b c ≡ value u
    go true true c true e = e
    go true true c false e = absurd (omega (arith, ap code_of e))
    go true false c d e = e
    go false b c d e = e

-- Tests of 3 made after others. `x` is the number that the others gave.

module _ (shaped settings recorded more : List Bool) {x : ℕ} (e : x ≡ code_of (in_order shaped settings recorded)) where
  pub record_refused : (x ≡ 0 → ⊥) → x ≡ code_of (in_order shaped settings (recorded ++ more))
  unfolding in_order
  record_refused n = rw (every_append recorded more) (go (every shaped) (every settings) (every recorded) e)
    where
      go : (a b c : Bool) → x ≡ numbered a b c → x ≡ numbered a b (c && every more)
      go true true true e = absurd (n e)
      go true true false e = e
      go true false c e = e
      go false b c e = e

  pub record_tested : x ≡ 0 → code_of (in_order shaped settings (recorded ++ more)) ≡ cond (every more) 0 3
  unfolding in_order
  record_tested z = rw (every_append recorded more) (go (every shaped) (every settings) (every recorded) (every more) e)
    where
      go : (a b c d : Bool) → x ≡ numbered a b c → numbered a b (c && d) ≡ cond d 0 3
      go true true true true e = refl
      go true true true false e = refl
      go true true false d e = absurd (omega (arith, e, z))
      go true false c d e = absurd (omega (arith, e, z))
      go false b c d e = absurd (omega (arith, e, z))

-- fewer pass where more do
pub record_fewer : (shaped settings recorded more : List Bool) {u : Unit {0}} → in_order shaped settings (recorded ++ more) ≡ value u → code_of (in_order shaped settings recorded) ≡ 0
unfolding in_order
record_fewer shaped settings recorded more e = go (every shaped) (every settings) (every recorded) (rw (every_append recorded more) at (ap code_of e))
  where
    go : (a b c : Bool) → numbered a b (c && every more) ≡ 0 → numbered a b c ≡ 0
    go true true true e = refl
    go true true false e = e
    go true false c e = e
    go false b c e = e

-- A test that failed

failed : (ts : List Bool) (i : ℕ) → get_or ts i true ≡ false → every ts ≡ false
unfolding every
failed [] i e = e
failed (t ∷ ts) zero e = rw e
failed (true ∷ ts) (suc i) e = failed ts i e
failed (false ∷ ts) (suc i) e = refl

pub shape-failed : (shaped settings recorded : List Bool) (i : ℕ) → get_or shaped i true ≡ false → 1 ≡ code_of (in_order shaped settings recorded)
unfolding in_order
shape-failed shaped settings recorded i e = rw (failed shaped i e)

-- a test that passed, as a fact

pub and_T : (a b : Bool) → T a → T b → T (a && b)
and_T true b p q = q
and_T false b p q = p

pub T_left : (a b : Bool) → T (a && b) → T a
T_left true b p = tt
T_left false b p = p

pub T_right : (a b : Bool) → T (a && b) → T b
T_right true b p = p
T_right false b p = absurd p
