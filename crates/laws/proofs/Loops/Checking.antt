-- A loop that puts f of each validator in its place and stops at the first refusal.
use mathlib.Core.Path.{◌≡◌, refl, sym, ap, ◌∙◌}
use mathlib.Core.List.{List, [], ◌∷◌, map}
use Prim.Native.Nat.{ℕ, zero, suc, ◌+◌, ◌*◌, ◌≤◌, ◌<◌}
use native.Mathlib.Omega.{arith}
use borrow.Author.Count.{below_more}
use lib.ListN.{length, get_or}
use Rattle.definitions.specs.Checked.{Checked, value, refused, bind, done, settle, map_checked}
use Rattle.definitions.specs.declared.Refusal.{Refusal}
use Rattle.definitions.specs.Record.{Validator, decode_one, encode_one, encode, decode, nobody}
use Rattle.laws.proofs.Encode.{length-decode, ten}
use Rattle.laws.specs.Ran.{settled, Settles, Ran}
use Rattle.laws.proofs.Loops.Entry.{entry_at, put_at}
use Rattle.laws.proofs.Loops.Mapped.{Mapped, mapped-none, mapped-more, mapped-all, mapped-is, mapped-ten}
use Rattle.laws.proofs.Loops.Ran.{done-gave, done-refused, ran-refused}

module _ (f : Validator → Checked Validator) where
  -- none of the first i is refused
  abbrev pub Passed : List Validator → ℕ → Type 0
  Passed vs i = (j : ℕ) → j < i → done (f (get_or vs j nobody)) ≡ value tt

  checked_all : (vs : List Validator) → Passed vs (length vs) → map_checked f vs ≡ value (map (settled f) vs)
  unfolding map_checked bind
  checked_all [] h = refl
  checked_all (v ∷ vs) h = rw (done-gave (f v) v (h 0 (omega arith)), checked_all vs (λ j l. h (suc j) (omega arith)))

  checked_stop : (vs : List Validator) (i : ℕ) {p : Refusal} → i < length vs → Passed vs i → f (get_or vs i nobody) ≡ refused p → map_checked f vs ≡ refused p
  unfolding map_checked bind
  checked_stop [] i l h z = absurd (omega arith)
  checked_stop (v ∷ vs) zero l h z = rw z
  checked_stop (v ∷ vs) (suc i) l h z = rw (done-gave (f v) v (h 0 (omega arith)), checked_stop vs i (omega arith) (λ j k. h (suc j) (omega arith)) z)

-- The function on one entry: f gave a value, which is stored, or was refused, and nothing is
pub settles-value : (f : Validator → Checked Validator) {before after : List ℕ} {v : Validator} → f (decode_one before) ≡ value v → after ≡ encode_one v → Settles f before after (value tt)
settles-value f h e = record { is = rw h; held = rw h e }

pub settles-refused : (f : Validator → Checked Validator) {before : List ℕ} {p : Refusal} → length before ≡ 10 → f (decode_one before) ≡ refused p → Settles f before before (refused p)
settles-refused f {before} l h = record { is = rw h; held = rw h (ten before l) }

-- The registry xs after i turns that were not refused
pub record Checking (f : Validator → Checked Validator) (n : ℕ) (xs₀ : List ℕ) (i : ℕ) (xs : List ℕ) : Type 0 where
  pub mapped : Mapped (settled f) n xs₀ i xs
  pub passed : Passed f (decode xs₀) i

pub checking-none : (f : Validator → Checked Validator) {n : ℕ} {xs₀ : List ℕ} → length xs₀ ≡ 10 * n → Checking f n xs₀ 0 xs₀
checking-none f h = record { mapped = mapped-none (settled f) h; passed = λ j l. absurd (omega arith) }

module _ {f : Validator → Checked Validator} {n : ℕ} {xs₀ : List ℕ} {i : ℕ} {xs : List ℕ} (g : Checking f n xs₀ i xs) where
  pub checking-all : n ≤ i → Ran (map_checked f (decode xs₀)) xs (value tt)
  checking-all l =
      let p : Passed f (decode xs₀) (length (decode xs₀)) = λ j k. g.passed j (omega (arith, length-decode n xs₀ g.mapped.begun)) in
      let e = checked_all f (decode xs₀) p in
      record { is = rw e; held = λ vs v. mapped-all g.mapped l ∙ ap encode (same e v) }
    where
      same : {m : Checked (List Validator)} {a b : List Validator} → m ≡ value a → m ≡ value b → a ≡ b
      same p q = cc

  pub checking-ten : i < n → length (entry_at xs i) ≡ 10
  checking-ten l = mapped-ten g.mapped l

  -- the part comes back as e, and the turn answers r
  module _ (l : i < n) {e : List ℕ} {r : Checked (Unit {0})} (h : Settles f (entry_at xs i) e r) where
    at_entry : r ≡ done (f (get_or (decode xs₀) i nobody))
    at_entry = h.is ∙ ap (λ (v : Validator). done (f v)) (mapped-is g.mapped l)

    pub checking-more : r ≡ value tt → Checking f n xs₀ (i + 1) (put_at xs i e)
    checking-more z = record { mapped = mapped-more g.mapped l h.held; passed = below_more _ i g.passed (sym at_entry ∙ z) }

    pub checking-stop : {ys : List ℕ} {p : Refusal} → r ≡ refused p → Ran (map_checked f (decode xs₀)) ys (refused p)
    checking-stop z =
        let b : i < length (decode xs₀) = omega (arith, length-decode n xs₀ g.mapped.begun) in
        ran-refused (checked_stop f (decode xs₀) i b g.passed (done-refused _ (sym at_entry ∙ z)))

-- `search (rules, checking)` answers each need of such a loop that is not plain arithmetic, but for `loop-again`, which is `checking-more`
pub ruleset checking = (checking-none, checking-ten, checking-stop, checking-all)
