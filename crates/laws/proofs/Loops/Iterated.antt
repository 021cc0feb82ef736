-- A loop whose turn at i changes the registry as a whole, and may be refused.
use mathlib.Core.Path.{◌≡◌, refl, sym, ap}
use mathlib.Core.List.{List, [], ◌∷◌, ◌++◌}
use Prim.Native.Nat.{ℕ, zero, suc, ◌+◌, ◌-◌, ◌*◌, ◌≤◌, ◌<◌}
use native.Mathlib.Omega.{arith}
use native.Mathlib.Nat.{add-zero, zero-add}
use lib.ListN.{length}
use Rattle.definitions.specs.Checked.{Checked, value, refused, bind, fold_checked}
use Rattle.definitions.specs.declared.Refusal.{Refusal}
use Rattle.definitions.specs.Lists.{range}
use Rattle.definitions.specs.Record.{Validator, decode}
use Rattle.laws.proofs.Encode.{length-decode, encode-decode}
use Rattle.laws.specs.Ran.{Ran}
use Rattle.laws.proofs.Loops.Ran.{ran-gave, ran-stop, ran-value}

pub fold_checked-append : {A B : Type 0} (f : B → A → Checked B) (b : B) (xs ys : List A) → fold_checked f b (xs ++ ys) ≡ bind (fold_checked f b xs) (λ c. fold_checked f c ys)
unfolding fold_checked bind
fold_checked-append f b [] ys = refl
fold_checked-append {A} {B} f b (x ∷ xs) ys = go (f b x) (λ c. fold_checked-append f c xs ys)
  where
    go : (m : Checked B) → ((c : B) → fold_checked f c (xs ++ ys) ≡ bind (fold_checked f c xs) (λ d. fold_checked f d ys)) → bind m (λ c. fold_checked f c (xs ++ ys)) ≡ bind (bind m (λ c. fold_checked f c xs)) (λ d. fold_checked f d ys)
    go (value c) h = h c
    go (refused p) h = refl

range-append : (k i j : ℕ) → range k (i + j) ≡ range k i ++ range (k + i) j
unfolding range
range-append k zero j = rw (zero-add j, add-zero k)
range-append k (suc i) j =
    let e : suc i + j ≡ suc (i + j) = omega arith in
    let q : k + suc i ≡ suc k + i = omega arith in
    rw (e, q) (ap (λ (t : List ℕ). k ∷ t) (range-append (suc k) i j))

-- the turn at i, after those before it
turn : {B : Type 0} (f : B → ℕ → Checked B) (b c : B) (i j : ℕ) → fold_checked f b (range 0 i) ≡ value c → fold_checked f b (range 0 (i + suc j)) ≡ bind (f c i) (λ d. fold_checked f d (range (suc i) j))
unfolding fold_checked bind range
turn f b c i j h = rw (range-append 0 i (suc j), zero-add i, fold_checked-append f b (range 0 i) (i ∷ range (suc i) j), h)

-- The registry xs after i turns that were not refused
pub record Iterated (f : List Validator → ℕ → Checked (List Validator)) (n : ℕ) (xs₀ : List ℕ) (i : ℕ) (xs : List ℕ) : Type 0 where
  pub begun : length xs₀ ≡ 10 * n
  pub below : i ≤ n
  pub long : length xs ≡ 10 * n
  pub held : fold_checked f (decode xs₀) (range 0 i) ≡ value (decode xs)

pub iterated-none : (f : List Validator → ℕ → Checked (List Validator)) {n : ℕ} {xs₀ : List ℕ} → length xs₀ ≡ 10 * n → Iterated f n xs₀ 0 xs₀
unfolding fold_checked range
iterated-none f h = record { begun = h; below = omega arith; long = h; held = refl }

module _ {f : List Validator → ℕ → Checked (List Validator)} {n : ℕ} {xs₀ : List ℕ} {i : ℕ} {xs : List ℕ} (g : Iterated f n xs₀ i xs) where
  count : length (decode xs₀) ≡ n
  count = length-decode n xs₀ g.begun

  pub iterated-all : n ≤ i → Ran (fold_checked f (decode xs₀) (range 0 (length (decode xs₀)))) xs (value tt)
  iterated-all l =
      let e : length (decode xs₀) ≡ i = omega (arith, count) in
      rw (e, g.held) (ran-value (sym (encode-decode n xs g.long)))

  -- the turn leaves ys and answers r
  module _ (l : i < n) {ys : List ℕ} {r : Checked (Unit {0})} (h : Ran (f (decode xs) i) ys r) where
    pub iterated-more : r ≡ value tt → length ys ≡ length xs → Iterated f n xs₀ (i + 1) ys
    unfolding fold_checked bind range
    iterated-more z k = record { begun = g.begun; below = omega arith; long = omega (arith, k, g.long); held = rw (turn f (decode xs₀) (decode xs) i 0 g.held, ran-gave h z) }

    pub iterated-stop : {zs : List ℕ} {p : Refusal} → r ≡ refused p → Ran (fold_checked f (decode xs₀) (range 0 (length (decode xs₀)))) zs (refused p)
    iterated-stop z =
        let e : length (decode xs₀) ≡ i + suc (n - suc i) = omega (arith, count) in
        rw (e, turn f (decode xs₀) (decode xs) i (n - suc i) g.held) (ran-stop h _ z)

-- `search (rules, iterating)` answers each need of such a loop that is not plain arithmetic, but for `loop-again`, which is `iterated-more`
pub ruleset iterating = (iterated-none, iterated-stop, iterated-all)
