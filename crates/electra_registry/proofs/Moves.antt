-- One validator's turn at its place in the lent registry, and the loop over all places, by what is left of it.
use mathlib.Core.Path.{◌≡◌, refl, sym, ap, ap₂, ◌∙◌}
use mathlib.Core.Bool.{cond}
use mathlib.Core.List.{List}
use Prim.Native.Nat.{ℕ, suc, ◌+◌, ◌-◌, ◌*◌, ◌≤◌, ◌<◌}
use native.Mathlib.Omega.{arith}
use native.Mathlib.Numerals.{add-one}
use lib.ListN.{length, get_or, set}
use lib.Seq.{set-get_or}
use Rattle.std.specs.Prelude.{is_ok}
use Rattle.definitions.specs.Lists.{range}
use Rattle.definitions.specs.Record.{Validator, decode_one, encode_one, encode, decode, nobody}
use Rattle.definitions.specs.Checked.{Checked, value, refused, bind, settle, fold_checked}
use Rattle.definitions.specs.declared.Refusal.{Refusal}
use Rattle.laws.proofs.Checked.{not_value, value_same, refused_same, Bound, bound}
use Rattle.laws.proofs.Encode.{length-decode, encode-decode, decode-encode}
use Rattle.laws.proofs.Loops.Entry.{entry_at, put_at, entry-ten, entry-is, entry-back}
use Rattle.arithmetic.proofs.Laws.{bind-value, bind-refused}
use Rattle.definitions_electra.specs.declared.ExitChurn.{ExitChurn}
use Rattle.electra_registry.specs.declared.updates.RegistryNumbers.{RegistryNumbers}
use Rattle.electra_registry.specs.Turns.{Turned, kept, turn_by, Turns}
use Rattle.electra_registry.specs.Updates.{Exiting, exiting, turn_at, updates_by, Moves}

-- What was moved, or refused

module _ {m : Checked Exiting} {xs : List ℕ} {r : Checked ExitChurn} where
  pub moves-value : {x : Exiting} → m ≡ value x → r ≡ value x.churn → xs ≡ encode x.validators → Moves m xs r
  unfolding bind
  moves-value h z k = rw h (record { is = z; held = λ e g. k ∙ ap (λ (y : Exiting). encode y.validators) (value_same g) })

  pub moves-refused : {p : Refusal} → m ≡ refused p → r ≡ refused p → Moves m xs r
  unfolding bind
  moves-refused h z = rw h (record { is = z; held = λ e g. absurd (not_value g) })

first-refused : {A B : Type 0} (m : Checked A) (g : A → B) {p : Refusal} → bind m (λ a. value (g a)) ≡ refused p → m ≡ refused p
unfolding bind
first-refused (value a) g e = absurd (not_value (sym e))
first-refused (refused q) g e = ap refused (refused_same e)

-- The turn f at i: the part came back as e, and the answer is r
module _ (f : ExitChurn → Validator → Checked Turned) {churn : ExitChurn} (count : ℕ) (xs : List ℕ) (i : ℕ) {e : List ℕ} {r : Checked ExitChurn} (long : length xs ≡ 10 * count) (l : i < count) (h : Turns (f churn) churn (entry_at xs i) e r) where
  abbrev v : Validator
  v = get_or (decode xs) i nobody

  is : {m : Checked Turned} → f churn v ≡ m → f churn (decode_one (entry_at xs i)) ≡ m
  is g = ap (f churn) (entry-is count xs i long l) ∙ g

  put-at : (m : Checked Turned) → f churn v ≡ m → put_at xs i e ≡ encode (set (decode xs) i (settle m (kept churn v)).validator)
  put-at m g =
      entry-back count xs i long l (settle m (kept churn v)).validator
      (h.held ∙ ap₂ (λ (m : Checked Turned) (u : Validator). encode_one (settle m (kept churn u)).validator) (is g) (entry-is count xs i long l))

  answer : r ≡ bind (f churn v) (λ t. value t.churn)
  answer = h.is ∙ ap (λ (m : Checked Turned). bind m (λ t. value t.churn)) (is refl)

  gave : {c : ExitChurn} → r ≡ value c → Bound (f churn v) (λ t. value t.churn) c
  gave z = bound (f churn v) (λ t. value t.churn) (sym answer ∙ z)

  why : {p : Refusal} → r ≡ refused p → f churn v ≡ refused p
  why z = first-refused (f churn v) (λ t. t.churn) (sym answer ∙ z)

  pub turn-gave : {c : ExitChurn} → r ≡ value c → turn_at f (exiting (decode xs) churn) i ≡ value (exiting (decode (put_at xs i e)) c)
  unfolding turn_at
  turn-gave z =
      let o = gave z in
      bind-value _ o.gave ∙ sym (ap₂ (λ (vs : List Validator) (c : ExitChurn). value (exiting vs c)) (ap decode (put-at (value o.first) o.gave) ∙ decode-encode (set (decode xs) i o.first.validator)) (sym (value_same o.then)))

  pub turn-refused : {p : Refusal} → r ≡ refused p → turn_at f (exiting (decode xs) churn) i ≡ refused p
  unfolding turn_at
  turn-refused z = bind-refused _ (why z)

  pub turn-moves : Moves (turn_at f (exiting (decode xs) churn) i) (put_at xs i e) r
  unfolding turn_at
  turn-moves = go r refl
    where
      go : (t : Checked ExitChurn) → r ≡ t → Moves (turn_at f (exiting (decode xs) churn) i) (put_at xs i e) r
      go (value c) z = let o = gave z in moves-value (bind-value _ o.gave) (z ∙ sym o.then) (put-at (value o.first) o.gave)
      go (refused p) z = moves-refused (turn-refused z) z

  -- refused: the registry is left as lent
  pub turn-left : put_at xs i e ≡ cond (is_ok r) (put_at xs i e) xs
  turn-left = go r refl
    where
      go : (t : Checked ExitChurn) → r ≡ t → put_at xs i e ≡ cond (is_ok t) (put_at xs i e) xs
      go (value c) z = refl
      go (refused p) z = put-at (refused p) (why z) ∙ ap encode (set-get_or (decode xs) i nobody) ∙ encode-decode count xs long

-- The loop: what is left of it, from the registry xs and the two numbers `churn` after i turns, decides the whole
pub record Updating (n : RegistryNumbers) (first : ExitChurn) (count : ℕ) (xs₀ : List ℕ) (i : ℕ) (xs : List ℕ) (churn : ExitChurn) : Type 0 where
  pub long : length xs ≡ 10 * count
  pub below : i ≤ count
  pub held : updates_by n (exiting (decode xs₀) first) ≡ fold_checked (turn_at (turn_by n)) (exiting (decode xs) churn) (range i (count - i))

pub updating_none : (n : RegistryNumbers) (first : ExitChurn) {count : ℕ} {xs₀ : List ℕ} → length xs₀ ≡ 10 * count → Updating n first count xs₀ 0 xs₀ first
unfolding updates_by
updating_none n first {count} {xs₀} h =
    let e : length (decode xs₀) ≡ count - 0 = omega (arith, length-decode count xs₀ h) in
    record { long = h; below = omega arith; held = rw e }

module _ {n : RegistryNumbers} {first : ExitChurn} {count : ℕ} {xs₀ : List ℕ} {i : ℕ} {xs : List ℕ} {churn : ExitChurn} (g : Updating n first count xs₀ i xs churn) where
  pub updating_all : count ≤ i → Moves (updates_by n (exiting (decode xs₀) first)) xs (value churn)
  unfolding fold_checked range
  updating_all l =
      let e : count - i ≡ 0 = omega arith in
      moves-value (g.held ∙ rw e) refl (sym (encode-decode count xs g.long))

  module _ (l : i < count) where
    pub updating_ten : length (entry_at xs i) ≡ 10
    updating_ten = entry-ten count xs i g.long l

    module _ {e : List ℕ} {r : Checked ExitChurn} (h : Turns (turn_by n churn) churn (entry_at xs i) e r) where
      step : updates_by n (exiting (decode xs₀) first) ≡ bind (turn_at (turn_by n) (exiting (decode xs) churn) i) (λ c. fold_checked (turn_at (turn_by n)) c (range (suc i) (count - suc i)))
      unfolding fold_checked range
      step =
          let k : count - i ≡ suc (count - suc i) = omega arith in
          g.held ∙ rw k

      pub updating_more : {c : ExitChurn} → r ≡ value c → length (put_at xs i e) ≡ length xs → Updating n first count xs₀ (i + 1) (put_at xs i e) c
      unfolding bind
      updating_more z k = record { long = omega (arith, k, g.long); below = omega arith; held = step ∙ rw (turn-gave (turn_by n) count xs i g.long l h z, add-one i) }

      pub updating_stop : {zs : List ℕ} {p : Refusal} {s : Checked ExitChurn} → r ≡ refused p → s ≡ refused p → Moves (updates_by n (exiting (decode xs₀) first)) zs s
      unfolding bind
      updating_stop z k = moves-refused (step ∙ rw (turn-refused (turn_by n) count xs i g.long l h z)) k
