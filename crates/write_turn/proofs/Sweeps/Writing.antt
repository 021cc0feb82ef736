-- The loop that, for each validator of one buffer, writes the ten numbers of f's answer to another, and stops at the first refusal. What
-- stood in the other buffer does not matter.
use mathlib.Core.Path.{◌≡◌, refl, sym, ap, ◌∙◌}
use mathlib.Core.List.{List, [], ◌∷◌, ◌++◌}
use Prim.Native.Nat.{ℕ, zero, suc, ◌+◌, ◌*◌, ◌≤◌, ◌<◌}
use native.Mathlib.Omega.{arith}
use native.Mathlib.Numerals.{add-one}
use lib.ListN.{length, take, drop, set}
use lib.Seq.{take_all}
use Rattle.definitions.specs.Checked.{Checked, value, refused, bind, done}
use Rattle.definitions.specs.declared.Refusal.{Refusal}
use Rattle.definitions.specs.Record.{Validator, decode_one, encode_one, encode, decode}
use Rattle.laws.proofs.Checked.{not_value, value_same}
use Rattle.laws.proofs.Encode.{length-decode, encode-decode, decode-encode}
use Rattle.laws.specs.Ran.{Ran}
use Rattle.laws.proofs.Loops.Entry.{entry_at, put_at, entry-ten, entry-back}
use Rattle.laws.proofs.Loops.Reading.{Reading, prefix_all, prefix_more, prefix_rest}
use Rattle.write_turn.specs.Sweep.{Moved, Turning, sweep, dropped}
use Rattle.write_turn.specs.Steps.{carry_of, Steps, Swept}
use Rattle.write_turn.proofs.Sweeps.Fused.{more}
use Rattle.write_turn.proofs.Sweeps.Steps.{steps-gave, steps-by}

abbrev behind : {C A : Type 0} → List A → Moved C (List A) → Checked (Moved C (List A))
behind ys q = value (record { carry = q.carry; held = ys ++ q.held })

-- the list in two parts
sweep-append : {C A : Type 0} (f : Turning C A) (c : C) (xs ys : List A) → sweep f c (xs ++ ys) ≡ bind (sweep f c xs) (λ p. bind (sweep f p.carry ys) (behind p.held))
unfolding sweep bind
sweep-append {C} {A} f c [] ys = go (sweep f c ys)
  where
    go : (m : Checked (Moved C (List A))) → m ≡ bind m (behind [])
    go (value q) = refl
    go (refused p) = refl
sweep-append {C} {A} f c (x ∷ xs) ys = begun (f c x) (λ d. sweep-append f d xs ys)
  where
    ended : (y : A) (zs : List A) (k : Checked (Moved C (List A))) → bind (bind k (behind zs)) (more y) ≡ bind k (behind (y ∷ zs))
    ended y zs (value q) = refl
    ended y zs (refused p) = refl

    then : (y : A) (k : Checked (Moved C (List A))) → bind (bind k (λ p. bind (sweep f p.carry ys) (behind p.held))) (more y) ≡ bind (bind k (more y)) (λ p. bind (sweep f p.carry ys) (behind p.held))
    then y (value p) = ended y p.held (sweep f p.carry ys)
    then y (refused p) = refl

    begun : (m : Checked (Moved C A)) → ((d : C) → sweep f d (xs ++ ys) ≡ bind (sweep f d xs) (λ p. bind (sweep f p.carry ys) (behind p.held))) → bind m (λ m. bind (sweep f m.carry (xs ++ ys)) (more m.held)) ≡ bind (bind m (λ m. bind (sweep f m.carry xs) (more m.held))) (λ p. bind (sweep f p.carry ys) (behind p.held))
    begun (refused p) ih = refl
    begun (value m) ih = rw (ih m.carry) (then m.held (sweep f m.carry xs))

take-set : {A : Type 0} (xs : List A) (i : ℕ) (x : A) → i < length xs → take (suc i) (set xs i x) ≡ take i xs ++ (x ∷ [])
take-set [] i x l = absurd (omega arith)
take-set (y ∷ xs) zero x l = refl
take-set {A} (y ∷ xs) (suc i) x l = ap (λ (t : List A). y ∷ t) (take-set xs i x (omega arith))

-- After i turns that were not refused the other buffer is xs, and its first i validators and the state are what the pass gives of the
-- first i of xs₀
pub record Writing {C : Type 0} (f : Turning C Validator) (n : ℕ) (xs₀ : List ℕ) (c₀ : C) (i : ℕ) (xs : List ℕ) (c : C) : Type 0 where
  pub at : Reading n xs₀ i
  pub long : length xs ≡ 10 * n
  pub held : sweep f c₀ (take i (decode xs₀)) ≡ value (record { carry = c; held = take i (decode xs) })

pub writing-none : {C : Type 0} (f : Turning C Validator) {n : ℕ} {xs₀ xs : List ℕ} {c₀ : C} → length xs₀ ≡ 10 * n → length xs ≡ 10 * n → Writing f n xs₀ c₀ 0 xs c₀
unfolding sweep
writing-none f h k = record { at = record { long = h; below = omega arith }; long = k; held = refl }

module _ {C : Type 0} {f : Turning C Validator} {n : ℕ} {xs₀ : List ℕ} {c₀ : C} {i : ℕ} {xs : List ℕ} {c : C} (g : Writing f n xs₀ c₀ i xs c) where
  pub writing-all : n ≤ i → Swept (sweep f c₀ (decode xs₀)) xs (value c)
  writing-all l =
      let e : sweep f c₀ (decode xs₀) ≡ value (record { carry = c; held = decode xs }) = ap (sweep f c₀) (sym (prefix_all g.at l)) ∙ g.held ∙ ap (λ (vs : List Validator). value (record { carry = c; held = vs })) (take_all i (decode xs) (omega (arith, length-decode n xs g.long))) in
      record {
        is = ap carry_of (sym e);
        held = λ p t. sym (encode-decode n xs g.long) ∙ ap (λ (q : Moved C (List Validator)). encode q.held) (value_same (sym e ∙ t));
      }

  module _ (l : i < n) where
    -- both parts are ten numbers
    pub writing-from : length (entry_at xs₀ i) ≡ 10
    writing-from = entry-ten n xs₀ i g.at.long l

    pub writing-to : length (entry_at xs i) ≡ 10
    writing-to = entry-ten n xs i g.long l

    -- the part came back as e, and the turn answers r
    module _ {e : List ℕ} {r : Checked C} (h : Steps f c (entry_at xs₀ i) e r) where
      pub writing_more : {d : C} → r ≡ value d → length (put_at xs i e) ≡ length xs → Writing f n xs₀ c₀ (i + 1) (put_at xs i e) d
      unfolding sweep bind
      writing_more z k =
          let w = decode_one e in
          let gave = steps-gave h z in
          let ten : e ≡ encode_one w = h.held _ gave in
          let put : decode (put_at xs i e) ≡ set (decode xs) i w = ap decode (entry-back n xs i g.long l w ten) ∙ decode-encode _ in
          record {
            at = record { long = g.at.long; below = omega arith };
            long = k ∙ g.long;
            held = rw (prefix_more g.at l, sweep-append f c₀ (take i (decode xs₀)) (decode_one (entry_at xs₀ i) ∷ []), g.held, gave, put, add-one i, take-set (decode xs) i w (omega (arith, length-decode n xs g.long)));
          }

      pub writing-stop : {ys : List ℕ} {p : Refusal} → r ≡ refused p → Swept (sweep f c₀ (decode xs₀)) ys (refused p)
      unfolding sweep bind
      writing-stop {ys} {p} z =
          let t : sweep f c₀ (decode xs₀) ≡ refused p = ap (sweep f c₀) (prefix_rest g.at l) ∙ rw (sweep-append f c₀ (take i (decode xs₀)) (decode_one (entry_at xs₀ i) ∷ drop (suc i) (decode xs₀)), g.held, steps-by h z) in
          record { is = ap carry_of (sym t); held = λ p v. absurd (not_value (sym t ∙ v)) }

-- The registry alone, where the state is dropped
pub swept_ran : {C : Type 0} {m : Checked (Moved C (List Validator))} {xs : List ℕ} {r : Checked C} → Swept m xs r → Ran (dropped m) xs (done r)
unfolding bind
swept_ran {C} {m} {xs} {r} h = go m h
  where
    go : (m : Checked (Moved C (List Validator))) → Swept m xs r → Ran (dropped m) xs (done r)
    go (value p) h = record { is = ap done h.is; held = λ vs e. h.held p refl ∙ ap encode (value_same e) }
    go (refused p) h = record { is = ap done h.is; held = λ vs e. absurd (not_value e) }
