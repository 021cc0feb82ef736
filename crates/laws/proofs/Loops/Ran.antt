-- Steps one after the other, and what a caller's closing buffer holds at the end.
use mathlib.Core.Path.{◌≡◌, refl, sym, ap, ◌∙◌}
use mathlib.Core.List.{List}
use Prim.Native.Nat.{ℕ, ◌*◌, ◌<◌}
use lib.ListN.{length, get_or, set}
use Rattle.definitions.specs.Checked.{Checked, value, refused, bind, done, settle}
use Rattle.definitions.specs.declared.Refusal.{Refusal}
use Rattle.definitions.specs.Record.{Validator, decode_one, encode_one, encode, decode, nobody}
use Rattle.definitions.specs.Refusals.{closing_buffer}
use Rattle.laws.proofs.Checked.{not_value, refused_same}
use Rattle.laws.proofs.Encode.{decode-encode}
use Rattle.laws.specs.Ran.{Settles, Ran}
use Rattle.laws.proofs.Loops.Entry.{entry_at, put_at, entry-is, entry-back}

pub done-gave : {A : Type 0} (m : Checked A) (a : A) → done m ≡ value tt → m ≡ value (settle m a)
done-gave (value b) a e = refl
done-gave (refused p) a e = absurd (not_value e)

pub done-refused : {A : Type 0} (m : Checked A) {p : Refusal} → done m ≡ refused p → m ≡ refused p
done-refused (value b) e = absurd (not_value (sym e))
done-refused (refused q) e = ap refused (refused_same e)

-- a step that cannot be refused
pub ran-value : {vs : List Validator} {xs : List ℕ} → xs ≡ encode vs → Ran (value vs) xs (value tt)
ran-value h = record { is = refl; held = λ vs e. h ∙ ap encode (cc) }

-- a step that is refused, whatever the registry holds
pub ran-refused : {m : Checked (List Validator)} {xs : List ℕ} {p : Refusal} → m ≡ refused p → Ran m xs (refused p)
ran-refused h = rw h (record { is = refl; held = λ vs v. absurd (not_value v) })

module _ {m : Checked (List Validator)} {xs : List ℕ} {r : Checked (Unit {0})} (h : Ran m xs r) where
  pub ran-gave : r ≡ value tt → m ≡ value (decode xs)
  ran-gave z = go m h
    where
      go : (m : Checked (List Validator)) → Ran m xs r → m ≡ value (decode xs)
      go (value vs) h = ap value (sym (ap decode (h.held vs refl) ∙ decode-encode vs))
      go (refused p) h = absurd (not_value (sym h.is ∙ z))

  -- it was refused by p
  pub ran-by : {p : Refusal} → r ≡ refused p → m ≡ refused p
  ran-by {p} z = go m h
    where
      go : (m : Checked (List Validator)) → Ran m xs r → m ≡ refused p
      go (value vs) h = absurd (not_value (sym z ∙ h.is))
      go (refused q) h = let same : refused q ≡ refused p = sym h.is ∙ z in ap refused (refused_same same)

  -- the next step, on the registry that this one left
  pub ran-next : (k : List Validator → Checked (List Validator)) {ys : List ℕ} {s : Checked (Unit {0})} → r ≡ value tt → Ran (k (decode xs)) ys s → Ran (bind m k) ys s
  unfolding bind
  ran-next k z t = rw (ran-gave z) t

  -- refused: no next step
  pub ran-stop : (k : List Validator → Checked (List Validator)) {ys : List ℕ} {p : Refusal} → r ≡ refused p → Ran (bind m k) ys (refused p)
  unfolding bind
  ran-stop k z = ran-refused (rw (ran-by z))

  -- the closing registry: what the steps left, or the opening put back
  pub ran-kept : (opening closing : List ℕ) → r ≡ value tt → xs ≡ closing_buffer encode (value tt) m opening closing
  unfolding closing_buffer
  ran-kept opening closing z = go m h
    where
      go : (m : Checked (List Validator)) → Ran m xs r → xs ≡ closing_buffer encode (value tt) m opening closing
      go (value vs) h = h.held vs refl
      go (refused p) h = absurd (not_value (sym h.is ∙ z))

  pub ran-restored : (opening closing : List ℕ) {p : Refusal} → r ≡ refused p → opening ≡ closing_buffer encode (value tt) m opening closing
  unfolding closing_buffer
  ran-restored opening closing z = rw (ran-by z)

-- one entry alone
pub ran-entry : (f : Validator → Checked Validator) (n : ℕ) (xs : List ℕ) (i : ℕ) {e : List ℕ} {r : Checked (Unit {0})} → length xs ≡ 10 * n → i < n → Settles f (entry_at xs i) e r → Ran (bind (f (get_or (decode xs) i nobody)) (λ v. value (set (decode xs) i v))) (put_at xs i e) r
unfolding bind
ran-entry f n xs i {e} {r} long l h = go (f (get_or (decode xs) i nobody)) (ap f (entry-is n xs i long l))
  where
    go : (m : Checked Validator) → f (decode_one (entry_at xs i)) ≡ m → Ran (bind m (λ v. value (set (decode xs) i v))) (put_at xs i e) r
    go (value v) q = rw (h.is ∙ ap done q) (ran-value (entry-back n xs i long l v (h.held ∙ ap (λ (m : Checked Validator). encode_one (settle m (decode_one (entry_at xs i)))) q)))
    go (refused p) q = rw (h.is ∙ ap done q) (ran-refused refl)
