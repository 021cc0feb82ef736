-- What becomes of a validator's score, case by case.
use mathlib.Core.Bool.{Bool, true, false}
use mathlib.Core.List.{List}
use mathlib.Core.Path.{◌≡◌, sym, ap}
use Prim.Native.Nat.{ℕ}
use lib.ListN.{length, set}
use Rattle.definitions.specs.declared.Settings.{Settings}
use Rattle.definitions.specs.Checked.{Checked, value, refused, bind}
use Rattle.definitions.specs.declared.Refusal.{Refusal}
use Rattle.definitions.specs.Record.{Validator, decode_one, encode_one}
use Rattle.definitions.specs.Updates.{with_score}
use Rattle.definitions.specs.Document.Phase0.EpochProcessing.{is_eligible}
use Rattle.definitions.specs.Document.Altair.Helpers.{is_unslashed_participating}
use Rattle.definitions.specs.Rust.Altair.EpochProcessing.{moved_score, recovered_score, update_inactivity_score}
use Rattle.laws.proofs.Encode.{ten}
use Rattle.laws.proofs.Checked.{not_value, value_same}
use Rattle.arithmetic.proofs.Operations.{OnlyOverflow, only-value, only-add64, only-bind}

pub only-moved : (s : Settings) (participating : Bool) (score : ℕ) → OnlyOverflow (moved_score s participating score)
unfolding moved_score
only-moved s true score = only-value _
only-moved s false score = only-add64 score _

pub only-new : (s : Settings) (participating leaking : Bool) (score : ℕ) → OnlyOverflow (bind (moved_score s participating score) (λ moved. value (recovered_score s leaking moved)))
only-new s participating leaking score = only-bind (only-moved s participating score) (λ moved. only-value _)

module _ (s : Settings) (current_epoch previous_epoch : ℕ) (leaking : Bool) (v : Validator) where
  pub not_eligible : is_eligible previous_epoch v ≡ false → update_inactivity_score s current_epoch previous_epoch leaking v ≡ value v
  unfolding update_inactivity_score
  not_eligible h = rw h

  module _ (h : is_eligible previous_epoch v ≡ true) {participating : Bool} (e : participating ≡ is_unslashed_participating current_epoch 1 previous_epoch v) where
    pub updated : {x : ℕ} → bind (moved_score s participating v.inactivity_score) (λ moved. value (recovered_score s leaking moved)) ≡ value x → update_inactivity_score s current_epoch previous_epoch leaking v ≡ value (with_score x v)
    unfolding update_inactivity_score bind
    updated {x} k = rw (h, ← e) (go (moved_score s participating v.inactivity_score) k)
      where
        go : (m : Checked ℕ) → bind m (λ moved. value (recovered_score s leaking moved)) ≡ value x → bind m (λ moved. value (with_score (recovered_score s leaking moved) v)) ≡ value (with_score x v)
        go (value moved) k = ap (λ (t : ℕ). value (with_score t v)) (value_same k)
        go (refused p) k = absurd (not_value k)

    pub not_updated : {p : Refusal} → bind (moved_score s participating v.inactivity_score) (λ moved. value (recovered_score s leaking moved)) ≡ refused p → update_inactivity_score s current_epoch previous_epoch leaking v ≡ refused p
    unfolding update_inactivity_score bind
    not_updated {p} k = rw (h, ← e) (go (moved_score s participating v.inactivity_score) k)
      where
        go : (m : Checked ℕ) → bind m (λ moved. value (recovered_score s leaking moved)) ≡ refused p → bind m (λ moved. value (with_score (recovered_score s leaking moved) v)) ≡ refused p
        go (value moved) k = absurd (not_value (sym k))
        go (refused q) k = cc

-- the score stored
pub put-score : (e : List ℕ) (x : ℕ) → length e ≡ 10 → set e 9 x ≡ encode_one (with_score x (decode_one e))
put-score e x h = rw (ten e h)
