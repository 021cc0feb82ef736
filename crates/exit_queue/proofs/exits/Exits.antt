-- An exit by numbers is the Rust's, and who leaves already is left as he is.
use mathlib.Core.Path.{◌≡◌, sym, ◌∙◌}
use mathlib.Core.List.{List}
use Prim.Native.Nat.{ℕ, ◌+◌, ◌*◌, ◌<◌}
use native.Mathlib.Omega.{arith}
use borrow.Author.Tests.{ne_eqb}
use lib.ListN.{length, get_or}
use Rattle.definitions.specs.declared.Settings.{Settings}
use Rattle.definitions.specs.Record.{Validator, FAR_FUTURE_EPOCH, encode, decode}
use Rattle.definitions.specs.Checked.{Checked, value, bind}
use Rattle.definitions.specs.Rust.Phase0.Helpers.{compute_activation_exit_epoch, get_current_epoch, get_validator_churn_limit, exit_queue_epoch, initiate_validator_exit}
use Rattle.laws.proofs.Checked.{not_value}
use Rattle.laws.proofs.Encode.{encode-decode}
use Rattle.laws.proofs.Loops.Entry.{number-at}
use Rattle.laws.proofs.Loops.Ran.{ran-value}
use Rattle.exit_queue.specs.Exits.{queue_epoch, exit_at, Leaves}

pub exit_by-numbers : (s : Settings) (state_slot : ℕ) (vs : List Validator) (index : ℕ) {least limit : ℕ} → compute_activation_exit_epoch s (get_current_epoch s state_slot) ≡ value least → get_validator_churn_limit s state_slot vs ≡ limit → initiate_validator_exit s state_slot vs index ≡ exit_at least limit s.min_validator_withdrawability_delay vs index
unfolding initiate_validator_exit exit_queue_epoch exit_at queue_epoch bind
exit_by-numbers s state_slot vs index e f = rw (e, f)

leaves-value : {m : Checked (List Validator)} {vs : List Validator} {before after : List ℕ} → m ≡ value vs → after ≡ encode vs → Leaves m before after (value tt)
leaves-value h e = rw h (record { ran = ran-value e; kept = λ p q. absurd (not_value (sym q)) })

module _ (least limit delay n : ℕ) (xs : List ℕ) (i : ℕ) (long : length xs ≡ 10 * n) (l : i < n) where
  pub exit-known : (get_or xs (10 * i + 4) 0 ≡ FAR_FUTURE_EPOCH → ⊥) → Leaves (exit_at least limit delay (decode xs) i) xs xs (value tt)
  unfolding exit_at
  exit-known f = leaves-value (rw (ne_eqb _ FAR_FUTURE_EPOCH (λ e. f (number-at n xs i long l 4 (omega arith) ∙ e)))) (sym (encode-decode n xs long))
