-- The ways through an exit by balance and through a turn.
use mathlib.Core.Path.{◌≡◌}
use mathlib.Core.Bool.{Bool, true, false, cond}
use mathlib.Core.List.{List}
use Prim.Native.Nat.{ℕ, ◌+◌, ◌-◌, ◌≤◌, ◌<◌, max}
use borrow.Author.Tests.{eq-eqb, ne_eqb, lt-ltb, le-ltb}
use lib.Dec.{ltb, eqb}
use lib.ListN.{length, get_or, set}
use Rattle.definitions.specs.Record.{Validator, FAR_FUTURE_EPOCH, decode_one, encode_one}
use Rattle.definitions.specs.Updates.{with_eligibility, with_activation, with_exit}
use Rattle.definitions.specs.Checked.{Checked, value, refused, bind, add64}
use Rattle.definitions.specs.declared.Refusal.{Refusal}
use Rattle.definitions.specs.declared.Refusal.TheVariants.{Overflow}
use Rattle.laws.proofs.Encode.{ten}
use Rattle.arithmetic.proofs.Operations.{OnlyOverflow, only-value, only-bind, only-add64, only-sub64, only-mul64, sub64-given}
use Rattle.definitions_electra.specs.declared.ExitChurn.{ExitChurn}
use Rattle.definitions_electra.specs.Document.Electra.Helpers.{to_consume}
use Rattle.definitions_electra.specs.Evaluated.Electra.Helpers.{further_epochs, churned}
use Rattle.electra_registry.specs.declared.updates.RegistryNumbers.{RegistryNumbers}
use Rattle.electra_registry.specs.Turns.{limit_of, churn_by, Turned, kept, exit_with, is_queued, is_ejected_by, is_activated, turn_by, Turns}

-- No refusal but overflow

pub only-either : {A : Type 0} (t : Bool) {m n : Checked A} → OnlyOverflow m → OnlyOverflow n → OnlyOverflow (cond t m n)
only-either true h g = h
only-either false h g = g

only-further : (earliest available limit balance : ℕ) → OnlyOverflow (further_epochs earliest available limit balance)
unfolding further_epochs
only-further earliest available limit balance =
    only-bind (only-sub64 _ _) (λ a. only-bind (only-sub64 _ _) (λ b. only-bind (only-add64 _ _) (λ c. only-bind (only-add64 _ _) (λ d.
    only-bind (only-mul64 _ _) (λ e. only-bind (only-add64 _ _) (λ f. only-bind (only-sub64 _ _) (λ g. only-value _)))))))

only-limit : (limit : ℕ) → OnlyOverflow (limit_of limit)
unfolding limit_of
only-limit limit = only-either (eqb limit 0) (record { why = λ p e. cc }) (only-value limit)

pub only-churn : (least limit : ℕ) (churn : ExitChurn) (balance : ℕ) → OnlyOverflow (churn_by least limit churn balance)
unfolding churn_by churned
only-churn least limit churn balance =
    only-bind (only-limit limit) (λ l.
    only-either (ltb (to_consume (max churn.earliest_exit_epoch least) l churn) balance) (only-further _ _ _ _) (only-bind (only-sub64 _ _) (λ x. only-value _)))

-- The three ways through the exit's churn

module _ (least limit : ℕ) (churn : ExitChurn) (balance : ℕ) where
  pub churn-none : limit ≡ 0 → ◌≡◌ {A = Checked ExitChurn} (refused Overflow) (churn_by least limit churn balance)
  unfolding churn_by limit_of bind
  churn-none z = rw (eq-eqb limit 0 z)

  module _ (n : limit ≡ 0 → ⊥) {earliest available : ℕ} (a : earliest ≡ max churn.earliest_exit_epoch least) (b : available ≡ to_consume earliest limit churn) where
    pub churn-further : {r : Checked ExitChurn} → available < balance → r ≡ further_epochs earliest available limit balance → r ≡ churn_by least limit churn balance
    unfolding churn_by limit_of bind churned
    churn-further l h = rw (ne_eqb limit 0 n, ← a, ← b, lt-ltb available balance l) h

    pub churn-fits : balance ≤ available → ◌≡◌ {A = Checked ExitChurn} (value (record { exit_balance_to_consume = available - balance; earliest_exit_epoch = earliest })) (churn_by least limit churn balance)
    unfolding churn_by limit_of bind churned
    churn-fits l = rw (ne_eqb limit 0 n, ← a, ← b, le-ltb available balance l, sub64-given available balance l)

-- A turn that gave a value, or was refused

pub turns-value : (f : Validator → Checked Turned) {churn : ExitChurn} {before after : List ℕ} (t : Turned) → f (decode_one before) ≡ value t → after ≡ encode_one t.validator → Turns f churn before after (value t.churn)
unfolding bind
turns-value f t h e = record { is = rw h; held = rw h e }

pub turns-refused : (f : Validator → Checked Turned) {churn : ExitChurn} {before : List ℕ} {p : Refusal} {r : Checked ExitChurn} → length before ≡ 10 → f (decode_one before) ≡ refused p → r ≡ refused p → Turns f churn before before r
unfolding bind
turns-refused f {before = before} l h e = record { is = rw h e; held = rw h (ten before l) }

-- The four ways through an exit
module _ (least limit delay : ℕ) (churn : ExitChurn) (before : List ℕ) (l : length before ≡ 10) where
  abbrev v : Validator
  v = decode_one before

  pub exit-known : (get_or before 4 0 ≡ FAR_FUTURE_EPOCH → ⊥) → Turns (exit_with least limit delay churn) churn before before (value churn)
  unfolding exit_with
  exit-known f = turns-value (exit_with least limit delay churn) (kept churn v) (rw (ne_eqb (get_or before 4 0) FAR_FUTURE_EPOCH f)) (ten before l)

  module _ (f : get_or before 4 0 ≡ FAR_FUTURE_EPOCH) where
    pub exit-full : {p : Refusal} {r : Checked ExitChurn} → churn_by least limit churn (get_or before 0 0) ≡ refused p → r ≡ refused p → Turns (exit_with least limit delay churn) churn before before r
    unfolding exit_with bind
    exit-full h e = turns-refused (exit_with least limit delay churn) l (rw (eq-eqb (get_or before 4 0) FAR_FUTURE_EPOCH f, h)) e

    module _ {after : ExitChurn} (h : churn_by least limit churn (get_or before 0 0) ≡ value after) where
      pub exit-over : {p : Refusal} {r : Checked ExitChurn} → add64 after.earliest_exit_epoch delay ≡ refused p → r ≡ refused p → Turns (exit_with least limit delay churn) churn before before r
      unfolding exit_with bind
      exit-over k e = turns-refused (exit_with least limit delay churn) l (rw (eq-eqb (get_or before 4 0) FAR_FUTURE_EPOCH f, h, k)) e

      pub exit-written : {w : ℕ} {ys : List ℕ} → add64 after.earliest_exit_epoch delay ≡ value w → ys ≡ encode_one (with_exit after.earliest_exit_epoch w (decode_one before)) → Turns (exit_with least limit delay churn) churn before ys (value after)
      unfolding exit_with bind
      exit-written {w} k e =
          turns-value (exit_with least limit delay churn) (kept after (with_exit after.earliest_exit_epoch w v)) (rw (eq-eqb (get_or before 4 0) FAR_FUTURE_EPOCH f, h, k)) e

-- The four ways through a turn
module _ (n : RegistryNumbers) (churn : ExitChurn) (before : List ℕ) (l : length before ≡ 10) where
  pub turn-queued : is_queued n (decode_one before) ≡ true → Turns (turn_by n churn) churn before (set before 2 (n.epoch + 1)) (value churn)
  unfolding turn_by
  turn-queued q = turns-value (turn_by n churn) (kept churn (with_eligibility (n.epoch + 1) (decode_one before))) (rw q) (rw (ten before l))

  module _ (q : is_queued n (decode_one before) ≡ false) where
    pub turn-ejected : {ys : List ℕ} {r : Checked ExitChurn} → is_ejected_by n (decode_one before) ≡ true → Turns (exit_with n.least n.limit n.delay churn) churn before ys r → Turns (turn_by n churn) churn before ys r
    unfolding turn_by
    turn-ejected e h = record { is = rw (q, e) h.is; held = rw (q, e) h.held }

    module _ (e : is_ejected_by n (decode_one before) ≡ false) where
      pub turn-activated : is_activated n (decode_one before) ≡ true → Turns (turn_by n churn) churn before (set before 3 n.least) (value churn)
      unfolding turn_by
      turn-activated a = turns-value (turn_by n churn) (kept churn (with_activation n.least (decode_one before))) (rw (q, e, a)) (rw (ten before l))

      pub turn-stays : is_activated n (decode_one before) ≡ false → Turns (turn_by n churn) churn before before (value churn)
      unfolding turn_by
      turn-stays a = turns-value (turn_by n churn) (kept churn (decode_one before)) (rw (q, e, a)) (ten before l)
