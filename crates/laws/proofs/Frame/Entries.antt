-- What is written of one validator at a turn of a step's loop.
use mathlib.Core.Path.{◌≡◌, refl, sym, ap, ap₂, ◌∙◌}
use mathlib.Core.Bool.{Bool, true, false, cond}
use mathlib.Core.List.{List, [], ◌∷◌, map}
use Prim.Native.Nat.{ℕ}
use lib.Dec.{ltb}
use Rattle.definitions.specs.declared.Settings.{Settings}
use Rattle.definitions.specs.declared.Deltas.{Deltas}
use Rattle.definitions.specs.Record.{Validator}
use Rattle.definitions.specs.Updates.{with_balance, with_effective_balance, with_score}
use Rattle.definitions.specs.Checked.{Checked, value, map_checked, fold_checked}
use Rattle.definitions.specs.Document.Phase0.EpochProcessing.{rounded_balance}
use Rattle.definitions.specs.Rust.Phase0.Helpers.{increase_balance, decrease_balance}
use Rattle.definitions.specs.Rust.Phase0.EpochProcessing.{is_eligible, update_effective_balance}
use Rattle.definitions.specs.Rust.Altair.Helpers.{FlagTotals}
use Rattle.definitions.specs.Rust.Altair.EpochProcessing.{update_inactivity_score, apply_delta, reward_and_penalize, slash}
use Rattle.laws.proofs.Checked.{value_same, bound}
use Rattle.laws.proofs.Tests.{either}

-- what a condition chooses between
-- a turn leaves what h reads as it is, and so does the loop
abbrev pub Keeps : {B : Type 0} → (Validator → Checked Validator) → (Validator → B) → Type 0
Keeps f h = (v w : Validator) → f v ≡ value w → h w ≡ h v

pub kept_map : {B : Type 0} (f : Validator → Checked Validator) (h : Validator → B) → Keeps f h → (vs : List Validator) {ws : List Validator} → map_checked f vs ≡ value ws → map h ws ≡ map h vs
unfolding map_checked
kept_map f h k [] p = ap (map h) (sym (value_same p))
kept_map f h k (v ∷ vs) p =
    let a = bound _ _ p in
    let b = bound _ _ a.then in
    ap (map h) (sym (value_same b.then)) ∙ ap₂ ◌∷◌ (k v a.first a.gave) (kept_map f h k vs b.gave)

-- what g reads is told by h
pub told : {B : Type 0} (h : Validator → Validator) (g : Validator → B) → ((v : Validator) → g (h v) ≡ g v) → (vs ws : List Validator) → map h ws ≡ map h vs → map g ws ≡ map g vs
told {B} h g k vs ws p = sym (through ws) ∙ ap (map g) p ∙ through vs
  where
    through : (us : List Validator) → map g (map h us) ≡ map g us
    through [] = refl
    through (u ∷ us) = ap₂ ◌∷◌ (k u) (through us)

-- the value given outright
outright : {B : Type 0} (h : Validator → B) {v w : Validator} → ◌≡◌ {A = Checked Validator} (value v) (value w) → h w ≡ h v
outright h p = ap h (sym (value_same p))

-- the score alone
pub score-writes : (s : Settings) (current_epoch previous_epoch : ℕ) (leaking : Bool) → Keeps (update_inactivity_score s current_epoch previous_epoch leaking) (with_score 0)
unfolding update_inactivity_score
score-writes s current_epoch previous_epoch leaking v w =
    either (λ w. with_score 0 w ≡ with_score 0 v) (is_eligible previous_epoch v) (λ p. outright (with_score 0) {v = with_score _ v} (bound _ _ p).then) (outright (with_score 0))

-- the balance alone
delta-writes : (v : Validator) (d : Deltas) (w : Validator) → apply_delta v d ≡ value w → with_balance 0 w ≡ with_balance 0 v
unfolding apply_delta increase_balance decrease_balance
delta-writes v d w p =
    let a = bound _ _ p in
    let b = bound _ _ a.gave in
    outright (with_balance 0) {v = decrease_balance a.first d.penalty} a.then ∙ outright (with_balance 0) {v = with_balance b.first v} b.then

deltas_write : (ds : List Deltas) (v w : Validator) → fold_checked apply_delta v ds ≡ value w → with_balance 0 w ≡ with_balance 0 v
unfolding fold_checked
deltas_write [] v w p = outright (with_balance 0) p
deltas_write (d ∷ ds) v w p =
    let a = bound _ _ p in
    deltas_write ds a.first w a.then ∙ delta-writes v d a.first a.gave

pub reward_writes : (s : Settings) (quotient current_epoch previous_epoch : ℕ) (source target head : FlagTotals) → Keeps (reward_and_penalize s quotient current_epoch previous_epoch source target head) (with_balance 0)
unfolding reward_and_penalize
reward_writes s quotient current_epoch previous_epoch source target head v w p =
    let a = bound _ _ p in
    deltas_write a.first v w a.then

pub slash-writes : (s : Settings) (epoch total adjusted : ℕ) → Keeps (slash s epoch total adjusted) (with_balance 0)
unfolding slash decrease_balance
slash-writes s epoch total adjusted v w p =
    let a = bound _ _ p in
    either (λ w. with_balance 0 w ≡ with_balance 0 v) a.first (λ q. outright (with_balance 0) {v = decrease_balance v _} (bound _ _ q).then) (outright (with_balance 0)) a.then

-- the effective balance alone
pub effective-writes : (s : Settings) (downward upward : ℕ) → Keeps (update_effective_balance s downward upward) (with_effective_balance 0)
unfolding update_effective_balance
effective-writes s downward upward v w p =
    let a = bound _ _ p in
    either (λ w. rest w ≡ rest v) (ltb a.first v.effective_balance) (outright rest {v = updated})
    (λ q.
    let b = bound _ _ q in
    outright rest b.then ∙ kept (ltb b.first v.balance))
    a.then
  where
    rest : Validator → Validator
    rest v = with_effective_balance 0 v

    updated : Validator
    updated = with_effective_balance (rounded_balance s v) v

    kept : (b : Bool) → rest (cond b updated v) ≡ rest v
    kept true = refl
    kept false = refl
