-- The rows of the leaf and of the close: at each the Rust refuses, and where the document goes on the two part.
use mathlib.Core.Path.{◌≡◌, sym, ap, ◌∙◌, subst}
use mathlib.Core.List.{List}
use mathlib.Core.Logic.{◌⊎◌, ⊎_elim}
use Prim.Native.Nat.{ℕ}
use lib.ListN.{length}
use Rattle.definitions.specs.declared.ActivationLimit.{ActivationLimit}
use Rattle.definitions.specs.declared.Settings.{Settings}
use Rattle.definitions.specs.Record.{Validator, BeaconState}
use Rattle.definitions.specs.Checked.{Checked, value, fold_checked}
use Rattle.definitions.specs.Close as Rust
use Rattle.definitions.specs.Close.{Step, justification_step, inactivity_step, rewards_step, registry_step, slashings_step, effective_balances_step}
use Rattle.theorems.specs.Completeness.Rows.{Row, no_validators, CloseRow, at_inactivity, at_effective_balances}
use Rattle.theorems.specs.Completeness.Complete.{EveryLeafRow, EveryCloseRow}
use Rattle.laws.proofs.Checked.{value_same, bound}
use Rattle.agreement.proofs.Agrees.{not_refused}
use Rattle.theorems.proofs.Completeness.Close.{complete-close, empty}
use Rattle.theorems.proofs.Completeness.Delay.{delta-refused, complete-leaf}
use Rattle.theorems.proofs.Completeness.Kept.{kept_step}
use Rattle.theorems.proofs.Completeness.Steps.{every-row}

-- of two that are equal or parted, where one gives no value and the other does
parted : {A P : Type 0} {m n : Checked A} {a : A} → (m ≡ n) ⊎ P → (m ≡ value a → ⊥) → n ≡ value a → P
parted h f e = ⊎_elim (λ q. absurd (f (q ∙ e))) (λ p. p) h

pub every_leaf_row : (s : Settings) (state_slot finalized_epoch : ℕ) (vs : List Validator) (flag_index : ℕ) (v : Validator) → EveryLeafRow s state_slot finalized_epoch vs flag_index v
every_leaf_row s state_slot finalized_epoch vs flag_index v =
    record {
      refuses = λ l. delta-refused s state_slot finalized_epoch l.ahead vs flag_index v;
      parts = λ d l e. parted (complete-leaf s state_slot finalized_epoch vs flag_index v) (λ g. not_refused (sym g ∙ delta-refused s state_slot finalized_epoch l.ahead vs flag_index v)) e;
    }

none_after : (l : ActivationLimit) (s : Settings) (st st' : BeaconState) (k : Step) → Rust.limited_step l s st k ≡ value st' → Row s st effective_balances_step → Row s st' effective_balances_step
none_after l s st st' k e (no_validators n p) = no_validators (empty st'.validators ((kept_step l s st st' k e).validators.many ∙ ap length n)) p

close-refuses : (l : ActivationLimit) (s : Settings) (st st' : BeaconState) → CloseRow s st → Rust.limited_epoch l s st ≡ value st' → ⊥
unfolding Rust.limited_epoch Rust.limited_up_to fold_checked Rust.limited_step
close-refuses l s st st' (at_inactivity justified e row) g =
    let one = bound (Rust.limited_step l s st justification_step) _ g in
    let two = bound (Rust.limited_step l s one.first inactivity_step) _ one.then in
    let same : one.first ≡ justified = value_same (sym one.gave ∙ e) in
    not_refused (sym (subst (λ (x : BeaconState). Rust.limited_step l s x inactivity_step ≡ value two.first) same two.gave) ∙ (every-row l s justified).refuses inactivity_step row)
close-refuses l s st st' (at_effective_balances row) g =
    let one = bound (Rust.limited_step l s st justification_step) _ g in
    let two = bound (Rust.limited_step l s one.first inactivity_step) _ one.then in
    let three = bound (Rust.limited_step l s two.first rewards_step) _ two.then in
    let four = bound (Rust.limited_step l s three.first registry_step) _ three.then in
    let five = bound (Rust.limited_step l s four.first slashings_step) _ four.then in
    let six = bound (Rust.limited_step l s five.first effective_balances_step) _ five.then in
    let there = none_after l s _ _ slashings_step five.gave (none_after l s _ _ registry_step four.gave (none_after l s _ _ rewards_step three.gave (none_after l s _ _ inactivity_step two.gave (none_after l s _ _ justification_step one.gave row)))) in
    not_refused (sym six.gave ∙ (every-row l s five.first).refuses effective_balances_step there)

pub every_close_row : (l : ActivationLimit) (s : Settings) (st : BeaconState) → EveryCloseRow l s st
every_close_row l s st =
    record {
      refuses = close-refuses l s st;
      parts = λ st' p row e. parted (complete-close l s st p) (close-refuses l s st st' row) e;
    }
