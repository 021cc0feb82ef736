-- Effective balances under Electra leave every balance, where each validator has its credentials.
use mathlib.Core.Path.{◌≡◌, refl, sym, ap, ◌∙◌}
use mathlib.Core.Bool.{Bool, true, false, cond}
use mathlib.Core.List.{List, [], ◌∷◌}
use Prim.Native.Nat.{ℕ, zero, suc, ◌-◌, ◌/◌, ◌%◌, ◌<◌, min}
use native.Mathlib.Omega.{arith}
use lib.Dec.{ltb}
use lib.ListN.{length}
use Rattle.definitions.specs.Record.{Validator}
use Rattle.definitions.specs.Updates.{with_effective_balance}
use Rattle.definitions.specs.Checked.{value, bind, add64, mul64}
use Rattle.laws.proofs.Checked.{value_same, bound}
use Rattle.laws_close.specs.Nine.{balance_at}
use Rattle.laws_close.proofs.Amounts.Kept.{Kept, kept_same, kept_then}
use Rattle.definitions_electra.specs.declared.ElectraRules.{ElectraRules}
use Rattle.definitions_electra.specs.Record.{ElectraState, with_vs}
use Rattle.definitions_electra.specs.Document.Electra.Helpers.{get_max_effective_balance}
use Rattle.definitions_electra.specs.Evaluated.Electra.EpochProcessing.{update_effective_balance, update_effective_balances, process_effective_balance_updates}
use Rattle.laws_electra_close.proofs.Registry.{Left, left-same, left-then}

same-balance : (r : ElectraRules) (compounding : ℕ) (v : Validator) {w : Validator} → update_effective_balance r compounding v ≡ value w → w.balance ≡ v.balance
unfolding update_effective_balance
same-balance r compounding v {w} e =
    let a = bound (mul64 increment r.settings.hysteresis_downward_multiplier) _ e in
    let b = bound (mul64 increment r.settings.hysteresis_upward_multiplier) _ a.then in
    let c = bound (add64 v.balance a.first) _ b.then in
    go b.first (ltb c.first v.effective_balance) c.then
  where
    increment : ℕ
    increment = r.settings.effective_balance_increment / r.settings.hysteresis_quotient

    updated : Validator
    updated = with_effective_balance (min (v.balance - v.balance % r.settings.effective_balance_increment) (get_max_effective_balance r.electra compounding)) v

    either : (t : Bool) → (cond t updated v).balance ≡ v.balance
    either true = refl
    either false = refl

    go : (upward : ℕ) (t : Bool) → cond t (value updated) (bind (add64 v.effective_balance upward) (λ high. value (cond (ltb high v.balance) updated v))) ≡ value w → w.balance ≡ v.balance
    go upward true e = ap (λ (u : Validator). u.balance) (sym (value_same e))
    go upward false e =
        let b = bound (add64 v.effective_balance upward) (λ high. value (cond (ltb high v.balance) updated v)) e in
        ap (λ (u : Validator). u.balance) (sym (value_same b.then)) ∙ either (ltb b.first v.balance)

kept_more : {v w : Validator} {vs ws : List Validator} → w.balance ≡ v.balance → Kept vs ws → Kept (v ∷ vs) (w ∷ ws)
kept_more {v} {w} {vs} {ws} e k = record { long = ap suc k.long; balance = at }
  where
    at : (i : ℕ) → i < length (v ∷ vs) → balance_at (w ∷ ws) i ≡ balance_at (v ∷ vs) i
    at zero l = e
    at (suc i) l = k.balance i (omega arith)

all-kept : (r : ElectraRules) (cs : List ℕ) (vs : List Validator) {ws : List Validator} → length cs ≡ length vs → update_effective_balances r cs vs ≡ value ws → Kept vs ws
unfolding update_effective_balances
all-kept r [] [] h e = kept_same (value_same e)
all-kept r (c ∷ cs) [] h e = absurd (omega (arith, h))
all-kept r [] (v ∷ vs) h e = absurd (omega (arith, h))
all-kept r (c ∷ cs) (v ∷ vs) h e =
    let a = bound (update_effective_balance r c v) (λ w. bind (update_effective_balances r cs vs) (λ ws. value (w ∷ ws))) e in
    let b = bound (update_effective_balances r cs vs) (λ ws. value (a.first ∷ ws)) a.then in
    kept_then (kept_more (same-balance r c v a.gave) (all-kept r cs vs (omega (arith, h)) b.gave)) (kept_same (value_same b.then))

pub effective-left : (r : ElectraRules) (st : ElectraState) {after : ElectraState} → length st.compounding ≡ length st.altair.validators → process_effective_balance_updates r st ≡ value after → Left st after
unfolding process_effective_balance_updates
effective-left r st h e =
    let a = bound (update_effective_balances r st.compounding st.altair.validators) (λ vs. value (with_vs vs st)) e in
    left-then (record { kept = all-kept r st.compounding st.altair.validators h a.gave; compounding = refl; queue = refl }) (left-same (value_same a.then))
