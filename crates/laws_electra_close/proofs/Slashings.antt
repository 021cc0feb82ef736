-- The slashings step under Electra, and the ninth number of each validator.
use mathlib.Core.Path.{◌≡◌, sym, ap, ◌∙◌}
use mathlib.Core.Bool.{Bool, true, false, cond}
use mathlib.Core.List.{List}
use Prim.Native.Nat.{ℕ, ◌+◌, ◌-◌, ◌/◌, ◌<◌, min}
use native.Mathlib.Omega.{arith}
use lib.Dec.{ltb}
use lib.ListN.{length, get_or}
use Rattle.definitions.specs.declared.Settings.{Settings}
use Rattle.definitions.specs.Record.{Validator, nobody}
use Rattle.definitions.specs.Updates.{with_balance}
use Rattle.definitions.specs.Checked.{Checked, value, bind, mul64, sum64, map_checked}
use Rattle.definitions.specs.Rust.Phase0.Helpers.{get_total_active_balance, decrease_balance}
use Rattle.definitions.specs.Rust.Altair.EpochProcessing.{is_slashing_due}
use Rattle.laws.proofs.Checked.{value_same, bound}
use Rattle.laws.proofs.Tests.{lowered}
use Rattle.laws.proofs.Frame.Entries.{kept_map}
use Rattle.arithmetic.proofs.Laws.{bind-value}
use Rattle.laws_close.specs.Nine.{balance_at}
use Rattle.laws_close.proofs.Amounts.Lists.{each-length, each_at, each_gave}
use Rattle.definitions_electra.specs.declared.ElectraRules.{ElectraRules}
use Rattle.definitions_electra.specs.Record.{ElectraState, with_vs}
use Rattle.definitions_electra.specs.Document.Electra.EpochProcessing.{current_epoch_of}
use Rattle.definitions_electra.specs.Evaluated.Electra.EpochProcessing.{slash, process_slashings}
use Rattle.definitions_electra_close.specs.Amounts.{taken_from, slashing_amounts}
use Rattle.laws_electra_close.proofs.Registry.{effectives}

record Took (s : Settings) (epoch per_increment : ℕ) (v w : Validator) : Type 0 where
  taken : ℕ
  is : taken_from s epoch per_increment v ≡ value taken
  equal : v.balance ≡ w.balance + taken
  effective : w.effective_balance ≡ v.effective_balance

took : (s : Settings) (epoch per_increment : ℕ) (v : Validator) {w : Validator} → slash s epoch per_increment v ≡ value w → Took s epoch per_increment v w
unfolding slash taken_from decrease_balance
took s epoch per_increment v {w} e =
    let a = bound (is_slashing_due s epoch v) _ e in
    go a.first a.gave a.then
  where
    penalties : Checked ℕ
    penalties = mul64 per_increment (v.effective_balance / s.effective_balance_increment)

    lessened : ℕ → Validator
    lessened penalty = with_balance (cond (ltb v.balance penalty) 0 (v.balance - penalty)) v

    taking : Bool → Checked ℕ
    taking due = cond due (bind penalties (λ penalty. value (min v.balance penalty))) (value 0)

    go : (due : Bool) → is_slashing_due s epoch v ≡ value due → cond due (bind penalties (λ penalty. value (lessened penalty))) (value v) ≡ value w → Took s epoch per_increment v w
    go true q e =
        let b = bound penalties (λ penalty. value (lessened penalty)) e in
        let left : w.balance ≡ v.balance - min v.balance b.first = ap (λ (u : Validator). u.balance) (sym (value_same b.then)) ∙ lowered v.balance b.first in
        record { taken = min v.balance b.first; is = bind-value taking q ∙ bind-value _ b.gave; equal = omega (arith, left); effective = ap (λ (u : Validator). u.effective_balance) (sym (value_same b.then)) }
    go false q e = record { taken = 0; is = bind-value taking q; equal = (let same = ap (λ (u : Validator). u.balance) (value_same e) in omega (arith, same)); effective = ap (λ (u : Validator). u.effective_balance) (sym (value_same e)) }

pub record Slashed (r : ElectraRules) (st after : ElectraState) : Type 0 where
  pub ws : List Validator
  pub after_is : with_vs ws st ≡ after
  pub ninths : List ℕ
  pub are : slashing_amounts r st ≡ value ninths
  pub long : length ninths ≡ length st.altair.validators
  pub same : length ws ≡ length st.altair.validators
  pub equal : (i : ℕ) → i < length st.altair.validators → balance_at st.altair.validators i ≡ balance_at ws i + get_or ninths i 0
  pub effective : effectives ws ≡ effectives st.altair.validators

pub slashed : (r : ElectraRules) (st : ElectraState) {after : ElectraState} → process_slashings r st ≡ value after → Slashed r st after
unfolding process_slashings slashing_amounts
slashed r st {after} e =
    let s = r.settings in
    let vs = st.altair.validators in
    let a = bound (get_total_active_balance s st.altair.finality.slot vs) _ e in
    let b = bound (sum64 st.altair.slashings) _ a.then in
    let c = bound (mul64 b.first r.bellatrix.proportional_slashing_multiplier_bellatrix) _ b.then in
    let per = min c.first a.first / (a.first / s.effective_balance_increment) in
    let f = slash s (current_epoch_of r st) per in
    let g = taken_from s (current_epoch_of r st) per in
    let d = bound (map_checked f vs) (λ ws. value (with_vs ws st)) c.then in
    let at : (i : ℕ) → i < length vs → Took s (current_epoch_of r st) per (get_or vs i nobody) (get_or d.first i nobody) = λ i l. took s _ _ (get_or vs i nobody) (each_at f nobody nobody vs d.gave i l) in
    let all = each_gave g nobody vs (λ i l. record { gift = (at i l).taken; gave = (at i l).is }) in
    record {
      ws = d.first;
      after_is = value_same d.then;
      ninths = all.gift;
      are = bind-value _ a.gave ∙ bind-value _ b.gave ∙ bind-value _ c.gave ∙ all.gave;
      long = each-length g vs all.gave;
      same = each-length f vs d.gave;
      equal = λ i l. (at i l).equal ∙ ap (λ (x : ℕ). balance_at d.first i + x) (value_same (sym (at i l).is ∙ each_at g nobody 0 vs all.gave i l));
      effective = kept_map f (λ v. v.effective_balance) (λ v w q. (took s (current_epoch_of r st) per v q).effective) vs d.gave;
    }
