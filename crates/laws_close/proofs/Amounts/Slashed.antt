-- The slashings step, and the ninth number of each validator.
use mathlib.Core.Path.{◌≡◌, sym, ap, ◌∙◌}
use mathlib.Core.Bool.{Bool, true, false, cond}
use mathlib.Core.List.{List}
use Prim.Native.Nat.{ℕ, ◌+◌, ◌-◌, ◌<◌, min}
use native.Mathlib.Omega.{arith}
use lib.Dec.{ltb}
use lib.ListN.{length, get_or}
use Rattle.definitions.specs.declared.Settings.{Settings}
use Rattle.definitions.specs.Record.{Validator, nobody}
use Rattle.definitions.specs.Updates.{with_balance}
use Rattle.definitions.specs.Checked.{Checked, value, bind, mul64, sum64}
use Rattle.definitions.specs.Rust.Phase0.Helpers.{get_current_epoch, get_total_active_balance, decrease_balance}
use Rattle.definitions.specs.Rust.Altair.EpochProcessing.{is_slashing_due, slashing_penalty, slash, process_slashings}
use Rattle.laws.proofs.Checked.{value_same, bound}
use Rattle.arithmetic.proofs.Laws.{bind-value}
use Rattle.definitions_close.specs.Amounts.{taken_from, taken_by_slashings}
use Rattle.laws_close.specs.Nine.{balance_at}
use Rattle.laws_close.proofs.Amounts.Lists.{each-length, each_at, each_gave}
use Rattle.laws.proofs.Tests.{lowered}

record Took (s : Settings) (epoch total adjusted : ℕ) (v w : Validator) : Type 0 where
  taken : ℕ
  is : taken_from s epoch total adjusted v ≡ value taken
  equal : v.balance ≡ w.balance + taken

took : (s : Settings) (epoch total adjusted : ℕ) (v : Validator) {w : Validator} → slash s epoch total adjusted v ≡ value w → Took s epoch total adjusted v w
unfolding slash taken_from decrease_balance
took s epoch total adjusted v {w} e =
    let a = bound (is_slashing_due s epoch v) _ e in
    go a.first a.gave a.then
  where
    lessened : ℕ → Validator
    lessened penalty = with_balance (cond (ltb v.balance penalty) 0 (v.balance - penalty)) v

    taking : Bool → Checked ℕ
    taking due = cond due (bind (slashing_penalty s total adjusted v) (λ penalty. value (min v.balance penalty))) (value 0)

    go : (due : Bool) → is_slashing_due s epoch v ≡ value due → cond due (bind (slashing_penalty s total adjusted v) (λ penalty. value (lessened penalty))) (value v) ≡ value w → Took s epoch total adjusted v w
    go true q e =
        let b = bound (slashing_penalty s total adjusted v) (λ penalty. value (lessened penalty)) e in
        let left : w.balance ≡ v.balance - min v.balance b.first = ap (λ (u : Validator). u.balance) (sym (value_same b.then)) ∙ lowered v.balance b.first in
        record { taken = min v.balance b.first; is = bind-value taking q ∙ bind-value _ b.gave; equal = omega (arith, left) }
    go false q e = record { taken = 0; is = bind-value taking q; equal = (let same = ap (λ (u : Validator). u.balance) (value_same e) in omega (arith, same)) }

pub record Slashed (s : Settings) (multiplier slot : ℕ) (slashings : List ℕ) (vs ws : List Validator) : Type 0 where
  pub ninths : List ℕ
  pub are : taken_by_slashings s multiplier slot slashings vs ≡ value ninths
  pub long : length ninths ≡ length vs
  pub same : length ws ≡ length vs
  pub equal : (i : ℕ) → i < length vs → balance_at vs i ≡ balance_at ws i + get_or ninths i 0

pub slashed : (s : Settings) (multiplier slot : ℕ) (slashings : List ℕ) (vs : List Validator) {ws : List Validator} → process_slashings s multiplier slot slashings vs ≡ value ws → Slashed s multiplier slot slashings vs ws
unfolding process_slashings taken_by_slashings
slashed s multiplier slot slashings vs {ws} e =
    let a = bound (get_total_active_balance s slot vs) _ e in
    let b = bound (sum64 slashings) _ a.then in
    let c = bound (mul64 b.first multiplier) _ b.then in
    let f = slash s (get_current_epoch s slot) a.first (min c.first a.first) in
    let g = taken_from s (get_current_epoch s slot) a.first (min c.first a.first) in
    let k = c.then in
    let at : (i : ℕ) → i < length vs → Took s (get_current_epoch s slot) a.first (min c.first a.first) (get_or vs i nobody) (get_or ws i nobody) = λ i l. took s _ _ _ (get_or vs i nobody) (each_at f nobody nobody vs k i l) in
    let all = each_gave g nobody vs (λ i l. record { gift = (at i l).taken; gave = (at i l).is }) in
    record {
      ninths = all.gift;
      are = bind-value _ a.gave ∙ bind-value _ b.gave ∙ bind-value _ c.gave ∙ all.gave;
      long = each-length g vs all.gave;
      same = each-length f vs k;
      equal = λ i l. (at i l).equal ∙ ap (λ (x : ℕ). balance_at ws i + x) (value_same (sym (at i l).is ∙ each_at g nobody 0 vs all.gave i l));
    }
