-- The rewards step, and the eight numbers of each validator.
use mathlib.Core.Path.{◌≡◌, refl, sym, ap, ◌∙◌}
use mathlib.Core.Bool.{Bool, true, false, cond}
use mathlib.Core.List.{List, [], ◌∷◌, map}
use Prim.Native.Nat.{ℕ, ◌+◌, ◌-◌, ◌<◌, min}
use native.Mathlib.Omega.{arith}
use borrow.Author.Tests.{eqb-true}
use lib.Dec.{eqb}
use lib.ListN.{length, get_or, replicate, length-map}
use Rattle.definitions.specs.declared.Settings.{Settings}
use Rattle.definitions.specs.declared.Deltas.{Deltas}
use Rattle.definitions.specs.Record.{Validator, GENESIS_EPOCH, nobody}
use Rattle.definitions.specs.Updates.{with_balance}
use Rattle.definitions.specs.Checked.{Checked, value, bind, add64, map_checked, fold_checked}
use Rattle.definitions.specs.Rust.Phase0.Helpers.{get_current_epoch, get_previous_epoch, increase_balance, decrease_balance}
use Rattle.definitions.specs.Rust.Altair.Helpers.{FlagTotals, flag_totals, flag_index_deltas, get_flag_index_deltas, inactivity_penalty_deltas, get_inactivity_penalty_deltas}
use Rattle.definitions.specs.Rust.Altair.EpochProcessing.{apply_delta, all_deltas, reward_and_penalize, process_rewards_and_penalties}
use Rattle.laws.proofs.Checked.{value_same, bound, add64-value}
use Rattle.arithmetic.proofs.Laws.{bind-value}
use Rattle.definitions_close.specs.Amounts.{booked, booked_by_rewards}
use Rattle.laws_close.specs.Nine.{balance_at}
use Rattle.laws_close.proofs.Amounts.Lists.{Gave, each-length, each_at, each_gave, at_map}
use Rattle.laws.proofs.Tests.{lowered}

-- Of one validator

-- a reward, then its penalty as far as there is balance
applied : (v : Validator) (d : Deltas) {w : Validator} → apply_delta v d ≡ value w → w.balance ≡ v.balance + d.reward - min (v.balance + d.reward) d.penalty
unfolding apply_delta increase_balance decrease_balance
applied v d e =
    let a = bound (bind (add64 v.balance d.reward) (λ balance. value (with_balance balance v))) _ e in
    let b = bound (add64 v.balance d.reward) (λ balance. value (with_balance balance v)) a.gave in
    let raised : a.first.balance ≡ v.balance + d.reward = ap (λ (u : Validator). u.balance) (sym (value_same b.then)) ∙ sym (add64-value _ _ b.gave) in
    ap (λ (u : Validator). u.balance) (sym (value_same a.then)) ∙ lowered a.first.balance d.penalty ∙ ap (λ (x : ℕ). x - min x d.penalty) raised

-- the rewards of a list of pairs, and what was taken from a balance on
given : List Deltas → ℕ
given [] = 0
given (d ∷ ds) = d.reward + given ds

took : ℕ → List Deltas → ℕ
took balance [] = 0
took balance (d ∷ ds) = min (balance + d.reward) d.penalty + took (balance + d.reward - min (balance + d.reward) d.penalty) ds

tally : (v : Validator) (ds : List Deltas) {w : Validator} → fold_checked apply_delta v ds ≡ value w → v.balance + given ds ≡ w.balance + took v.balance ds
unfolding fold_checked given took
tally v [] e = ap (λ (u : Validator). u.balance + 0) (value_same e)
tally v (d ∷ ds) {w} e =
    let a = bound (apply_delta v d) (λ u. fold_checked apply_delta u ds) e in
    let next = applied v d a.gave in
    let rest : (v.balance + d.reward - min (v.balance + d.reward) d.penalty) + given ds ≡ w.balance + took (v.balance + d.reward - min (v.balance + d.reward) d.penalty) ds = rw next at (tally a.first ds a.then) in
    omega (arith, rest)

record Paid (s : Settings) (quotient current previous : ℕ) (source target head : FlagTotals) (v w : Validator) : Type 0 where
  a : Deltas
  b : Deltas
  c : Deltas
  d : Deltas
  a-is : flag_index_deltas s current previous 0 source v ≡ value a
  b-is : flag_index_deltas s current previous 1 target v ≡ value b
  c-is : flag_index_deltas s current previous 2 head v ≡ value c
  d-is : inactivity_penalty_deltas s quotient current previous v ≡ value d
  equal : v.balance + given (a ∷ b ∷ c ∷ d ∷ []) ≡ w.balance + took v.balance (a ∷ b ∷ c ∷ d ∷ [])

module _ (s : Settings) (quotient current previous : ℕ) (source target head : FlagTotals) (v : Validator) where
  paid : {w : Validator} → reward_and_penalize s quotient current previous source target head v ≡ value w → Paid s quotient current previous source target head v w
  unfolding reward_and_penalize all_deltas
  paid e =
      let all = bound (all_deltas s quotient current previous source target head v) (fold_checked apply_delta v) e in
      let h = bound (flag_index_deltas s current previous 0 source v) _ all.gave in
      let i = bound (flag_index_deltas s current previous 1 target v) _ h.then in
      let j = bound (flag_index_deltas s current previous 2 head v) _ i.then in
      let k = bound (inactivity_penalty_deltas s quotient current previous v) _ j.then in
      record {
        a = h.first;
        b = i.first;
        c = j.first;
        d = k.first;
        a-is = h.gave;
        b-is = i.gave;
        c-is = j.gave;
        d-is = k.gave;
        equal = tally v (h.first ∷ i.first ∷ j.first ∷ k.first ∷ []) (ap (fold_checked apply_delta v) (value_same k.then) ∙ all.then);
      }

  abbrev eight_of : Checked (List ℕ)
  eight_of = bind (all_deltas s quotient current previous source target head v) (λ ds. value (booked v.balance ds))

  eight : {w : Validator} (p : Paid s quotient current previous source target head v w) → eight_of ≡ value (booked v.balance (p.a ∷ p.b ∷ p.c ∷ p.d ∷ []))
  unfolding all_deltas
  eight p =
      bind-value _ (bind-value _ p.a-is ∙ bind-value _ p.b-is ∙ bind-value _ p.c-is ∙ bind-value _ p.d-is)

-- Of all

abbrev pub rewards_for : List ℕ → ℕ
rewards_for e = get_or e 0 0 + get_or e 2 0 + get_or e 4 0 + get_or e 6 0

abbrev pub taken_for : List ℕ → ℕ
taken_for e = get_or e 1 0 + get_or e 3 0 + get_or e 5 0 + get_or e 7 0

-- by the delta leaves
pub record Leaves (s : Settings) (quotient slot fin : ℕ) (vs : List Validator) (v : Validator) (e : List ℕ) : Type 0 where
  pub source : Deltas
  pub target : Deltas
  pub head : Deltas
  pub inactivity : Deltas
  pub source_is : get_flag_index_deltas s slot fin vs 0 v ≡ value source
  pub target_is : get_flag_index_deltas s slot fin vs 1 v ≡ value target
  pub head-is : get_flag_index_deltas s slot fin vs 2 v ≡ value head
  pub inactivity-is : get_inactivity_penalty_deltas s quotient slot v ≡ value inactivity
  pub cut : e ≡ booked v.balance (source ∷ target ∷ head ∷ inactivity ∷ [])

pub record Rewarded (s : Settings) (quotient slot fin : ℕ) (vs ws : List Validator) : Type 0 where
  pub eights : List (List ℕ)
  pub are : booked_by_rewards s quotient slot fin vs ≡ value eights
  pub long : length eights ≡ length vs
  pub same : length ws ≡ length vs
  pub eight : (i : ℕ) → i < length vs → length (get_or eights i []) ≡ 8
  pub equal : (i : ℕ) → i < length vs → balance_at vs i + rewards_for (get_or eights i []) ≡ balance_at ws i + taken_for (get_or eights i [])
  pub leaves : (get_current_epoch s slot ≡ 0 → ⊥) → (i : ℕ) → i < length vs → Leaves s quotient slot fin vs (get_or vs i nobody) (get_or eights i [])

module _ (s : Settings) (quotient slot fin : ℕ) (vs : List Validator) where
  abbrev current : ℕ
  current = get_current_epoch s slot

  abbrev previous : ℕ
  previous = get_previous_epoch s slot

  abbrev totals : ℕ → Checked FlagTotals
  totals = flag_totals s slot fin vs

  abbrev zeros : List ℕ
  zeros = replicate 8 0

  -- at the genesis epoch
  genesis : {ws : List Validator} → eqb current GENESIS_EPOCH ≡ true → vs ≡ ws → Rewarded s quotient slot fin vs ws
  unfolding booked_by_rewards
  genesis {ws} q e =
      let at : (i : ℕ) → i < length vs → get_or (map (λ v. zeros) vs) i [] ≡ zeros = λ i l. at_map (λ v. zeros) nobody [] vs i l in
      record {
        eights = map (λ v. zeros) vs;
        are = rw q;
        long = length-map vs (λ v. zeros);
        same = ap length (sym e);
        eight = λ i l. ap length (at i l);
        equal = λ i l. rw (at i l, e);
        leaves = λ n. absurd (n (eqb-true current 0 q));
      }

  module _ (source target head : FlagTotals) where
    abbrev f : Validator → Checked Validator
    f = reward_and_penalize s quotient current previous source target head

    abbrev g : Validator → Checked (List ℕ)
    g v = eight_of s quotient current previous source target head v

    module _ {ws : List Validator} (e : map_checked f vs ≡ value ws) where
      paid-at : (i : ℕ) → i < length vs → Paid s quotient current previous source target head (get_or vs i nobody) (get_or ws i nobody)
      paid-at i l = paid s quotient current previous source target head (get_or vs i nobody) (each_at f nobody nobody vs e i l)

      given-at : (i : ℕ) → i < length vs → Gave (g (get_or vs i nobody))
      given-at i l = record { gift = _; gave = eight s quotient current previous source target head (get_or vs i nobody) (paid-at i l) }

      all : Gave (map_checked g vs)
      all = each_gave g nobody vs given-at

      at : (i : ℕ) (l : i < length vs) → let p = paid-at i l in get_or all.gift i [] ≡ booked (balance_at vs i) (p.a ∷ p.b ∷ p.c ∷ p.d ∷ [])
      at i l = value_same (sym (each_at g nobody [] vs all.gave i l) ∙ eight s quotient current previous source target head (get_or vs i nobody) (paid-at i l))

      eight-at : (i : ℕ) → i < length vs → length (get_or all.gift i []) ≡ 8
      unfolding booked
      eight-at i l = ap length (at i l)

      equal-at : (i : ℕ) → i < length vs → balance_at vs i + rewards_for (get_or all.gift i []) ≡ balance_at ws i + taken_for (get_or all.gift i [])
      unfolding booked given took
      equal-at i l = rw (at i l) (omega (arith, (paid-at i l).equal))

      module _ (source_is : totals 0 ≡ value source) (target_is : totals 1 ≡ value target) (head-is : totals 2 ≡ value head) where
        leaves_at : (i : ℕ) → i < length vs → Leaves s quotient slot fin vs (get_or vs i nobody) (get_or all.gift i [])
        unfolding get_flag_index_deltas get_inactivity_penalty_deltas
        leaves_at i l =
            let p = paid-at i l in
            record {
              source = p.a;
              target = p.b;
              head = p.c;
              inactivity = p.d;
              source_is = bind-value _ source_is ∙ p.a-is;
              target_is = bind-value _ target_is ∙ p.b-is;
              head-is = bind-value _ head-is ∙ p.c-is;
              inactivity-is = p.d-is;
              cut = at i l;
            }

        later : eqb current GENESIS_EPOCH ≡ false → Rewarded s quotient slot fin vs ws
        unfolding booked_by_rewards
        later q =
            record {
              eights = all.gift;
              are = rw q (bind-value _ source_is ∙ bind-value _ target_is ∙ bind-value _ head-is ∙ all.gave);
              long = each-length g vs all.gave;
              same = each-length f vs e;
              eight = eight-at;
              equal = equal-at;
              leaves = λ n. leaves_at;
            }

  pub rewarded : {ws : List Validator} → process_rewards_and_penalties s quotient slot fin vs ≡ value ws → Rewarded s quotient slot fin vs ws
  unfolding process_rewards_and_penalties
  rewarded {ws} e = go (eqb current GENESIS_EPOCH) refl e
    where
      go : (b : Bool) → eqb current GENESIS_EPOCH ≡ b → cond b (value vs) (bind (totals 0) (λ source. bind (totals 1) (λ target. bind (totals 2) (λ head. map_checked (f source target head) vs)))) ≡ value ws → Rewarded s quotient slot fin vs ws
      go true q e = genesis q (value_same e)
      go false q e =
          let a = bound (totals 0) _ e in
          let b = bound (totals 1) _ a.then in
          let c = bound (totals 2) _ b.then in
          later a.first b.first c.first c.then a.gave b.gave c.gave q
