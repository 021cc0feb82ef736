-- The amounts that the parts of a close leave are those of the opening.
use mathlib.Core.Path.{◌≡◌, refl, sym, ap, ◌∙◌}
use mathlib.Core.Bool.{Bool, true, false, cond}
use mathlib.Core.List.{List, [], ◌++◌}
use Prim.Native.Nat.{ℕ, ◌+◌, ◌-◌, ◌*◌, ◌≤◌, ◌<◌}
use native.Mathlib.Omega.{arith}
use borrow.Author.Tests.{ltb-true, ltb-false, eqb-true}
use lib.Dec.{ltb, eqb}
use lib.ListN.{length, get_or, replicate, get_or-append}
use lib.Seq.{get_or-append-add}
use Rattle.definitions.specs.Lists.{all}
use Rattle.definitions.specs.Record.{Validator, nobody}
use Rattle.definitions.specs.Checked.{value, add64}
use Rattle.laws.proofs.Checked.{value_same, bound}
use Rattle.arithmetic.proofs.Laws.{bind-value}
use Rattle.laws_close.proofs.Amounts.Kept.{scores-kept}
use Rattle.laws_close.proofs.Amounts.Rewarded.{Rewarded, rewarded}
use Rattle.definitions_electra.specs.declared.ElectraRules.{ElectraRules}
use Rattle.definitions_electra.specs.Record.{ElectraState}
use Rattle.definitions_electra.specs.Document.Electra.EpochProcessing.{current_epoch_of, Queueing}
use Rattle.definitions_electra.specs.Evaluated.Electra.EpochProcessing.{queueing}
use Rattle.laws_electra.specs.Consolidations.{within}
use Rattle.definitions_electra_close.specs.Amounts.{Moved, reward_amounts, deposit_amounts, electra_amounts}
use Rattle.laws_electra_close.proofs.Lists.{zeros, any_default, beyond, eight-all}
use Rattle.laws_electra_close.proofs.Registry.{registry_steady}
use Rattle.laws_electra_close.proofs.Slashings.{Slashed, slashed}
use Rattle.laws_electra_close.proofs.Balances.{deposited-at}
use Rattle.laws_electra_close.proofs.Rows.{TwelveColumns, twelve-rows}
use Rattle.electra_consolidations.specs.Moves.{column}
use Rattle.electra_consolidations.proofs.Moves.{column-long, column-at}
use Rattle.electra_slashings.proofs.Slashed.{step_by_lem}
use Rattle.electra_first.specs.Taken.{balance_at}
use Rattle.electra_first.specs.First.{Five, five_by, after_five}
use Rattle.electra_first.proofs.RegistryIn.{registry_in}
use Rattle.electra_steps.specs.Last.{Six, six_by, after_six, under}
use Rattle.electra_twelve.specs.Twelve.{registered, Twelve}
use Rattle.electra_twelve.proofs.Between.{Between, between, after_three, after_four, two, four, five, six}
use Rattle.electra_twelve.proofs.Moves.{all_moved, moved_all}

-- the sixth step's next epoch is the seventh's
next-epoch : (r : ElectraRules) (st : ElectraState) {x : Six} → six_by r st ≡ value x → add64 (current_epoch_of r st) 1 ≡ value x.queueing.next_epoch
unfolding six_by queueing
next-epoch r st e =
    let a = bound _ _ e in
    let b = bound _ _ a.then in
    let c = bound _ _ b.then in
    let q = bound _ _ a.gave in
    let l = bound _ _ q.then in
    let m = bound _ _ l.then in
    let s = bound _ _ m.then in
    q.gave ∙ ap (λ (q : Queueing). value q.next_epoch) (value_same s.then) ∙ ap (λ (y : Six). value y.queueing.next_epoch) (value_same c.then)

module _ (r : ElectraRules) (st : ElectraState) (n : ℕ) (many : length st.altair.validators ≡ n) (placed : all (within n) st.pending_consolidations ≡ true) (v : Five) (e₅ : five_by r (under r) st.altair.finality st.churn st.altair.validators st.altair.slashings st.altair.block_roots ≡ value v) (x : Six) (e₆ : six_by r (after_five st v) ≡ value x) (xs : List ℕ) (t : Twelve n r v x x.queueing.next_epoch st.pending_consolidations xs) where
  by : Between r st v
  by = between r st e₅

  rewards : Rewarded (under r) (under r).inactivity_penalty_quotient_altair v.finality.slot v.finality.finalized_checkpoint.epoch v.four.paid.scored v.four.paid.paid
  rewards = rewarded (under r) _ _ _ v.four.paid.scored by.pays

  slashing : Slashed r (after_four r st v) (after_five st v)
  slashing = slashed r (after_four r st v) (step_by_lem r (after_four r st v) ∙ bind-value _ by.slashes)

  scored-many : length v.four.paid.scored ≡ n
  scored-many = (scores-kept (under r) _ _ st.altair.validators by.scores).long ∙ many

  updated-many : length v.four.taken.updated.validators ≡ n
  updated-many = (registry_steady r (after_three r st v) (registry_in r (after_three r st v) ∙ bind-value _ by.exits)).left.kept.long ∙ rewards.same ∙ scored-many

  lessened-is : slashing.ws ≡ v.four.taken.lessened
  lessened-is = ap (λ (s : ElectraState). s.altair.validators) slashing.after_is

  lessened-many : length v.four.taken.lessened ≡ n
  lessened-many = ap length (sym lessened-is) ∙ slashing.same ∙ updated-many

  abbrev moves : Moved
  moves = all_moved r (after_six (after_five st v) x) n x.queueing.next_epoch xs placed t.least (next-epoch r (after_five st v) e₆) t.moves

  abbrev deposited : List ℕ
  deposited = deposit_amounts v.four.taken.lessened (registered x)

  -- of the opening, or added
  either : {A : Type 0} (i : ℕ) → (i < n → A) → (n ≤ i → A) → A
  either {A} i old new = go (ltb i n) refl
    where
      go : (b : Bool) → ltb i n ≡ b → A
      go true q = old (ltb-true i n q)
      go false q = let l = ltb-false i n q in new (omega (arith, l))

  added_none : (i k : ℕ) → n ≤ i → i < length (registered x) → k < 12 → (k ≡ 9 → ⊥) → get_or xs (12 * i + k) 0 ≡ 0
  added_none i k o l m d = t.added i k o l m ∙ go (eqb k 9) refl
    where
      go : (b : Bool) → eqb k 9 ≡ b → cond b (balance_at (registered x) i) 0 ≡ 0
      go true q = absurd (d (eqb-true k 9 q))
      go false q = refl

  -- a column of those of the opening, and zeros
  moved_at : (k i : ℕ) → i < length (registered x) → 10 ≤ k → k < 12 → get_or xs (12 * i + k) 0 ≡ get_or (column k n xs ++ replicate (length (registered x) - n) 0) i 0
  moved_at k i l a b =
      let c = column-long k n xs in
      either i
      (λ m. sym (column-at k n xs i m) ∙ sym (get_or-append (column k n xs) (replicate (length (registered x) - n) 0) 0 i (omega (arith, m, c))))
      (λ m.
      let e : i ≡ length (column k n xs) + (i - n) = omega (arith, m, c) in
      added_none i k m l b (omega arith) ∙ sym (ap (λ (j : ℕ). get_or (column k n xs ++ replicate (length (registered x) - n) 0) j 0) e ∙ get_or-append-add (column k n xs) (replicate (length (registered x) - n) 0) (i - n) 0 ∙ zeros (length (registered x) - n) (i - n)))

  taken_at : (i : ℕ) → i < n → balance_at v.four.taken.updated.validators i - balance_at v.four.taken.lessened i ≡ get_or slashing.ninths i 0
  taken_at i o =
      let e : balance_at v.four.taken.updated.validators i ≡ balance_at v.four.taken.lessened i + get_or slashing.ninths i 0 = slashing.equal i (omega (arith, o, updated-many)) ∙ ap (λ (ws : List Validator). balance_at ws i + get_or slashing.ninths i 0) lessened-is in
      omega (arith, e)

  columns : TwelveColumns (length (registered x)) rewards.eights slashing.ninths deposited moves xs
  columns =
      record {
        long = t.long;
        wide = λ i l. eight-all rewards.eights (λ j k. rewards.eight j (omega (arith, k, rewards.long))) i;
        eight = λ i k l m. either i (λ o. t.nine rewards.eights rewards.are i k o m ∙ ap (λ (e : List ℕ). get_or e k 0) (any_default rewards.eights i [] (replicate 8 0) (omega (arith, o, rewards.long, scored-many)))) (λ o. added_none i k o l (omega (arith, m)) (λ e. omega (arith, m, e)) ∙ sym (ap (λ (e : List ℕ). get_or e k 0) (beyond rewards.eights i (replicate 8 0) (omega (arith, o, rewards.long, scored-many))) ∙ zeros 8 k));
        ninth = λ i l. either i (λ o. t.ninth i o ∙ taken_at i o) (λ o. added_none i 8 o l (omega arith) (λ e. omega (arith, e)) ∙ sym (beyond slashing.ninths i 0 (omega (arith, o, slashing.long, updated-many))));
        tenth = λ i l. (
            let d = deposited-at v.four.taken.lessened (registered x) i l in
            either i (λ o. t.tenth i o ∙ sym d) (λ o.
            let a : get_or xs (12 * i + 9) 0 ≡ balance_at (registered x) i = t.added i 9 o l (omega arith) in
            let z : balance_at v.four.taken.lessened i ≡ 0 = ap (λ (w : Validator). w.balance) (beyond v.four.taken.lessened i nobody (omega (arith, o, lessened-many))) in
            omega (arith, a, d, z)));
        out = λ i l. moved_at 10 i l (omega arith) (omega arith);
        into = λ i l. moved_at 11 i l (omega arith) (omega arith);
      }

  are : electra_amounts r st ≡ value xs
  unfolding electra_amounts reward_amounts
  are =
      bind-value _ (two r st e₅)
      ∙ bind-value _ rewards.are
      ∙ bind-value _ (four r st e₅)
      ∙ bind-value _ slashing.are
      ∙ bind-value _ (five r st e₅)
      ∙ bind-value _ (six r st e₅ x e₆)
      ∙ bind-value _ (moved_all r (after_six (after_five st v) x) n x.queueing.next_epoch xs placed t.least (next-epoch r (after_five st v) e₆) t.moves)
      ∙ ap value (sym (twelve-rows columns))

-- of every state of n validators whose consolidations are among them, where the first six steps gave values
pub amounts-are : (r : ElectraRules) (st : ElectraState) (n : ℕ) → length st.altair.validators ≡ n → all (within n) st.pending_consolidations ≡ true
    → (v : Five) → five_by r (under r) st.altair.finality st.churn st.altair.validators st.altair.slashings st.altair.block_roots ≡ value v
    → (x : Six) → six_by r (after_five st v) ≡ value x → (xs : List ℕ) → Twelve n r v x x.queueing.next_epoch st.pending_consolidations xs → electra_amounts r st ≡ value xs
amounts-are = are
