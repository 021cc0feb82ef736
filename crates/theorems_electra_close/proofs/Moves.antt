-- The consolidations: what is booked, the plain sums, and the balances.
use mathlib.Core.Path.{◌≡◌, refl, sym, ap, ◌∙◌}
use mathlib.Core.Bool.{Bool, true, false, cond}
use mathlib.Core.List.{List, [], ◌∷◌}
use Prim.Native.Nat.{ℕ, ◌+◌, ◌*◌, ◌%◌, ◌^◌, ◌≤◌, ◌<◌}
use native.Mathlib.Nat.{mul-suc}
use native.Mathlib.Omega.{arith}
use borrow.Author.Tests.{eqb-true}
use lib.Dec.{eqb}
use lib.ListN.{length, get_or, set, length-set}
use Rattle.definitions.specs.Record.{Validator, is_slashed, nobody}
use Rattle.definitions.specs.Updates.{with_balance}
use Rattle.definitions.specs.Checked.{value, bind, add64}
use Rattle.definitions.specs.Rust.Phase0.Helpers.{increase_balance, decrease_balance}
use Rattle.laws.proofs.Checked.{value_same, bound, add64-value}
use Rattle.laws.proofs.Tests.{lowered}
use Rattle.arithmetic.proofs.Laws.{bind-value}
use Rattle.laws_close.specs.Nine.{balance_at}
use Rattle.definitions_electra.specs.Loops.{fold_until_checked}
use Rattle.definitions_electra.specs.Record.{PendingConsolidation}
use Rattle.definitions_electra.specs.Document.Electra.EpochProcessing.{Consolidating, consolidated_balance, consolidations_stop, next_consolidation}
use Rattle.definitions_electra.specs.Evaluated.Electra.EpochProcessing.{consolidate, process_consolidation}
use Rattle.definitions_electra_close.specs.Amounts.{Moved, add_at, move_consolidation}
use Rattle.theorems_electra_close.specs.Accounted.{plain_at, move_plainly}
use Rattle.laws_electra_close.proofs.Lists.{set_keeps}
use Rattle.theorems_electra_close.proofs.Lists.{set_at, share, plain_at_lem, cut_at}

abbrev moved_by : List Validator → PendingConsolidation → ℕ
moved_by vs c = cond (is_slashed (get_or vs c.source_index nobody)) 0 (consolidated_balance (get_or vs c.source_index nobody))

-- no effective balance is above `most`
abbrev pub Below : ℕ → List Validator → Type 0
Below most vs = (j : ℕ) → (get_or vs j nobody).effective_balance ≤ most

-- A turn: what the source loses and the target gets
record Turned (vs : List Validator) (c : PendingConsolidation) (ws : List Validator) : Type 0 where
  long : length ws ≡ length vs
  equal : (i : ℕ) → i < length vs → balance_at vs i + share c.target_index (moved_by vs c) i ≡ balance_at ws i + share c.source_index (moved_by vs c) i
  effective : (j : ℕ) → (get_or ws j nobody).effective_balance ≡ (get_or vs j nobody).effective_balance

pub effective-set : (vs : List Validator) (j : ℕ) (w : Validator) → w.effective_balance ≡ (get_or vs j nobody).effective_balance → (i : ℕ) → (get_or (set vs j w) i nobody).effective_balance ≡ (get_or vs i nobody).effective_balance
effective-set vs j w h i = set_keeps (λ (u v : Validator). v.effective_balance ≡ u.effective_balance) (λ u. refl) nobody vs j w h i

-- the balance of a place that is written
balance-set : (vs : List Validator) (j : ℕ) (w : Validator) (i : ℕ) → i < length vs → balance_at (set vs j w) i ≡ cond (eqb i j) w.balance (balance_at vs i)
balance-set vs j w i l = ap (λ (u : Validator). u.balance) (set_at nobody vs j w i l) ∙ go (eqb i j)
  where
    go : (t : Bool) → (cond t w (get_or vs i nobody)).balance ≡ cond t w.balance (balance_at vs i)
    go true = refl
    go false = refl

more : (vs : List Validator) (j x : ℕ) (w : Validator) → w.balance ≡ balance_at vs j + x → (i : ℕ) → i < length vs → balance_at (set vs j w) i ≡ balance_at vs i + share j x i
more vs j x w h i l = balance-set vs j w i l ∙ go (eqb i j) refl
  where
    go : (t : Bool) → eqb i j ≡ t → cond t w.balance (balance_at vs i) ≡ balance_at vs i + cond t x 0
    go true e = let q = eqb-true i j e in rw q h
    go false e = omega arith

less : (vs : List Validator) (j x : ℕ) (w : Validator) → w.balance + x ≡ balance_at vs j → (i : ℕ) → i < length vs → balance_at (set vs j w) i + share j x i ≡ balance_at vs i
less vs j x w h i l = rw (balance-set vs j w i l) (go (eqb i j) refl)
  where
    go : (t : Bool) → eqb i j ≡ t → cond t w.balance (balance_at vs i) + cond t x 0 ≡ balance_at vs i
    go true e = let q = eqb-true i j e in rw q h
    go false e = omega arith

module _ (vs : List Validator) (c : PendingConsolidation) where
  abbrev source : Validator
  source = get_or vs c.source_index nobody

  abbrev moved : ℕ
  moved = consolidated_balance source

  abbrev taken : List Validator
  taken = set vs c.source_index (decrease_balance source moved)

  taken-long : length taken ≡ length vs
  taken-long = length-set vs c.source_index (decrease_balance source moved)

  taken_at : (i : ℕ) → i < length vs → balance_at taken i + share c.source_index moved i ≡ balance_at vs i
  unfolding decrease_balance
  taken_at i l =
      let e = lowered source.balance moved in
      less vs c.source_index moved (decrease_balance source moved) (omega (arith, e)) i l

  taken-effective : (i : ℕ) → (get_or taken i nobody).effective_balance ≡ (get_or vs i nobody).effective_balance
  unfolding decrease_balance
  taken-effective i = effective-set vs c.source_index (decrease_balance source moved) refl i

  consolidated : {ws : List Validator} → is_slashed source ≡ false → consolidate vs c ≡ value ws → Turned vs c ws
  unfolding consolidate increase_balance
  consolidated {ws} q e =
      let a = bound (bind (add64 (balance_at taken c.target_index) moved) (λ balance. value (with_balance balance (get_or taken c.target_index nobody)))) _ e in
      let b = bound (add64 (balance_at taken c.target_index) moved) (λ balance. value (with_balance balance (get_or taken c.target_index nobody))) a.gave in
      let w = a.first in
      let sum : w.balance ≡ balance_at taken c.target_index + moved = ap (λ (u : Validator). u.balance) (sym (value_same b.then)) ∙ sym (add64-value _ _ b.gave) in
      let same : w.effective_balance ≡ (get_or taken c.target_index nobody).effective_balance = ap (λ (u : Validator). u.effective_balance) (sym (value_same b.then)) in
      let is : set taken c.target_index w ≡ ws = value_same a.then in
      let at : (i : ℕ) → i < length vs → balance_at (set taken c.target_index w) i ≡ balance_at taken i + share c.target_index moved i = λ i l. more taken c.target_index moved w sum i (omega (arith, l, taken-long)) in
      rw (← is)
      (record {
        long = length-set taken c.target_index w ∙ taken-long;
        equal = λ i l. rw q (omega (arith, at i l, taken_at i l));
        effective = λ j. effective-set taken c.target_index w same j ∙ taken-effective j;
      })

share-none : (j i : ℕ) → ◌≡◌ {A = ℕ} (share j 0 i) 0
share-none j i = go (eqb i j)
  where
    go : (t : Bool) → ◌≡◌ {A = ℕ} (cond t 0 0) 0
    go true = refl
    go false = refl

turned : (p : Consolidating) (c : PendingConsolidation) {q : Consolidating} → process_consolidation p c ≡ value q → Turned p.validators c q.validators
unfolding process_consolidation
turned p c {q} e = go (is_slashed (get_or p.validators c.source_index nobody)) refl e
  where
    go : (t : Bool) → is_slashed (get_or p.validators c.source_index nobody) ≡ t → cond t (value (next_consolidation p p.validators)) (bind (consolidate p.validators c) (λ vs. value (next_consolidation p vs))) ≡ value q → Turned p.validators c q.validators
    go true s e =
        let is : p.validators ≡ q.validators = ap (λ (u : Consolidating). u.validators) (value_same e) in
        rw (← is)
        (record {
          long = refl;
          equal = λ i l. rw (s, share-none c.target_index i, share-none c.source_index i) refl;
          effective = λ j. refl;
        })
    go false s e =
        let a = bound (consolidate p.validators c) (λ vs. value (next_consolidation p vs)) e in
        let is : a.first ≡ q.validators = ap (λ (u : Consolidating). u.validators) (value_same a.then) in
        rw (← is) (consolidated p.validators c s a.gave)

moved-most : (most : ℕ) (vs : List Validator) (c : PendingConsolidation) → Below most vs → moved_by vs c ≤ most
moved-most most vs c h = go (is_slashed (get_or vs c.source_index nobody))
  where
    go : (t : Bool) → cond t 0 (consolidated_balance (get_or vs c.source_index nobody)) ≤ most
    go true = omega arith
    go false = let k = h c.source_index in omega (arith, k)

share-most : (j x i : ℕ) → share j x i ≤ x
share-most j x i = go (eqb i j)
  where
    go : (t : Bool) → cond t x 0 ≤ x
    go true = omega arith
    go false = omega arith

-- The loop

abbrev stops : ℕ → Moved → PendingConsolidation → Bool
stops next m = consolidations_stop next m.consolidating

abbrev moved-of : Consolidating → List ℕ → List ℕ → Moved
moved-of p out into = record { consolidating = p; out = out; into = into }

-- from balances vs, sums out and into and the same cut to 64 bits, over cs
pub record Looped (next : ℕ) (p : Consolidating) (out into cut_out cut_into : List ℕ) (cs : List PendingConsolidation) (done : Consolidating) : Type 0 where
  pub plain : Moved
  pub booked : Moved
  pub plain-is : fold_until_checked (stops next) move_plainly (moved-of p out into) cs ≡ value plain
  pub booked-is : fold_until_checked (stops next) move_consolidation (moved-of p cut_out cut_into) cs ≡ value booked
  pub long : length done.validators ≡ length p.validators
  pub out-cut : (i : ℕ) → i < length p.validators → get_or booked.out i 0 ≡ get_or plain.out i 0 % (2 ^ 64)
  pub into-cut : (i : ℕ) → i < length p.validators → get_or booked.into i 0 ≡ get_or plain.into i 0 % (2 ^ 64)
  pub equal : (i : ℕ) → i < length p.validators →
      balance_at p.validators i + get_or plain.into i 0 + get_or out i 0 ≡ balance_at done.validators i + get_or plain.out i 0 + get_or into i 0
  pub most : (most : ℕ) → Below most p.validators → (i : ℕ) → i < length p.validators →
      (get_or plain.out i 0 ≤ get_or out i 0 + most * length cs) × (get_or plain.into i 0 ≤ get_or into i 0 + most * length cs)

-- as many as there are validators, and each the other's remainder
pub record Sums (n : ℕ) (xs cut : List ℕ) : Type 0 where
  pub long : length xs ≡ n
  pub same : length cut ≡ n
  pub remainder : (i : ℕ) → i < length cut → get_or cut i 0 ≡ get_or xs i 0 % (2 ^ 64)

sums-more : {n : ℕ} {xs cut : List ℕ} (j x : ℕ) → Sums n xs cut → Sums n (plain_at xs j x) (add_at cut j x)
sums-more {n} {xs} {cut} j x h =
    let a = length-set cut j ((get_or cut j 0 + x) % (2 ^ 64)) in
    record {
      long = length-set xs j (get_or xs j 0 + x) ∙ h.long;
      same = a ∙ h.same;
      remainder = λ i l. cut_at cut xs j x i (omega (arith, l, a)) (omega (arith, l, a, h.long, h.same)) h.remainder;
    }

-- the loop is left, or the queue has ended
ended : (next : ℕ) (cs : List PendingConsolidation) {p done : Consolidating} {out into cut_out cut_into : List ℕ} → Sums (length p.validators) out cut_out → Sums (length p.validators) into cut_into → fold_until_checked (stops next) move_plainly (moved-of p out into) cs ≡ value (moved-of p out into) → fold_until_checked (stops next) move_consolidation (moved-of p cut_out cut_into) cs ≡ value (moved-of p cut_out cut_into) → p ≡ done → Looped next p out into cut_out cut_into cs done
ended next cs {p} {done} {out} {into} {cut_out} {cut_into} a b plain booked is =
    record {
      plain = moved-of p out into;
      booked = moved-of p cut_out cut_into;
      plain-is = plain;
      booked-is = booked;
      long = ap (λ (q : Consolidating). length q.validators) (sym is);
      out-cut = λ i l. a.remainder i (omega (arith, l, a.same));
      into-cut = λ i l. b.remainder i (omega (arith, l, b.same));
      equal = λ i l. rw (← is) (omega arith);
      most = λ most h i l. (omega arith, omega arith);
    }

module _ (next : ℕ) (c : PendingConsolidation) (cs : List PendingConsolidation) (p : Consolidating) {done : Consolidating} {out into cut_out cut_into : List ℕ} (a : Sums (length p.validators) out cut_out) (b : Sums (length p.validators) into cut_into) where
  -- a turn, and the rest from it
  on : consolidations_stop next p c ≡ false → {q : Consolidating} → process_consolidation p c ≡ value q → Looped next q (plain_at out c.source_index (moved_by p.validators c)) (plain_at into c.target_index (moved_by p.validators c)) (add_at cut_out c.source_index (moved_by p.validators c)) (add_at cut_into c.target_index (moved_by p.validators c)) cs done → Looped next p out into cut_out cut_into (c ∷ cs) done
  unfolding fold_until_checked move_plainly move_consolidation
  on s {q} g rest =
      let t = turned p c g in
      let inside : (i : ℕ) → i < length p.validators → i < length q.validators = λ i l. omega (arith, l, t.long) in
      let gone : (i : ℕ) → i < length p.validators → get_or (plain_at out c.source_index (moved_by p.validators c)) i 0 ≡ get_or out i 0 + share c.source_index (moved_by p.validators c) i = λ i l. plain_at_lem out c.source_index (moved_by p.validators c) i (omega (arith, l, a.long)) in
      let come : (i : ℕ) → i < length p.validators → get_or (plain_at into c.target_index (moved_by p.validators c)) i 0 ≡ get_or into i 0 + share c.target_index (moved_by p.validators c) i = λ i l. plain_at_lem into c.target_index (moved_by p.validators c) i (omega (arith, l, b.long)) in
      record {
        plain = rest.plain;
        booked = rest.booked;
        plain-is = rw s (bind-value _ (bind-value _ g) ∙ rest.plain-is);
        booked-is = rw s (bind-value _ (bind-value _ g) ∙ rest.booked-is);
        long = rest.long ∙ t.long;
        out-cut = λ i l. rest.out-cut i (inside i l);
        into-cut = λ i l. rest.into-cut i (inside i l);
        equal = λ i l. omega (arith, rest.equal i (inside i l), gone i l, come i l, t.equal i l);
        most = λ most h i l.
            (let k = rest.most most (λ j. rw (t.effective j) (h j)) i (inside i l) in
            let u = moved-most most p.validators c h in
            let o = share-most c.source_index (moved_by p.validators c) i in
            let n = share-most c.target_index (moved_by p.validators c) i in
            let m = mul-suc most (length cs) in
            (omega (arith, k.0, gone i l, u, o, m), omega (arith, k.1, come i l, u, n, m)));
      }

  step : (t : Bool) → consolidations_stop next p c ≡ t → cond t (value p) (bind (process_consolidation p c) (λ q. fold_until_checked (consolidations_stop next) process_consolidation q cs)) ≡ value done → ((q : Consolidating) → process_consolidation p c ≡ value q → fold_until_checked (consolidations_stop next) process_consolidation q cs ≡ value done → Looped next q (plain_at out c.source_index (moved_by p.validators c)) (plain_at into c.target_index (moved_by p.validators c)) (add_at cut_out c.source_index (moved_by p.validators c)) (add_at cut_into c.target_index (moved_by p.validators c)) cs done) → Looped next p out into cut_out cut_into (c ∷ cs) done
  unfolding fold_until_checked
  step true s e rest = ended next (c ∷ cs) a b (rw s refl) (rw s refl) (value_same e)
  step false s e rest =
      let g = bound (process_consolidation p c) (λ q. fold_until_checked (consolidations_stop next) process_consolidation q cs) e in
      on s g.gave (rest g.first g.gave g.then)

pub looped : (next : ℕ) (cs : List PendingConsolidation) (p : Consolidating) {done : Consolidating} {out into cut_out cut_into : List ℕ} → Sums (length p.validators) out cut_out → Sums (length p.validators) into cut_into → fold_until_checked (consolidations_stop next) process_consolidation p cs ≡ value done → Looped next p out into cut_out cut_into cs done
unfolding fold_until_checked
looped next [] p a b e = ended next [] a b refl refl (value_same e)
looped next (c ∷ cs) p a b e =
    step next c cs p a b (consolidations_stop next p c) refl e
    (λ q g t. (let n = (turned p c g).long in looped next cs q (rw n (sums-more c.source_index (moved_by p.validators c) a)) (rw n (sums-more c.target_index (moved_by p.validators c) b)) t))
