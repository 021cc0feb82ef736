-- Booked of those whom the deposits name: all else is as lent, and of the others nothing is due.
use mathlib.Core.Path.{◌≡◌, refl, sym, ap, ◌∙◌}
use mathlib.Core.Bool.{Bool, true, false, cond, ◌||◌, true≢false}
use mathlib.Core.List.{List, [], ◌∷◌}
use Prim.Native.Nat.{ℕ, zero, suc, ◌+◌, ◌-◌, ◌*◌, ◌/◌, ◌%◌, ◌≤◌, ◌<◌}
use native.Mathlib.Omega.{arith}
use native.Mathlib.Numerals.{add-one}
use borrow.Author.Tests.{eq-eqb, ne_eqb, eqb-true, eqb-false, ltb-true, ltb-false}
use lib.Dec.{ltb, eqb}
use lib.ListN.{length, get_or, set, length-set}
use lib.Seq.{get_or-set_same, get_or-set_other}
use Rattle.definitions.specs.Record.{Validator, decode, nobody}
use Rattle.definitions.specs.Checked.{Checked, value, bind, add64}
use Rattle.definitions.specs.Rust.Phase0.Helpers.{increase_balance}
use Rattle.laws.proofs.Checked.{bound, value_same as value-same-as}
use Rattle.laws.proofs.Tests.{either}
use Rattle.definitions_electra.specs.declared.PendingDeposit.{PendingDeposit}
use Rattle.definitions_electra.specs.Loops.{fold_until_checked}
use Rattle.definitions_electra.specs.Record.{decode_deposits}
use Rattle.definitions_electra.specs.Document.Electra.EpochProcessing.{Queueing}
use Rattle.laws_electra.proofs.Deposits.{length-deposits, deposit-at}
use Rattle.electra_deposits.specs.declared.QueueNumbers.{QueueNumbers}
use Rattle.electra_deposits.specs.Alone.{withdrawn_at, exited_at, raised, Running, onward, turn, stops, none, queueing_of, alone}
use Rattle.electra_amounts.specs.Columns.{balance_in}
use Rattle.electra_sixth.specs.Named.{named, place_by, value_by, one_by, Naming, NoneYet}

either-of : (a b : Bool) → (a || b) ≡ true → (b ≡ false → a ≡ true)
either-of true b e f = refl
either-of false b e f = absurd (true≢false (sym e ∙ f))

pub place-below : (op i : ℕ) → place_by op i < 12 * i + 11
place-below op i = go (eqb op 1)
  where
    go : (t : Bool) → 12 * i + cond t 9 10 < 12 * i + 11
    go true = omega arith
    go false = omega arith

-- two places of one column are of one validator
place-one : (op i j : ℕ) → place_by op i ≡ place_by op j → i ≡ j
place-one op i j e = go (eqb op 1) e
  where
    go : (t : Bool) → 12 * i + cond t 9 10 ≡ 12 * j + cond t 9 10 → i ≡ j
    go true e = omega (arith, e)
    go false e = omega (arith, e)

pub naming_none : (op : ℕ) (deposits registry xs : List ℕ) → Naming op deposits registry xs 0 xs
unfolding named
naming_none op deposits registry xs = record { long = refl; held = λ i l e. absurd (true≢false (sym e)); other = λ p n. refl }

module _ {op : ℕ} {deposits registry lent : List ℕ} {k : ℕ} {xs : List ℕ} (g : Naming op deposits registry lent k xs) (long : length lent ≡ 12 * (length registry / 10)) where
  abbrev key : ℕ
  key = get_or deposits (5 * k) 0

  -- what was kept is as lent where it is read
  value_same : value_by op (get_or xs (12 * key + 10) 0) (balance_in registry key) ≡ value_by op (get_or lent (12 * key + 10) 0) (balance_in registry key)
  unfolding value_by
  value_same = go (eqb op 0) (eqb op 1) refl
    where
      go : (a b : Bool) → eqb op 1 ≡ b → cond a (balance_in registry key) (cond b (balance_in registry key - get_or xs (12 * key + 10) 0) 0) ≡ cond a (balance_in registry key) (cond b (balance_in registry key - get_or lent (12 * key + 10) 0) 0)
      go true b e = refl
      go false false e = refl
      go false true e = ap (λ (x : ℕ). balance_in registry key - x) (g.other (12 * key + 10) (λ i l n q. (let c : place_by op i ≡ 12 * i + 9 = rw e in omega (arith, q, c))))

  pub naming_more : {ys : List ℕ} → ys ≡ one_by op key registry xs → Naming op deposits registry lent (k + 1) ys
  unfolding one_by named
  naming_more {ys} is = rw (add-one k) (go (ltb key (length registry / 10)) refl is)
    where
      go : (t : Bool) → ltb key (length registry / 10) ≡ t → ys ≡ cond t (set xs (place_by op key) (value_by op (get_or xs (12 * key + 10) 0) (balance_in registry key))) xs → Naming op deposits registry lent (suc k) ys
      go false e is =
          let late = ltb-false key (length registry / 10) e in
          record {
            long = ap length is ∙ g.long;
            held = λ i l n. ap (λ (t : List ℕ). get_or t (place_by op i) 0) is ∙ g.held i l (named-before i l n late);
            other = λ p n. ap (λ (t : List ℕ). get_or t p 0) is ∙ g.other p (λ i l m q. n i l (or_right (eqb key i) m) q);
          }
        where
          or_right : (a : Bool) {b : Bool} → b ≡ true → (a || b) ≡ true
          or_right true e = refl
          or_right false e = e

          named-before : (i : ℕ) → i < length registry / 10 → (eqb key i || named deposits k i) ≡ true → length registry / 10 ≤ key → named deposits k i ≡ true
          named-before i l n late = rw (ne_eqb key i (λ (q : key ≡ i). omega (arith, q, l, late))) at n
      go true e is =
          let early = ltb-true key (length registry / 10) e in
          record {
            long = ap length is ∙ length-set xs _ _ ∙ g.long;
            held = λ i l n. ap (λ (t : List ℕ). get_or t (place_by op i) 0) is ∙ at i l (eqb key i) refl n early;
            other = λ p n. ap (λ (t : List ℕ). get_or t p 0) is ∙ get_or-set_other xs (place_by op key) p _ 0 (λ q. n key early (rw (eq-eqb key key refl)) q) ∙ g.other p (λ i l m q. n i l (or_right (eqb key i) m) q);
          }
        where
          or_right : (a : Bool) {b : Bool} → b ≡ true → (a || b) ≡ true
          or_right true e = refl
          or_right false e = e

          inside : key < length registry / 10 → place_by op key < length xs
          inside l = below (eqb op 1)
            where
              below : (t : Bool) → 12 * key + cond t 9 10 < length xs
              below true = omega (arith, l, long, g.long)
              below false = omega (arith, l, long, g.long)

          at : (i : ℕ) → i < length registry / 10 → (t : Bool) → eqb key i ≡ t → (t || named deposits k i) ≡ true → key < length registry / 10 → get_or (set xs (place_by op key) (value_by op (get_or xs (12 * key + 10) 0) (balance_in registry key))) (place_by op i) 0 ≡ value_by op (get_or lent (12 * i + 10) 0) (balance_in registry i)
          at i l true q n m = rw (← eqb-true key i q) (get_or-set_same xs (place_by op key) _ 0 (inside m) ∙ value_same)
          at i l false q n m = get_or-set_other xs (place_by op key) (place_by op i) _ 0 (λ s. true≢false (sym (eq-eqb key i (sym (place-one op i key s))) ∙ q)) ∙ g.held i l n

-- Nobody else is raised

named_none : (deposits : List ℕ) (k i : ℕ) → named deposits k i ≡ false → (j : ℕ) → j < k → get_or deposits (5 * j) 0 ≡ i → ⊥
unfolding named
named_none deposits zero i e j l q = omega (arith, l)
named_none deposits (suc k) i e j l q = go (eqb j k) refl (λ f m. named_none deposits k i f j m q)
  where
    right : (a b : Bool) → (a || b) ≡ false → b ≡ false
    right true b e = absurd (true≢false e)
    right false b e = e

    left : (a b : Bool) → (a || b) ≡ false → a ≡ true → ⊥
    left true b e t = true≢false e
    left false b e t = true≢false (sym t)

    go : (t : Bool) → eqb j k ≡ t → (named deposits k i ≡ false → j < k → ⊥) → ⊥
    go true s ih = left (eqb (get_or deposits (5 * k) 0) i) (named deposits k i) e (eq-eqb _ i (ap (λ (m : ℕ). get_or deposits (5 * m) 0) (sym (eqb-true j k s)) ∙ q))
    go false s ih = ih (right (eqb (get_or deposits (5 * k) 0) i) (named deposits k i) e) (omega (arith, l, eqb-false j k s))

raised_else : (vs : List Validator) (d : PendingDeposit) (i : ℕ) → (d.pubkey ≡ i → ⊥) → {ws : List Validator} → raised vs d ≡ value ws → get_or ws i nobody ≡ get_or vs i nobody
unfolding raised
raised_else vs d i n {ws} e = either (λ (us : List Validator). get_or us i nobody ≡ get_or vs i nobody) (ltb d.pubkey (length vs)) one (λ e. ap (λ (us : List Validator). get_or us i nobody) (sym (value-same-as e))) e
  where
    one : bind (increase_balance (get_or vs d.pubkey nobody) d.amount) (λ v. value (set vs d.pubkey v)) ≡ value ws → get_or ws i nobody ≡ get_or vs i nobody
    one e =
        let a = bound (increase_balance (get_or vs d.pubkey nobody) d.amount) _ e in
        ap (λ (us : List Validator). get_or us i nobody) (sym (value-same-as a.then)) ∙ get_or-set_other vs d.pubkey i a.first nobody (λ q. n (sym q))

module _ (most : ℕ) (q : Queueing) (i : ℕ) where
  turn_else : (p : Running) (d : PendingDeposit) → (d.pubkey ≡ i → ⊥) → {r : Running} → turn q p d ≡ value r → get_or r.validators i nobody ≡ get_or p.validators i nobody
  unfolding turn
  turn_else p d n {r} e =
      either Is (withdrawn_at q.next_epoch p.validators d.pubkey) (raises p.processed)
      (either Is (exited_at p.validators d.pubkey) stays (λ e. (let a = bound (add64 p.processed d.amount) _ e in either Is (ltb q.available a.first) stays (raises a.first) a.then))) e
    where
      Is : Running → Type 0
      Is u = get_or u.validators i nobody ≡ get_or p.validators i nobody

      stays : {u : Running} → ◌≡◌ {A = Checked Running} (value u) (value r) → get_or r.validators i nobody ≡ get_or u.validators i nobody
      stays e = ap (λ (x : Running). get_or x.validators i nobody) (sym (value-same-as e))

      raises : (processed : ℕ) → bind (raised p.validators d) (λ ws. value (onward ws processed p)) ≡ value r → get_or r.validators i nobody ≡ get_or p.validators i nobody
      raises processed e =
          let a = bound (raised p.validators d) _ e in
          ap (λ (x : Running). get_or x.validators i nobody) (sym (value-same-as a.then)) ∙ raised_else p.validators d i n a.gave

  loop_else : (ds : List PendingDeposit) → ((j : ℕ) → j < length ds → (get_or ds j none).pubkey ≡ i → ⊥) → (p : Running) {r : Running} → fold_until_checked (stops most q) (turn q) p ds ≡ value r → get_or r.validators i nobody ≡ get_or p.validators i nobody
  unfolding fold_until_checked
  loop_else [] n p e = ap (λ (x : Running). get_or x.validators i nobody) (sym (value-same-as e))
  loop_else (d ∷ ds) n p {r} e = go (stops most q p d) e (λ u k. loop_else ds (λ j l. n (suc j) (omega (arith, l))) u k)
    where
      go : (t : Bool) → cond t (value p) (bind (turn q p d) (λ c. fold_until_checked (stops most q) (turn q) c ds)) ≡ value r → ((u : Running) → fold_until_checked (stops most q) (turn q) u ds ≡ value r → get_or r.validators i nobody ≡ get_or u.validators i nobody) → get_or r.validators i nobody ≡ get_or p.validators i nobody
      go true e ih = ap (λ (x : Running). get_or x.validators i nobody) (sym (value-same-as e))
      go false e ih = let a = bound (turn q p d) _ e in ih a.first a.then ∙ turn_else p d (n 0 (omega arith)) a.gave

pub unnamed : (q : QueueNumbers) (registry deposits : List ℕ) (i : ℕ) → named deposits (length deposits / 5) i ≡ false → {r : Running} → alone q registry deposits ≡ value r → get_or r.validators i nobody ≡ get_or (decode registry) i nobody
unfolding alone
unnamed q registry deposits i e h =
    loop_else q.most (queueing_of q) i (decode_deposits deposits) (λ j l k. (let m : j < length deposits / 5 = omega (arith, l, length-deposits deposits) in named_none deposits (length deposits / 5) i e j m (ap (λ (d : PendingDeposit). d.pubkey) (sym (deposit-at deposits j m)) ∙ k))) _ h

-- What the three loops leave

pub record Tenths (registry after lent amounts : List ℕ) : Type 0 where
  pub long : length amounts ≡ length lent
  pub tenth : (i : ℕ) → i < length registry / 10 → get_or amounts (12 * i + 9) 0 ≡ balance_in after i - balance_in registry i
  pub other : (p : ℕ) → ((i : ℕ) → p ≡ 12 * i + 9 → ⊥) → get_or amounts p 0 ≡ get_or lent p 0

module _ {deposits registry after lent kept booked amounts : List ℕ} (first : Naming 0 deposits registry lent (length deposits / 5) kept) (second : Naming 1 deposits after kept (length deposits / 5) booked) (third : Naming 2 deposits after booked (length deposits / 5) amounts) (same : length after ≡ length registry) (none_yet : NoneYet (length registry / 10) lent) (stays : (i : ℕ) → i < length registry / 10 → named deposits (length deposits / 5) i ≡ false → balance_in after i ≡ balance_in registry i) where
  abbrev n : ℕ
  n = length registry / 10

  in_after : (i : ℕ) → i < length registry / 10 → i < length after / 10
  in_after i l = omega (arith, l, same)

  pub three-tenths : Tenths registry after lent amounts
  unfolding value_by
  three-tenths = record { long = third.long ∙ second.long ∙ first.long; tenth = λ i l. tenth-at i l (named deposits (length deposits / 5) i) refl; other = λ p m. other_at p m }
    where
      third-nine : (i : ℕ) → get_or amounts (12 * i + 9) 0 ≡ get_or booked (12 * i + 9) 0
      third-nine i = third.other (12 * i + 9) (λ j l m q. omega (arith, q))

      tenth-at : (i : ℕ) → i < length registry / 10 → (t : Bool) → named deposits (length deposits / 5) i ≡ t → get_or amounts (12 * i + 9) 0 ≡ balance_in after i - balance_in registry i
      tenth-at i l true e = third-nine i ∙ second.held i (in_after i l) e ∙ ap (λ (x : ℕ). balance_in after i - x) (first.held i l e)
      tenth-at i l false e =
          third-nine i
          ∙ second.other (12 * i + 9) (λ j k m q. (let s : i ≡ j = omega (arith, q) in true≢false (sym m ∙ ap (named deposits (length deposits / 5)) (sym s) ∙ e)))
          ∙ first.other (12 * i + 9) (λ j k m q. omega (arith, q))
          ∙ none_yet.tenth i l
          ∙ omega (arith, stays i l e)

      -- the eleventh number of one that is named, or none of the three
      other_at : (p : ℕ) → ((i : ℕ) → p ≡ 12 * i + 9 → ⊥) → get_or amounts p 0 ≡ get_or lent p 0
      other_at p m = go (eqb (p % 12) 10) refl (ltb (p / 12) (length registry / 10)) refl (named deposits (length deposits / 5) (p / 12)) refl
        where
          all : ((i : ℕ) → i < length registry / 10 → named deposits (length deposits / 5) i ≡ true → p ≡ 12 * i + 10 → ⊥) → get_or amounts p 0 ≡ get_or lent p 0
          all z = third.other p (λ i l k q. z i (omega (arith, l, same)) k q) ∙ second.other p (λ i l k q. m i q) ∙ first.other p (λ i l k q. z i l k q)

          go : (a : Bool) → eqb (p % 12) 10 ≡ a → (b : Bool) → ltb (p / 12) (length registry / 10) ≡ b → (c : Bool) → named deposits (length deposits / 5) (p / 12) ≡ c → get_or amounts p 0 ≡ get_or lent p 0
          go false e b f c h = all (λ i l k q. true≢false (sym (eq-eqb (p % 12) 10 (omega (arith, q))) ∙ e))
          go true e false f c h = all (λ i l k q. omega (arith, ltb-false (p / 12) (length registry / 10) f, q, l))
          go true e true f false h = all (λ i l k q. (let s : p / 12 ≡ i = omega (arith, q) in true≢false (sym k ∙ ap (named deposits (length deposits / 5)) (sym s) ∙ h)))
          go true e true f true h =
              let l = ltb-true (p / 12) (length registry / 10) f in
              let is : p ≡ 12 * (p / 12) + 10 = omega (arith, eqb-true (p % 12) 10 e) in
              ap (λ (x : ℕ). get_or amounts x 0) is ∙ third.held (p / 12) (in_after (p / 12) l) h ∙ sym (none_yet.eleventh (p / 12) l) ∙ ap (λ (x : ℕ). get_or lent x 0) (sym is)
