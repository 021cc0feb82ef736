-- Pending consolidations name validators of the opening alone: so those behind them, whom the deposits have added, stay as they are.
use mathlib.Core.Path.{◌≡◌, refl, sym, ap, ◌∙◌}
use mathlib.Core.Bool.{Bool, true, false, cond}
use mathlib.Core.List.{List, [], ◌∷◌, ◌++◌}
use Prim.Native.Nat.{ℕ, ◌+◌, ◌%◌, ◌^◌, ◌<◌}
use native.Mathlib.Omega.{arith}
use borrow.Author.Tests.{ltb-true}
use lib.Dec.{ltb}
use lib.ListN.{length, get_or, set, length-set, get_or-append}
use lib.Seq.{set-append_left}
use Rattle.definitions.specs.Lists.{all}
use Rattle.definitions.specs.Record.{Validator, is_slashed, nobody}
use Rattle.definitions.specs.Checked.{Checked, value, refused, bind}
use Rattle.definitions.specs.Rust.Phase0.Helpers.{increase_balance, decrease_balance}
use Rattle.laws.proofs.Tests.{both}
use Rattle.laws.proofs.Checked.{value_same, not_value}
use Rattle.definitions_electra.specs.Loops.{fold_until_checked}
use Rattle.definitions_electra.specs.Record.{PendingConsolidation}
use Rattle.definitions_electra.specs.Document.Electra.EpochProcessing.{consolidated_balance, Consolidating, consolidations_stop, next_consolidation}
use Rattle.definitions_electra.specs.Evaluated.Electra.EpochProcessing.{consolidate, process_consolidation}
use Rattle.laws_electra.specs.Consolidations.{within}
use Rattle.definitions_electra_close.specs.Amounts.{Moved, add_at, move_consolidation}

-- with others behind
abbrev pub beside : List Validator → Consolidating → Consolidating
beside ws p = record { validators = p.validators ++ ws; next_pending_consolidation = p.next_pending_consolidation }

-- A loop that may be left, in two places: P holds on the way
pub fold_beside : {A B C : Type 0} (stops : B → A → Bool) (f : B → A → Checked B) (stops' : C → A → Bool) (f' : C → A → Checked C) (put : B → C) (P : B → Type 0) (ok : A → Bool)
    → ((b : B) (a : A) → P b → ok a ≡ true → stops' (put b) a ≡ stops b a)
    → ((b : B) (a : A) → P b → ok a ≡ true → f' (put b) a ≡ bind (f b a) (λ c. value (put c)))
    → ((b : B) (a : A) → P b → ok a ≡ true → (c : B) → f b a ≡ value c → P c)
    → (b : B) (xs : List A) → P b → all ok xs ≡ true → fold_until_checked stops' f' (put b) xs ≡ bind (fold_until_checked stops f b xs) (λ c. value (put c))
unfolding fold_until_checked all bind
fold_beside stops f stops' f' put P ok s t k b [] p o = refl
fold_beside {A} {B} {C} stops f stops' f' put P ok s t k b (a ∷ xs) p o =
    let oks = both (ok a) (all ok xs) o in
    rw (s b a p oks.0, t b a p oks.0)
    (left (stops b a) (f b a) refl (λ c q. fold_beside stops f stops' f' put P ok s t k c xs (k b a p oks.0 c q) oks.1))
  where
    left : (l : Bool) (m : Checked B) → f b a ≡ m → ((c : B) → f b a ≡ value c → fold_until_checked stops' f' (put c) xs ≡ bind (fold_until_checked stops f c xs) (λ d. value (put d))) → cond l (value (put b)) (bind (bind m (λ c. value (put c))) (λ c. fold_until_checked stops' f' c xs)) ≡ bind (cond l (value b) (bind m (λ c. fold_until_checked stops f c xs))) (λ c. value (put c))
    left true m q rest = refl
    left false (refused r) q rest = refl
    left false (value c) q rest = rest c q

-- what each turn keeps the loop keeps
pub fold_keeps : {A B : Type 0} (stops : B → A → Bool) (f : B → A → Checked B) (P : B → Type 0) (ok : A → Bool)
    → ((b : B) (a : A) → P b → ok a ≡ true → (c : B) → f b a ≡ value c → P c)
    → (b : B) (xs : List A) → P b → all ok xs ≡ true → (c : B) → fold_until_checked stops f b xs ≡ value c → P c
unfolding fold_until_checked all bind
fold_keeps stops f P ok k b [] p o c e = rw (sym (value_same e)) p
fold_keeps {A} {B} stops f P ok k b (a ∷ xs) p o c e =
    let oks = both (ok a) (all ok xs) o in
    left (stops b a) (f b a) refl (λ d q g. fold_keeps stops f P ok k d xs (k b a p oks.0 d q) oks.1 c g) e
  where
    left : (l : Bool) (m : Checked B) → f b a ≡ m → ((d : B) → f b a ≡ value d → fold_until_checked stops f d xs ≡ value c → P c) → cond l (value b) (bind m (λ d. fold_until_checked stops f d xs)) ≡ value c → P c
    left true m q rest e = rw (sym (value_same e)) p
    left false (refused r) q rest e = absurd (not_value e)
    left false (value d) q rest e = rest d q e

module _ (n : ℕ) (ws : List Validator) where
  pub record Many (p : Consolidating) : Type 0 where
    pub many : length p.validators ≡ n

  module _ (p : Consolidating) (c : PendingConsolidation) (m : Many p) (o : within n c ≡ true) where
    source_in : c.source_index < length p.validators
    source_in =
        let b = both (ltb c.source_index n) (ltb c.target_index n) o in
        let l = ltb-true c.source_index n b.0 in
        omega (arith, l, m.many)

    target_in : c.target_index < length p.validators
    target_in =
        let b = both (ltb c.source_index n) (ltb c.target_index n) o in
        let l = ltb-true c.target_index n b.1 in
        omega (arith, l, m.many)

    pub source-same : get_or (p.validators ++ ws) c.source_index nobody ≡ get_or p.validators c.source_index nobody
    source-same = get_or-append p.validators ws nobody c.source_index source_in

    pub stop-beside : (next : ℕ) → consolidations_stop next (beside ws p) c ≡ consolidations_stop next p c
    unfolding consolidations_stop
    stop-beside next = rw source-same

    abbrev source : Validator
    source = get_or p.validators c.source_index nobody

    abbrev taken : List Validator
    taken = set p.validators c.source_index (decrease_balance (get_or p.validators c.source_index nobody) (consolidated_balance (get_or p.validators c.source_index nobody)))

    taken_in : c.target_index < length taken
    taken_in = let l = target_in in omega (arith, l, length-set p.validators c.source_index (decrease_balance source (consolidated_balance source)))

    consolidate-beside : consolidate (p.validators ++ ws) c ≡ bind (consolidate p.validators c) (λ us. value (us ++ ws))
    unfolding consolidate bind
    consolidate-beside =
        rw (source-same, set-append_left p.validators ws c.source_index (decrease_balance source (consolidated_balance source)) source_in, get_or-append taken ws nobody c.target_index taken_in)
        (go (increase_balance (get_or taken c.target_index nobody) (consolidated_balance source)))
      where
        go : (x : Checked Validator) → bind x (λ target. value (set (taken ++ ws) c.target_index target)) ≡ bind (bind x (λ target. value (set taken c.target_index target))) (λ us. value (us ++ ws))
        go (refused q) = refl
        go (value v) = ap value (set-append_left taken ws c.target_index v taken_in)

    pub turn-beside : process_consolidation (beside ws p) c ≡ bind (process_consolidation p c) (λ q. value (beside ws q))
    unfolding process_consolidation bind
    turn-beside = rw (source-same, consolidate-beside) (go (is_slashed source) (consolidate p.validators c))
      where
        go : (t : Bool) (x : Checked (List Validator)) → cond t (value (next_consolidation (beside ws p) (p.validators ++ ws))) (bind (bind x (λ us. value (us ++ ws))) (λ vs. value (next_consolidation (beside ws p) vs))) ≡ bind (cond t (value (next_consolidation p p.validators)) (bind x (λ vs. value (next_consolidation p vs)))) (λ q. value (beside ws q))
        go true x = refl
        go false (value us) = refl
        go false (refused q) = refl

    -- as many as before
    pub turn_many : (q : Consolidating) → process_consolidation p c ≡ value q → Many q
    unfolding process_consolidation consolidate bind
    turn_many q = go (is_slashed source) (increase_balance (get_or taken c.target_index nobody) (consolidated_balance source))
      where
        go : (t : Bool) (x : Checked Validator) → cond t (value (next_consolidation p p.validators)) (bind (bind x (λ target. value (set taken c.target_index target))) (λ vs. value (next_consolidation p vs))) ≡ value q → Many q
        go true x e = record { many = ap (λ (y : Consolidating). length y.validators) (sym (value_same e)) ∙ m.many }
        go false (refused r) e = absurd (not_value e)
        go false (value v) e = record { many = ap (λ (y : Consolidating). length y.validators) (sym (value_same e)) ∙ length-set taken c.target_index v ∙ length-set p.validators c.source_index (decrease_balance source (consolidated_balance source)) ∙ m.many }

  -- the step's loop
  pub consolidations-beside : (next : ℕ) (p : Consolidating) (cs : List PendingConsolidation) → Many p → all (within n) cs ≡ true → fold_until_checked (consolidations_stop next) process_consolidation (beside ws p) cs ≡ bind (fold_until_checked (consolidations_stop next) process_consolidation p cs) (λ q. value (beside ws q))
  consolidations-beside next p cs = fold_beside (consolidations_stop next) process_consolidation (consolidations_stop next) process_consolidation (beside ws) Many (within n) (λ b a m o. stop-beside b a m o next) turn-beside turn_many p cs

  pub consolidations-many : (next : ℕ) (p : Consolidating) (cs : List PendingConsolidation) → Many p → all (within n) cs ≡ true → (q : Consolidating) → fold_until_checked (consolidations_stop next) process_consolidation p cs ≡ value q → Many q
  consolidations-many next p cs = fold_keeps (consolidations_stop next) process_consolidation Many (within n) turn_many p cs

  -- and the one that books: nothing moves to or from those behind
  module _ (zs : List ℕ) where
    abbrev pub moved_beside : Moved → Moved
    moved_beside m = record { consolidating = beside ws m.consolidating; out = m.out ++ zs; into = m.into ++ zs }

    pub record ManyMoved (m : Moved) : Type 0 where
      pub validators : Many m.consolidating
      pub out : length m.out ≡ n
      pub into : length m.into ≡ n

    module _ (m : Moved) (c : PendingConsolidation) (h : ManyMoved m) (o : within n c ≡ true) where
      abbrev amount : ℕ
      amount = cond (is_slashed (get_or m.consolidating.validators c.source_index nobody)) 0 (consolidated_balance (get_or m.consolidating.validators c.source_index nobody))

      add_beside : (xs : List ℕ) (i x : ℕ) → i < length xs → add_at (xs ++ zs) i x ≡ add_at xs i x ++ zs
      add_beside xs i x l = rw (get_or-append xs zs 0 i l) (set-append_left xs zs i ((get_or xs i 0 + x) % (2 ^ 64)) l)

      below : (xs : List ℕ) → length xs ≡ n → (c.source_index < length xs) × (c.target_index < length xs)
      below xs e =
          let b = both (ltb c.source_index n) (ltb c.target_index n) o in
          let l = ltb-true c.source_index n b.0 in
          let k = ltb-true c.target_index n b.1 in
          (omega (arith, l, e), omega (arith, k, e))

      pub move_beside : move_consolidation (moved_beside m) c ≡ bind (move_consolidation m c) (λ q. value (moved_beside q))
      unfolding move_consolidation bind
      move_beside =
          rw (source-same m.consolidating c h.validators o, turn-beside m.consolidating c h.validators o, add_beside m.out c.source_index amount (below m.out h.out).0, add_beside m.into c.target_index amount (below m.into h.into).1)
          (go (process_consolidation m.consolidating c))
        where
          go : (x : Checked Consolidating) → bind (bind x (λ q. value (beside ws q))) (λ next. value (record { consolidating = next; out = add_at m.out c.source_index amount ++ zs; into = add_at m.into c.target_index amount ++ zs })) ≡ bind (bind x (λ next. value (record { consolidating = next; out = add_at m.out c.source_index amount; into = add_at m.into c.target_index amount }))) (λ q. value (moved_beside q))
          go (value q) = refl
          go (refused r) = refl

      pub move_many : (q : Moved) → move_consolidation m c ≡ value q → ManyMoved q
      unfolding move_consolidation bind
      move_many q = go (process_consolidation m.consolidating c) refl
        where
          go : (x : Checked Consolidating) → process_consolidation m.consolidating c ≡ x → bind x (λ next. value (record { consolidating = next; out = add_at m.out c.source_index amount; into = add_at m.into c.target_index amount })) ≡ value q → ManyMoved q
          go (refused r) y e = absurd (not_value e)
          go (value p) y e = rw (sym (value_same e)) (record { validators = turn_many m.consolidating c h.validators o p y; out = length-set m.out c.source_index ((get_or m.out c.source_index 0 + amount) % (2 ^ 64)) ∙ h.out; into = length-set m.into c.target_index ((get_or m.into c.target_index 0 + amount) % (2 ^ 64)) ∙ h.into })

    pub moves-beside : (next : ℕ) (m : Moved) (cs : List PendingConsolidation) → ManyMoved m → all (within n) cs ≡ true → fold_until_checked (λ m. consolidations_stop next m.consolidating) move_consolidation (moved_beside m) cs ≡ bind (fold_until_checked (λ m. consolidations_stop next m.consolidating) move_consolidation m cs) (λ q. value (moved_beside q))
    moves-beside next m cs = fold_beside (λ m. consolidations_stop next m.consolidating) move_consolidation (λ m. consolidations_stop next m.consolidating) move_consolidation moved_beside ManyMoved (within n) (λ b a h o. stop-beside b.consolidating a h.validators o next) move_beside move_many m cs
