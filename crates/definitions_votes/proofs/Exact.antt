-- The theorem: what is worked out from two registries is what is asked for of all fillings.
use mathlib.Core.Path.{◌≡◌, refl, sym, ap, ◌∙◌}
use mathlib.Core.Logic.{◌⊎◌, inl, inr}
use mathlib.Core.Bool.{Bool, true, false}
use mathlib.Core.List.{List, map}
use Prim.Native.Nat.{ℕ, ◌-◌, ◌<◌}
use native.Mathlib.Omega.{arith}
use borrow.Author.Tests.{le-leb, lt-leb, ne_eqb}
use Rattle.definitions.specs.declared.Finality.{Finality}
use Rattle.definitions.specs.Lists.{sum}
use Rattle.definitions.specs.Checked.{Checked, value, refused, bind}
use Rattle.definitions.specs.declared.Refusal.TheVariants.{Overflow}
use Rattle.definitions.specs.Document.Phase0.EpochProcessing.{weighed}
use Rattle.definitions.specs.Rust.Phase0.Helpers.{is_active_validator, get_previous_epoch, get_block_root}
use Rattle.definitions.specs.Rust.Altair.Helpers.{is_unslashed_participating}
use Rattle.laws.proofs.Checked.{not_value, value_same}
use Rattle.definitions_votes.specs.Filling.{Filling, uniform, none_set, all_set}
use Rattle.definitions_votes.specs.Exact.{Ballot, current_of, previous_of, step_of, test_of, is_found, root_found, roots_found, Outcome, Reaches, Lists, Told, Exact}
use Rattle.definitions_votes.specs.Votes.{finalized_after, outcome_of, weighed_votes, votes}
use Rattle.definitions_votes.proofs.Listing.{sorted-rising, sorted-among}
use Rattle.definitions_votes.proofs.Filled.{balance_in, weight, current-below, previous-below, active-kept}
use Rattle.definitions_votes.proofs.Tests.{Ends, gave, over, test_by, test-ends, Rises, test_rises, two_thirds-by, after_tests, step-by-tests}
use Rattle.definitions_votes.proofs.Core.{never, same_test, between, one_of, holds, among-four, four-among}
use Rattle.laws.proofs.Tests.{both}

-- the previous epoch is another one
pub previous-other : (b : Ballot) → 1 < current_of b → previous_of b ≡ current_of b → ⊥
unfolding get_previous_epoch
previous-other b l e =
    let n = ne_eqb (current_of b) 0 (λ z. omega arith) in
    let d : current_of b - 1 ≡ current_of b = rw n at e in
    omega arith

module _ (b : Ballot) where
  abbrev pub active_sum : ℕ
  active_sum = sum (map (weight (λ v. is_active_validator v (current_of b))) b.validators)

  -- a test by its sums
  pub test-sums : (epoch : ℕ) (f : Filling) → test_of b epoch f ≡ test_by b.settings.effective_balance_increment active_sum (balance_in (is_unslashed_participating (current_of b) 1 epoch) b.marks f b.validators)
  test-sums epoch f =
      two_thirds-by b.settings b.finality.slot _ epoch
      ∙ ap (λ (t : ℕ). test_by b.settings.effective_balance_increment t (balance_in (is_unslashed_participating (current_of b) 1 epoch) b.marks f b.validators)) (active-kept (current_of b) b.marks f b.validators)

  ends : (epoch : ℕ) (f : Filling) → Ends (test_of b epoch f)
  ends epoch f = rw (test-sums epoch f) (test-ends b.settings.effective_balance_increment active_sum _)

  current_rises : (f g : Filling) → ((i : ℕ) → (f i).current ≡ true → (g i).current ≡ true) → Rises (test_of b (current_of b) f) (test_of b (current_of b) g)
  current_rises f g h = rw (test-sums (current_of b) f, test-sums (current_of b) g) (test_rises _ active_sum _ _ (current-below (current_of b) b.marks b.validators f g h))

  previous_rises : 1 < current_of b → (f g : Filling) → ((i : ℕ) → (f i).previous ≡ true → (g i).previous ≡ true) → Rises (test_of b (previous_of b) f) (test_of b (previous_of b) g)
  previous_rises l f g h = rw (test-sums (previous_of b) f, test-sums (previous_of b) g) (test_rises _ active_sum _ _ (previous-below (current_of b) (previous_of b) (previous-other b l) b.marks b.validators f g h))

-- roots
found : (m : Checked (List ℕ)) → is_found m ≡ true → (root : List ℕ) × (m ≡ value root)
found (value root) h = (root, refl)
found (refused r) h = never h

abbrev lookup : Ballot → ℕ → Checked (List ℕ)
lookup b epoch = get_block_root b.settings b.roots b.finality.slot epoch

module _ (b : Ballot) (l : 1 < current_of b) (r : roots_found b ≡ true) where
  after : Bool → Bool → Finality
  after x y = let p = both (root_found b (previous_of b)) (root_found b (current_of b)) r in after_tests b.settings b.roots b.finality b.validators (found (lookup b (previous_of b)) p.0).0 (found (lookup b (current_of b)) p.1).0 x y

  after-epoch : (x y : Bool) → (after x y).finalized_checkpoint.epoch ≡ finalized_after (current_of b) b.finality x y
  unfolding after finalized_after weighed
  after-epoch x y = refl

  step-tests : (f : Filling) → step_of b f ≡ bind (test_of b (previous_of b) f) (λ x. bind (test_of b (current_of b) f) (λ y. value (after x y)))
  unfolding after
  step-tests f =
      let p = both (root_found b (previous_of b)) (root_found b (current_of b)) r in
      step-by-tests b.settings b.roots b.finality _ _ _ l (found (lookup b (previous_of b)) p.0).1 (found (lookup b (current_of b)) p.1).1

  step_value : (f : Filling) {x y : Bool} → test_of b (previous_of b) f ≡ value x → test_of b (current_of b) f ≡ value y → step_of b f ≡ value (after x y)
  unfolding bind
  step_value f p q = step-tests f ∙ rw (p, q)

  -- every test is given
  pub record Given : Type 0 where
    pub previous_fewest : Bool
    pub previous_most : Bool
    pub current_fewest : Bool
    pub current_most : Bool
    pub pf : test_of b (previous_of b) none_set ≡ value previous_fewest
    pub pm : test_of b (previous_of b) all_set ≡ value previous_most
    pub cf : test_of b (current_of b) none_set ≡ value current_fewest
    pub cm : test_of b (current_of b) all_set ≡ value current_most

  -- with all set an evaluation overflows
  pub record Over : Type 0 where
    pub step : step_of b all_set ≡ refused Overflow
    pub work : weighed_votes b ≡ refused Overflow

  previous-over : test_of b (previous_of b) all_set ≡ refused Overflow → Over
  unfolding weighed_votes bind
  previous-over e = record { step = step-tests all_set ∙ rw e; work = rw e }

  current-over : {x : Bool} → test_of b (previous_of b) all_set ≡ value x → test_of b (current_of b) all_set ≡ refused Overflow → Over
  unfolding weighed_votes bind
  current-over p e = record { step = step-tests all_set ∙ rw (p, e); work = rw (p, e) }

  pub either : Given ⊎ Over
  either = go (ends b (previous_of b) all_set) (ends b (current_of b) all_set)
    where
      go : Ends (test_of b (previous_of b) all_set) → Ends (test_of b (current_of b) all_set) → Given ⊎ Over
      go (over e) k = inr (previous-over e)
      go (gave x p) (over e) = inr (current-over p e)
      go (gave x p) (gave y q) =
          let u = (previous_rises b l none_set all_set (λ i t. never t)).given x p in
          let w = (current_rises b none_set all_set (λ i t. never t)).given y q in
          inl (record { previous_fewest = u.0; previous_most = x; current_fewest = w.0; current_most = y; pf = u.1; pm = p; cf = w.1; cm = q })

  module _ (g : Given) where
    previous-between : (f : Filling) → (x : Bool) × (test_of b (previous_of b) f ≡ value x) × (g.previous_fewest ≡ true → x ≡ true) × (x ≡ true → g.previous_most ≡ true)
    previous-between f = between (λ v. v.previous) (test_of b (previous_of b)) (previous_rises b l) (λ f i t. never t) (λ f i t. refl) g.pf g.pm f

    current-between : (f : Filling) → (x : Bool) × (test_of b (current_of b) f ≡ value x) × (g.current_fewest ≡ true → x ≡ true) × (x ≡ true → g.current_most ≡ true)
    current-between f = between (λ v. v.current) (test_of b (current_of b)) (current_rises b) (λ f i t. never t) (λ f i t. refl) g.cf g.cm f

    abbrev pub result : Outcome
    result = outcome_of (finalized_after (current_of b) b.finality) g.previous_fewest g.previous_most g.current_fewest g.current_most

    pub work-is : weighed_votes b ≡ value result
    unfolding weighed_votes bind
    work-is = rw (g.pm, g.cm, g.pf, g.cf)

    pub never-over : (f : Filling) → step_of b f ≡ refused Overflow → ⊥
    never-over f e =
        let p = previous-between f in
        let q = current-between f in
        not_value (sym e ∙ step_value f p.1 q.1)

    -- a filling for each of the four pairs
    reaches : (u w : Bool) {x y : Bool} → test_of b (previous_of b) (uniform u w) ≡ value x → test_of b (current_of b) (uniform u w) ≡ value y → {e : ℕ} → e ≡ finalized_after (current_of b) b.finality x y → Reaches b e
    reaches u w {x} {y} p q h = record { filling = uniform u w; after = after x y; gives = step_value (uniform u w) p q; finalizes = after-epoch x y ∙ sym h }

    lists : Lists b result.epochs
    unfolding outcome_of
    lists =
        record {
          in_order = sorted-rising _;
          reached = λ e h. reached-by e (four-among e _ _ _ _ (sym (sorted-among e _) ∙ h));
          listed = λ e c. sorted-among e _ ∙ among-four e _ _ _ _ (listed_by e c);
        }
      where
        F : Bool → Bool → ℕ
        F = finalized_after (current_of b) b.finality

        lohi_p : test_of b (previous_of b) (uniform false true) ≡ value g.previous_fewest
        lohi_p = same_test (λ v. v.previous) (test_of b (previous_of b)) (previous_rises b l) (uniform false true) none_set (λ i. refl) g.pf

        lohi_c : test_of b (current_of b) (uniform false true) ≡ value g.current_most
        lohi_c = same_test (λ v. v.current) (test_of b (current_of b)) (current_rises b) (uniform false true) all_set (λ i. refl) g.cm

        hilo_p : test_of b (previous_of b) (uniform true false) ≡ value g.previous_most
        hilo_p = same_test (λ v. v.previous) (test_of b (previous_of b)) (previous_rises b l) (uniform true false) all_set (λ i. refl) g.pm

        hilo_c : test_of b (current_of b) (uniform true false) ≡ value g.current_fewest
        hilo_c = same_test (λ v. v.current) (test_of b (current_of b)) (current_rises b) (uniform true false) none_set (λ i. refl) g.cf

        reached-by : (e : ℕ) → (e ≡ F g.previous_fewest g.current_fewest) ⊎ ((e ≡ F g.previous_fewest g.current_most) ⊎ ((e ≡ F g.previous_most g.current_fewest) ⊎ (e ≡ F g.previous_most g.current_most))) → Reaches b e
        reached-by e (inl h) = reaches false false g.pf g.cf h
        reached-by e (inr (inl h)) = reaches false true lohi_p lohi_c h
        reached-by e (inr (inr (inl h))) = reaches true false hilo_p hilo_c h
        reached-by e (inr (inr (inr h))) = reaches true true g.pm g.cm h

        place : {e : ℕ} (x y : Bool) → e ≡ F x y → (x ≡ g.previous_fewest) ⊎ (x ≡ g.previous_most) → (y ≡ g.current_fewest) ⊎ (y ≡ g.current_most) → (e ≡ F g.previous_fewest g.current_fewest) ⊎ ((e ≡ F g.previous_fewest g.current_most) ⊎ ((e ≡ F g.previous_most g.current_fewest) ⊎ (e ≡ F g.previous_most g.current_most)))
        place x y h (inl p) (inl q) = inl (h ∙ rw (p, q))
        place x y h (inl p) (inr q) = inr (inl (h ∙ rw (p, q)))
        place x y h (inr p) (inl q) = inr (inr (inl (h ∙ rw (p, q))))
        place x y h (inr p) (inr q) = inr (inr (inr (h ∙ rw (p, q))))

        listed_by : (e : ℕ) → Reaches b e → (e ≡ F g.previous_fewest g.current_fewest) ⊎ ((e ≡ F g.previous_fewest g.current_most) ⊎ ((e ≡ F g.previous_most g.current_fewest) ⊎ (e ≡ F g.previous_most g.current_most)))
        listed_by e c =
            let p = previous-between c.filling in
            let q = current-between c.filling in
            let same : c.after ≡ after p.0 q.0 = value_same (sym c.gives ∙ step_value c.filling p.1 q.1) in
            let h : e ≡ F p.0 q.0 = sym c.finalizes ∙ ap (λ (f : Finality). f.finalized_checkpoint.epoch) same ∙ after-epoch p.0 q.0 in
            place p.0 q.0 h
            (one_of (λ v. v.previous) (test_of b (previous_of b)) (previous_rises b l) (λ f i t. never t) (λ f i t. refl) g.pf g.pm p.0 p.2 p.3)
            (one_of (λ v. v.current) (test_of b (current_of b)) (current_rises b) (λ f i t. never t) (λ f i t. refl) g.cf g.cm q.0 q.2 q.3)

    told : {m : Checked Outcome} → m ≡ weighed_votes b → Told b m
    unfolding outcome_of
    told e =
        record {
          outcome = result;
          is = e ∙ work-is;
          epochs = lists;
          previous = holds (λ v. v.previous) (test_of b (previous_of b)) (previous_rises b l) (λ f i t. never t) (λ f i t. refl) g.pf g.pm;
          current = holds (λ v. v.current) (test_of b (current_of b)) (current_rises b) (λ f i t. never t) (λ f i t. refl) g.cf g.cm;
        }

  pub later : votes b ≡ weighed_votes b
  unfolding votes
  later = rw (lt-leb _ _ l, r)

  pub exact-over : (f : Filling) → step_of b f ≡ refused Overflow → votes b ≡ refused Overflow
  exact-over f e = go either
    where
      go : Given ⊎ Over → votes b ≡ refused Overflow
      go (inl g) = absurd (never-over g f e)
      go (inr o) = later ∙ o.work

  pub exact_over_only : votes b ≡ refused Overflow → (f : Filling) × (step_of b f ≡ refused Overflow)
  exact_over_only e = go either
    where
      go : Given ⊎ Over → (f : Filling) × (step_of b f ≡ refused Overflow)
      go (inl g) = absurd (not_value (sym e ∙ later ∙ work-is g))
      go (inr o) = (all_set, o.step)

  pub exact-told : ((f : Filling) → step_of b f ≡ refused Overflow → ⊥) → Told b (votes b)
  exact-told h = go either
    where
      go : Given ⊎ Over → Told b (votes b)
      go (inl g) = told g later
      go (inr o) = absurd (h all_set o.step)

pub exact : (b : Ballot) → Exact b (votes b)
unfolding votes
exact b =
    record {
      early = λ h. rw (le-leb _ _ h);
      missing = λ l h. rw (lt-leb _ _ l, h);
      over = λ l r f e. exact-over b l r f e;
      over-only = λ l r e. exact_over_only b l r e;
      told = λ l r h. exact-told b l r h;
    }
