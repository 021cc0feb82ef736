-- The two-thirds test by its two sums, and the step by its two tests.
use mathlib.Core.Path.{◌≡◌, refl, sym, ap, ◌∙◌}
use mathlib.Core.Bool.{Bool, true, false, cond, ◌&&◌}
use mathlib.Core.List.{List, [], map}
use Prim.Native.Nat.{ℕ, ◌*◌, ◌^◌, ◌≤◌, ◌<◌, max}
use native.Mathlib.Omega.{arith}
use borrow.Author.Tests.{lt-leb, lt-ltb, ltb-true, leb-true, le-leb}
use lib.Dec.{leb, ltb}
use Rattle.definitions.specs.declared.Settings.{Settings}
use Rattle.definitions.specs.declared.Finality.{Finality}
use Rattle.definitions.specs.Lists.{sum}
use Rattle.definitions.specs.Record.{Validator}
use Rattle.definitions.specs.Checked.{Checked, value, refused, bind, mul64, sum64}
use Rattle.definitions.specs.declared.Refusal.TheVariants.{Overflow}
use Rattle.definitions.specs.Document.Phase0.EpochProcessing.{weighed}
use Rattle.definitions.specs.Rust.Phase0.Helpers.{is_active_validator, get_current_epoch, get_previous_epoch, get_block_root, get_active_validator_indices, get_total_balance, get_total_active_balance}
use Rattle.definitions.specs.Rust.Phase0.EpochProcessing.{is_justified, root_where, weigh_justification_and_finalization}
use Rattle.definitions.specs.Rust.Altair.Helpers.{is_unslashed_participating, get_unslashed_participating_indices}
use Rattle.definitions.specs.Rust.Altair.EpochProcessing.{process_justification_and_finalization}
use Rattle.laws.proofs.Checked.{not_value, value_same}
use Rattle.laws.proofs.Loops.Filtered.{sum-filter}
use Rattle.definitions_votes.specs.Exact.{two_thirds}
use Rattle.definitions_votes.proofs.Filled.{weight}

-- How an evaluation ends that only overflow can refuse
pub data Ends {A : Type 0} (m : Checked A) : Type 0 where
  gave : (a : A) → m ≡ value a → Ends m
  over : m ≡ refused Overflow → Ends m

ends-cond : {A : Type 0} (t : Bool) (a : A) → Ends (cond t (value a) (refused Overflow))
ends-cond true a = gave a refl
ends-cond false a = over refl

ends-bind : {A B : Type 0} (m : Checked A) (k : A → Checked B) → Ends m → ((a : A) → Ends (k a)) → Ends (bind m k)
unfolding bind
ends-bind m k (gave a e) h = rw e (h a)
ends-bind m k (over e) h = rw e (over refl)

ends-sum64 : (xs : List ℕ) → Ends (sum64 xs)
unfolding sum64
ends-sum64 xs = ends-cond (ltb (sum xs) (2 ^ 64)) (sum xs)

ends-mul64 : (a b : ℕ) → Ends (mul64 a b)
unfolding mul64
ends-mul64 a b = ends-cond (ltb (a * b) (2 ^ 64)) (a * b)

pub ends-total : (s : Settings) (members : List Validator) → Ends (get_total_balance s members)
unfolding get_total_balance
ends-total s members = ends-bind _ _ (ends-sum64 _) (λ t. gave _ refl)

pub ends-justified : (target total : ℕ) → Ends (is_justified target total)
unfolding is_justified
ends-justified target total = ends-bind _ _ (ends-mul64 target 3) (λ l. ends-bind _ _ (ends-mul64 total 2) (λ r. gave _ refl))

-- The test by its plain sums

abbrev total_of : ℕ → ℕ → Checked ℕ
total_of increment plain = bind (cond (ltb plain (2 ^ 64)) (value plain) (refused Overflow)) (λ t. value (max increment t))

unfoldable pub test_by : ℕ → ℕ → ℕ → Checked Bool
test_by increment active target = bind (total_of increment active) (λ total. bind (total_of increment target) (λ t. is_justified t total))

unfoldable fits_by : ℕ → ℕ → ℕ → Bool
fits_by increment active target = ltb active (2 ^ 64) && (ltb target (2 ^ 64) && (ltb (max increment target * 3) (2 ^ 64) && ltb (max increment active * 2) (2 ^ 64)))

abbrev passes_by : ℕ → ℕ → ℕ → Bool
passes_by increment active target = leb (max increment active * 2) (max increment target * 3)

module _ (increment active target : ℕ) where
  test-is : test_by increment active target ≡ cond (fits_by increment active target) (value (passes_by increment active target)) (refused Overflow)
  unfolding test_by fits_by bind is_justified mul64
  test-is = sums (ltb active (2 ^ 64)) (ltb target (2 ^ 64))
    where
      products : (c d : Bool) → bind (cond c (value (max increment target * 3)) (refused Overflow)) (λ l. bind (cond d (value (max increment active * 2)) (refused Overflow)) (λ r. value (leb r l))) ≡ cond (c && d) (value (passes_by increment active target)) (refused Overflow)
      products true true = refl
      products true false = refl
      products false d = refl

      sums : (a b : Bool) → bind (bind (cond a (value active) (refused Overflow)) (λ t. value (max increment t))) (λ total. bind (bind (cond b (value target) (refused Overflow)) (λ t. value (max increment t))) (λ t. is_justified t total)) ≡ cond (a && (b && (ltb (max increment target * 3) (2 ^ 64) && ltb (max increment active * 2) (2 ^ 64)))) (value (passes_by increment active target)) (refused Overflow)
      sums true true = products (ltb (max increment target * 3) (2 ^ 64)) (ltb (max increment active * 2) (2 ^ 64))
      sums true false = refl
      sums false b = refl

  pub test-ends : Ends (test_by increment active target)
  test-ends = rw test-is (ends-cond (fits_by increment active target) (passes_by increment active target))

  -- where both sums fit, the test of the totals
  pub test_plain : active < 2 ^ 64 → target < 2 ^ 64 → test_by increment active target ≡ is_justified (max increment target) (max increment active)
  unfolding test_by bind
  test_plain h k = rw (lt-ltb active (2 ^ 64) h, lt-ltb target (2 ^ 64) k)

  -- and both fit where it is given
  pub test_fits : {y : Bool} → test_by increment active target ≡ value y → (active < 2 ^ 64) × (target < 2 ^ 64)
  unfolding fits_by
  test_fits {y} e = go (ltb active (2 ^ 64)) refl (ltb target (2 ^ 64)) refl (sym test-is ∙ e)
    where
      go : (a : Bool) → ltb active (2 ^ 64) ≡ a → (b : Bool) → ltb target (2 ^ 64) ≡ b → cond (a && (b && (ltb (max increment target * 3) (2 ^ 64) && ltb (max increment active * 2) (2 ^ 64)))) (value (passes_by increment active target)) (refused Overflow) ≡ value y → (active < 2 ^ 64) × (target < 2 ^ 64)
      go true p true q e = (ltb-true _ _ p, ltb-true _ _ q)
      go true p false q e = absurd (not_value e)
      go false p b q e = absurd (not_value e)

-- where the larger target's test is given, so is the smaller's, and it passes no sooner
pub record Rises (lo hi : Checked Bool) : Type 0 where
  pub given : (y : Bool) → hi ≡ value y → (x : Bool) × (lo ≡ value x) × (x ≡ true → y ≡ true)

cond-given : {t b y : Bool} → cond t (value b) (refused Overflow) ≡ value y → (t ≡ true) × (b ≡ y)
cond-given {t} {b} {y} e = go t e
  where
    go : (t : Bool) → cond t (value b) (refused Overflow) ≡ value y → (t ≡ true) × (b ≡ y)
    go true e = (refl, value_same e)
    go false e = absurd (not_value e)

fits_down : (increment active x y : ℕ) → x ≤ y → fits_by increment active y ≡ true → fits_by increment active x ≡ true
unfolding fits_by
fits_down increment active x y l h = go (ltb active (2 ^ 64)) (ltb y (2 ^ 64)) refl (ltb (max increment y * 3) (2 ^ 64)) refl (ltb (max increment active * 2) (2 ^ 64)) h
  where
    no : false ≡ true → ⊥
    no e = let z : ◌≡◌ {A = ℕ} 0 1 = ap (λ (t : Bool). cond t 1 0) e in omega arith

    go : (a b : Bool) → ltb y (2 ^ 64) ≡ b → (c : Bool) → ltb (max increment y * 3) (2 ^ 64) ≡ c → (d : Bool) → (a && (b && (c && d))) ≡ true → (a && (ltb x (2 ^ 64) && (ltb (max increment x * 3) (2 ^ 64) && d))) ≡ true
    go true true p true q d h =
        rw (lt-ltb x (2 ^ 64) (omega (arith, ltb-true y (2 ^ 64) p)), lt-ltb (max increment x * 3) (2 ^ 64) (omega (arith, ltb-true (max increment y * 3) (2 ^ 64) q))) h
    go true true p false q d h = absurd (no h)
    go true false p c q d h = absurd (no h)
    go false b p c q d h = absurd (no h)

pub test_rises : (increment active x y : ℕ) → x ≤ y → Rises (test_by increment active x) (test_by increment active y)
test_rises increment active x y l =
    record {
      given =
          λ t e.
          let g = cond-given {t = fits_by increment active y} (sym (test-is increment active y) ∙ e) in
          (passes_by increment active x, test-is increment active x ∙ ap (λ (t : Bool). cond t (value (passes_by increment active x)) (refused Overflow)) (fits_down increment active x y l g.0), λ p. sym g.1 ∙ le-leb _ _ (more (leb-true _ _ p)));
    }
  where
    more : max increment active * 2 ≤ max increment x * 3 → max increment active * 2 ≤ max increment y * 3
    more h = omega arith

-- a registry's test by its sums
pub two_thirds-by : (s : Settings) (state_slot : ℕ) (vs : List Validator) (epoch : ℕ) → two_thirds s state_slot vs epoch ≡ test_by s.effective_balance_increment (sum (map (weight (λ v. is_active_validator v (get_current_epoch s state_slot))) vs)) (sum (map (weight (is_unslashed_participating (get_current_epoch s state_slot) 1 epoch)) vs))
unfolding two_thirds test_by get_total_active_balance get_total_balance get_active_validator_indices get_unslashed_participating_indices sum64
two_thirds-by s state_slot vs epoch =
    let current = get_current_epoch s state_slot in
    rw (sum-filter (λ v. is_active_validator v current) (λ v. v.effective_balance) vs, sum-filter (is_unslashed_participating current 1 epoch) (λ v. v.effective_balance) vs)

-- The step by its tests

root_where_lem : (x : Bool) (s : Settings) (roots : List ℕ) (state_slot epoch : ℕ) {root : List ℕ} → get_block_root s roots state_slot epoch ≡ value root → root_where x s roots state_slot epoch ≡ value (cond x root [])
unfolding root_where
root_where_lem true s roots state_slot epoch e = e
root_where_lem false s roots state_slot epoch e = refl

module _ (J : ℕ → ℕ → Checked Bool) (ends : (x y : ℕ) → Ends (J x y)) (R R' : Bool → Checked (List ℕ)) (r r' : Bool → List ℕ) (h : (x : Bool) → R x ≡ value (r x)) (h' : (x : Bool) → R' x ≡ value (r' x)) (K : Bool → Bool → List ℕ → List ℕ → Finality) where
  by_tests : (A P C : Checked ℕ) → Ends C → bind A (λ a. bind P (λ p. bind C (λ c. bind (J p a) (λ x. bind (R x) (λ q. bind (J c a) (λ y. bind (R' y) (λ q'. value (K x y q q')))))))) ≡ bind (bind A (λ a. bind P (λ p. J p a))) (λ x. bind (bind A (λ a. bind C (λ c. J c a))) (λ y. value (K x y (r x) (r' y))))
  unfolding bind
  by_tests (refused q) P C e = refl
  by_tests (value a) (refused q) C e = refl
  by_tests (value a) (value p) C (over e) = rw e (go (J p a) (ends p a))
    where
      go : (m : Checked Bool) → Ends m → refused Overflow ≡ bind {B = Finality} m (λ x. refused Overflow)
      go m (gave x e) = rw e
      go m (over e) = rw e
  by_tests (value a) (value p) C (gave c e) = rw e (go (J p a))
    where
      after : (x : Bool) (m : Checked Bool) → bind m (λ y. bind (R' y) (λ q'. value (K x y (r x) q'))) ≡ bind m (λ y. value (K x y (r x) (r' y)))
      after x (refused q) = refl
      after x (value y) = rw (h' y)

      go : (m : Checked Bool) → bind m (λ x. bind (R x) (λ q. bind (J c a) (λ y. bind (R' y) (λ q'. value (K x y q q'))))) ≡ bind m (λ x. bind (J c a) (λ y. value (K x y (r x) (r' y))))
      go (refused q) = refl
      go (value x) = rw (h x) (after x (J c a))

module _ (s : Settings) (roots : List ℕ) (old : Finality) (vs : List Validator) (rp rc : List ℕ) where
  abbrev pub after_tests : Bool → Bool → Finality
  after_tests x y = weighed (get_previous_epoch s old.slot) (get_current_epoch s old.slot) x y (cond x rp []) (cond y rc []) old

  pub step-by-tests : 1 < get_current_epoch s old.slot → get_block_root s roots old.slot (get_previous_epoch s old.slot) ≡ value rp → get_block_root s roots old.slot (get_current_epoch s old.slot) ≡ value rc → process_justification_and_finalization s roots old vs ≡ bind (two_thirds s old.slot vs (get_previous_epoch s old.slot)) (λ x. bind (two_thirds s old.slot vs (get_current_epoch s old.slot)) (λ y. value (after_tests x y)))
  unfolding process_justification_and_finalization weigh_justification_and_finalization two_thirds
  step-by-tests l e e' =
      rw (lt-leb _ _ l)
      (by_tests is_justified ends-justified
      (λ x. root_where x s roots old.slot (get_previous_epoch s old.slot))
      (λ x. root_where x s roots old.slot (get_current_epoch s old.slot))
      (λ x. cond x rp [])
      (λ x. cond x rc [])
      (λ x. root_where_lem x s roots old.slot (get_previous_epoch s old.slot) e)
      (λ x. root_where_lem x s roots old.slot (get_current_epoch s old.slot) e')
      (λ x y q q'. weighed (get_previous_epoch s old.slot) (get_current_epoch s old.slot) x y q q' old)
      (get_total_active_balance s old.slot vs)
      (get_total_balance s (get_unslashed_participating_indices s old.slot vs 1 (get_previous_epoch s old.slot)))
      (get_total_balance s (get_unslashed_participating_indices s old.slot vs 1 (get_current_epoch s old.slot)))
      (ends-total s _))
