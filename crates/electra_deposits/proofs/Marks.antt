-- The table of the test holds the balances of those whom the text adds; and one at whom step 8 refuses stays so, since balances only grow.
use mathlib.Core.Path.{◌≡◌, refl, sym, ap, ◌∙◌}
use mathlib.Core.Bool.{true, false}
use mathlib.Core.List.{List, [], ◌∷◌, ◌++◌}
use Prim.Native.Nat.{ℕ, ◌+◌, ◌-◌, ◌≤◌, ◌<◌, ◌^◌}
use native.Mathlib.Omega.{arith}
use borrow.Author.Tests.{lt-ltb, le-ltb, ltb-true, ltb-false, eq-eqb, ne_eqb}
use lib.Dec.{ltb, eqb}
use lib.ListN.{length, get_or, set, length-append, length-set, get_or-append}
use lib.Seq.{get_or-set_same, get_or-set_other, get_or_at}
use Rattle.definitions.specs.Record.{Validator, nobody}
use Rattle.definitions.specs.Updates.{with_balance}
use Rattle.definitions.specs.Checked.{value, bind}
use Rattle.definitions.specs.Rust.Phase0.Helpers.{increase_balance}
use Rattle.laws.proofs.Checked.{bound, value_same, add64-value, add64-below}
use Rattle.definitions_electra.specs.declared.PendingDeposit.{PendingDeposit}
use Rattle.definitions_electra.specs.Loops.{fold_until_checked}
use Rattle.definitions_electra.specs.Record.{Registry}
use Rattle.definitions_electra.specs.Document.Electra.Helpers.{get_max_effective_balance}
use Rattle.definitions_electra.specs.Document.Electra.EpochProcessing.{get_validator_from_deposit, add_validator_to_registry, is_known, place_in, put_validator}
use Rattle.definitions_electra.specs.Evaluated.Electra.EpochProcessing.{apply_pending_deposit}
use Rattle.electra_deposits.specs.declared.adding.NewNumbers.{NewNumbers}
use Rattle.electra_deposits.specs.Room.{place_by, effective_by, new_by, rules_by, joins}
use Rattle.electra_deposits.specs.Testing.{marked, Turn, turn, known_at, new_at, test_at, Good, Bad, SomeBad}
use Rattle.laws_electra.proofs.Cases.{same_or, less_or, test_or, whichever}
use Rattle.electra_deposits.proofs.Alike.{apart}
use Rattle.electra_deposits.proofs.Keys.{Finds, finds-put, finds-more}
use Rattle.electra_deposits.proofs.Postponed.{Kept, kept-apply, set_case, more_case}

-- What one deposit with a key from n on does to the text's registry

-- its validator's balance grows, a validator comes behind, or nothing
pub data Joined (k : NewNumbers) (n : ℕ) (reg : Registry) (d : PendingDeposit) : Registry → Type 0 where
  front : d.pubkey < n → Joined k n reg d reg
  raised : n ≤ d.pubkey → is_known reg d ≡ true → (s : ℕ) → (get_or reg.validators (place_in reg d) nobody).balance + d.amount ≡ s → s < 2 ^ 64 → Joined k n reg d (put_validator reg (place_in reg d) (with_balance s (get_or reg.validators (place_in reg d) nobody)))
  added : n ≤ d.pubkey → is_known reg d ≡ false → eqb d.valid 1 ≡ true → Joined k n reg d (record { validators = reg.validators ++ (new_by k d ∷ []); pubkeys = reg.pubkeys ++ (d.pubkey ∷ []); compounding = reg.compounding ++ (d.compounding ∷ []) })
  left : n ≤ d.pubkey → is_known reg d ≡ false → eqb d.valid 1 ≡ false → Joined k n reg d reg

pub joined_is : (k : NewNumbers) (n : ℕ) (reg : Registry) (d : PendingDeposit) {reg' : Registry} → joins (rules_by k 0) n reg d ≡ value reg' → Joined k n reg d reg'
unfolding joins apply_pending_deposit add_validator_to_registry get_validator_from_deposit get_max_effective_balance increase_balance
joined_is k n reg d e =
    whichever (ltb d.pubkey n) e (λ o z. rw (← value_same z) (front (ltb-true d.pubkey n o)))
    (λ l z. whichever (is_known reg d) z (λ o z. known (ltb-false d.pubkey n l) o z)
    (λ o z. rw (← value_same z) (test_or (eqb d.valid 1) (λ p. rw p (added (ltb-false d.pubkey n l) o p)) (λ p. rw p (left (ltb-false d.pubkey n l) o p)))))
  where
    known : {reg' : Registry} → n ≤ d.pubkey → is_known reg d ≡ true → bind (increase_balance (get_or reg.validators (place_in reg d) nobody) d.amount) (λ w. value (put_validator reg (place_in reg d) w)) ≡ value reg' → Joined k n reg d reg'
    known l o z =
        let b = bound _ _ z in
        let c = bound _ _ b.gave in
        let i = add64-value _ _ c.gave in
        rw (← value_same b.then, ← value_same c.then) (raised l o c.first i (rw (← i) (add64-below _ _ c.gave)))

pub kept-join : (k : NewNumbers) {n : ℕ} {vs₀ : List Validator} {reg : Registry} → Kept n vs₀ reg → (d : PendingDeposit) {reg' : Registry} → joins (rules_by k 0) n reg d ≡ value reg' → Kept n vs₀ reg'
unfolding joins
kept-join k {n} h d e = whichever (ltb d.pubkey n) e (λ o z. rw (← value_same z) h) (λ o z. kept-apply h (rules_by k 0) d z)

-- Who is refused stays so

grown : {downward upward : ℕ} (v : Validator) (s : ℕ) → v.balance ≤ s → Bad downward upward v → Bad downward upward (with_balance s v)
grown v s l h = record { high = λ b. (let x = h.high (omega (arith, b, l)) in (omega (arith, x.0, l), x.1)) }

bad-turn : {k : NewNumbers} {n downward upward : ℕ} {reg : Registry} {d : PendingDeposit} {reg' : Registry} → Joined k n reg d reg' → SomeBad n downward upward reg.validators → SomeBad n downward upward reg'.validators
bad-turn (front l) h = h
bad-turn (left l o p) h = h
bad-turn {k = k} {reg = reg} {d = d} (added l o p) h =
    let z : length (reg.validators ++ (new_by k d ∷ [])) ≡ length reg.validators + 1 = length-append reg.validators (new_by k d ∷ []) in
    record { at = h.at; behind = h.behind; here = omega (arith, z, h.here); bad = rw (get_or-append reg.validators (new_by k d ∷ []) nobody h.at h.here) h.bad }
bad-turn {downward = downward} {upward = upward} {reg = reg} {d = d} (raised l o s e b) h =
    let v = get_or reg.validators (place_in reg d) nobody in
    let w = with_balance s v in
    let bad : place_in reg d ≡ h.at → Bad downward upward v = λ q. rw q h.bad in
    record {
      at = h.at;
      behind = h.behind;
      here = omega (arith, length-set reg.validators (place_in reg d) w, h.here);
      bad = set_case (Bad downward upward) reg.validators (place_in reg d) w h.at (λ q. omega (arith, q, h.here)) (λ q. grown v s (omega (arith, e)) (bad q)) (λ q. h.bad);
    }

pub bad-rest : (k : NewNumbers) {n downward upward : ℕ} (reg : Registry) (ds : List PendingDeposit) {reg' : Registry} → SomeBad n downward upward reg.validators → fold_until_checked (λ b d. false) (joins (rules_by k 0) n) reg ds ≡ value reg' → SomeBad n downward upward reg'.validators
unfolding fold_until_checked
bad-rest k reg [] h e = rw (← value_same e) h
bad-rest k {n} reg (d ∷ ds) h e =
    let b = bound (joins (rules_by k 0) n reg d) (λ c. fold_until_checked (λ b d. false) (joins (rules_by k 0) n) c ds) e in
    bad-rest k b.first ds (bad-turn (joined_is k n reg d b.gave) h) b.then

-- The table

-- a place's number
abbrev mark_at : ℕ → List Validator → ℕ → ℕ
mark_at downward vs i = marked downward (get_or vs i nobody).balance

pub record Marks (n d downward upward : ℕ) (vs₀ : List Validator) (ps : List ℕ) (many : ℕ) (reg : Registry) : Type 0 where
  pub kept : Kept n vs₀ reg
  pub count : n + many ≡ length reg.pubkeys
  pub finds : Finds (mark_at downward reg.validators) n d ps reg.pubkeys
  pub good : (j : ℕ) → n ≤ j → j < length reg.validators → Good downward upward (get_or reg.validators j nobody)

-- what a turn leaves
pub record Outcome (n d downward upward : ℕ) (vs₀ : List Validator) (many : ℕ) (reg : Registry) (t : Turn) : Type 0 where
  pub fits : t.fits ≡ true → Marks n d downward upward vs₀ t.places (many + t.added) reg
  pub bad : t.fits ≡ false → SomeBad n downward upward reg.validators

marked_not_zero : (downward b : ℕ) → marked downward b ≡ 0 → ⊥
marked_not_zero downward b e = test_or (eqb downward 0) (λ t. omega (arith, rw t at e)) (λ t. omega (arith, rw t at e))

-- a new validator's effective balance is within its balance
backed : (k : NewNumbers) (x : PendingDeposit) → effective_by k x ≤ x.amount
backed k x = omega arith

module _ {n d downward upward : ℕ} {vs₀ : List Validator} {ps : List ℕ} {many : ℕ} {reg : Registry} (h : Marks n d downward upward vs₀ ps many reg) where
  same_out : Outcome n d downward upward vs₀ many reg (turn ps 0 true)
  same_out = let z : many + 0 ≡ many = omega arith in record { fits = λ e. rw z h; bad = λ e. absurd (apart e) }

  module _ (x : PendingDeposit) (l : n ≤ x.pubkey) (b : x.pubkey < n + d) where
    abbrev i : ℕ
    i = place_in reg x

    abbrev v : Validator
    v = get_or reg.validators i nobody

    module _ (s : ℕ) (e : v.balance + x.amount ≡ s) (below : s < 2 ^ 64) (o : is_known reg x ≡ true) (k' : Kept n vs₀ (put_validator reg i (with_balance s v))) where
      here : i < length reg.validators
      here = omega (arith, ltb-true i (length reg.pubkeys) o, h.kept.long)

      put-out : (qs : List ℕ) → length qs ≡ length ps → s + downward < 2 ^ 64 → place_by n qs x.pubkey ≡ marked downward s → ((key : ℕ) → n ≤ key → (x.pubkey ≡ key → ⊥) → place_by n qs key ≡ place_by n ps key) → Outcome n d downward upward vs₀ many (put_validator reg i (with_balance s v)) (turn qs 0 true)
      put-out qs long low own others =
          let z : many + 0 ≡ many = omega arith in
          let vs = set reg.validators i (with_balance s v) in
          let g = h.good i (h.kept.new-keys x.pubkey l) here in
          let same : get_or vs i nobody ≡ with_balance s v = get_or-set_same reg.validators i (with_balance s v) nobody here in
          record {
            fits = λ t. rw z (record {
              kept = k';
              count = h.count;
              finds = finds-put h.finds (mark_at downward vs) x.pubkey long (own ∙ sym (ap (λ (w : Validator). marked downward w.balance) same)) others (ltb-true i (length reg.pubkeys) o) (λ j q. ap (λ (w : Validator). marked downward w.balance) (get_or-set_other reg.validators i j (with_balance s v) nobody q));
              good = λ j a c. set_case (Good downward upward) reg.validators i (with_balance s v) j (λ q. here) (λ q. record { low = low; high = g.high }) (λ q. h.good j a (omega (arith, c, length-set reg.validators i (with_balance s v))));
            });
            bad = λ t. absurd (apart t);
          }

      place_is : place_by n ps x.pubkey ≡ marked downward v.balance
      place_is = h.finds.found x.pubkey l b ∙ rw o

      known_out : Outcome n d downward upward vs₀ many (put_validator reg i (with_balance s v)) (known_at n downward ps x)
      unfolding known_at
      known_out =
          let place = place_by n ps x.pubkey in
          same_or downward 0
          (λ t. (let m : marked downward v.balance ≡ marked downward s = rw (eq-eqb downward 0 t) in rw (eq-eqb downward 0 t) (put-out ps refl (omega (arith, t, below)) (place_is ∙ m) (λ key a q. refl))))
          (λ t. (let u = ne_eqb downward 0 t in let z : place ≡ v.balance + 1 = rw u at place_is in
          rw u (less_or (place - 1 + x.amount + downward) (2 ^ 64)
          (λ f. rw (lt-ltb (place - 1 + x.amount + downward) (2 ^ 64) f) (low z u f))
          (λ f. rw (le-ltb (place - 1 + x.amount + downward) (2 ^ 64) f) (record {
            fits = λ u. absurd (apart (sym u));
            bad = λ u. record {
              at = i;
              behind = h.kept.new-keys x.pubkey l;
              here = omega (arith, here, length-set reg.validators i (with_balance s v));
              bad = rw (get_or-set_same reg.validators i (with_balance s v) nobody here) (record { high = λ g. absurd (omega (arith, g, f, z, e)) });
            };
          })))))
        where
          low : place_by n ps x.pubkey ≡ v.balance + 1 → eqb downward 0 ≡ false → place_by n ps x.pubkey - 1 + x.amount + downward < 2 ^ 64 → Outcome n d downward upward vs₀ many (put_validator reg i (with_balance s v)) (turn (set ps (x.pubkey - n) (place_by n ps x.pubkey + x.amount)) 0 true)
          low z w f =
              let y = place_by n ps x.pubkey + x.amount in
              let m : marked downward s ≡ s + 1 = rw w in
              put-out (set ps (x.pubkey - n) y) (length-set ps (x.pubkey - n) y) (omega (arith, f, z, e))
              (get_or-set_same ps (x.pubkey - n) y 0 (omega (arith, h.finds.long, l, b)) ∙ omega (arith, z, e, m))
              (λ key a q. get_or-set_other ps (x.pubkey - n) (key - n) y 0 (omega (arith, q, a, l)))

    module _ (k : NewNumbers) (o : is_known reg x ≡ false) where
      abbrev more : Registry
      more = record { validators = reg.validators ++ (new_by k x ∷ []); pubkeys = reg.pubkeys ++ (x.pubkey ∷ []); compounding = reg.compounding ++ (x.compounding ∷ []) }

      longer_too : length (reg.validators ++ (new_by k x ∷ [])) ≡ length reg.validators + 1
      longer_too = length-append reg.validators (new_by k x ∷ [])

      bad-new : Bad downward upward (new_by k x) → SomeBad n downward upward (reg.validators ++ (new_by k x ∷ []))
      bad-new g =
          record {
            at = length reg.validators;
            behind = omega (arith, h.kept.long, h.kept.least);
            here = omega (arith, longer_too);
            bad = rw (get_or_at reg.validators (new_by k x) [] nobody (length reg.validators) refl) g;
          }

      new-out : Kept n vs₀ more → Outcome n d downward upward vs₀ many more (new_at k n downward upward ps x)
      unfolding new_at
      new-out k' =
          less_or (x.amount + downward) (2 ^ 64)
          (λ f. rw (lt-ltb (x.amount + downward) (2 ^ 64) f) (less_or (effective_by k x + upward) (2 ^ 64)
          (λ g. rw (lt-ltb (effective_by k x + upward) (2 ^ 64) g) (fits f g))
          (λ g. rw (le-ltb (effective_by k x + upward) (2 ^ 64) g) (record { fits = λ e. absurd (apart (sym e)); bad = λ e. bad-new (record { high = λ f. (backed k x, g) }) }))))
          (λ f. rw (le-ltb (x.amount + downward) (2 ^ 64) f) (record { fits = λ e. absurd (apart (sym e)); bad = λ e. bad-new (record { high = λ g. absurd (omega (arith, f, g)) }) }))
        where
          fits : x.amount + downward < 2 ^ 64 → effective_by k x + upward < 2 ^ 64 → Outcome n d downward upward vs₀ many more (turn (set ps (x.pubkey - n) (marked downward x.amount)) 1 true)
          fits f g =
              let vs = reg.validators in
              let same : mark_at downward (vs ++ (new_by k x ∷ [])) (length reg.pubkeys) ≡ marked downward x.amount = rw (get_or_at vs (new_by k x) [] nobody (length reg.pubkeys) h.kept.long) in
              record {
                fits = λ e. record {
                  kept = k';
                  count = omega (arith, h.count, length-append reg.pubkeys (x.pubkey ∷ []));
                  finds = rw same at (finds-more h.finds (mark_at downward (vs ++ (new_by k x ∷ []))) x.pubkey l b (ltb-false i (length reg.pubkeys) o) (λ j c. ap (λ (w : Validator). marked downward w.balance) (get_or-append vs (new_by k x ∷ []) nobody j (omega (arith, c, h.kept.long)))));
                  good = λ j a c. more_case (Good downward upward) vs (new_by k x) j (λ c. h.good j a c) (λ q. record { low = f; high = g }) (λ q. absurd (omega (arith, c, q, longer_too)));
                };
                bad = λ e. absurd (apart e);
              }

  pub turn-out : (k : NewNumbers) (x : PendingDeposit) → x.pubkey < n + d → {reg' : Registry} → Joined k n reg x reg' → Kept n vs₀ reg' → Outcome n d downward upward vs₀ many reg' (test_at k n downward upward ps x)
  unfolding test_at
  turn-out k x b (front l) k' = rw (lt-ltb x.pubkey n l) same_out
  turn-out k x b (raised l o s e f) k' =
      let z : place_by n ps x.pubkey ≡ 0 → ⊥ = λ z. marked_not_zero downward (get_or reg.validators (place_in reg x) nobody).balance (sym (place_is x l b s e f o k') ∙ z) in
      rw (le-ltb x.pubkey n l, ne_eqb (place_by n ps x.pubkey) 0 z) (known_out x l b s e f o k')
  turn-out k x b (added l o p) k' =
      let z : place_by n ps x.pubkey ≡ 0 = h.finds.found x.pubkey l b ∙ rw o in
      rw (le-ltb x.pubkey n l, eq-eqb (place_by n ps x.pubkey) 0 z, p) (new-out x l b k o k')
  turn-out k x b (left l o p) k' =
      let z : place_by n ps x.pubkey ≡ 0 = h.finds.found x.pubkey l b ∙ rw o in
      rw (le-ltb x.pubkey n l, eq-eqb (place_by n ps x.pubkey) 0 z, p) same_out
