-- The room and the table hold the text's registry.
use mathlib.Core.Path.{◌≡◌, refl, sym, ap, ◌∙◌}
use mathlib.Core.Bool.{Bool, true, false, cond}
use mathlib.Core.List.{List, [], ◌∷◌, ◌++◌}
use Prim.Native.Nat.{ℕ, ◌+◌, ◌-◌, ◌≤◌, ◌<◌}
use native.Mathlib.Omega.{arith}
use borrow.Author.Tests.{lt-ltb, le-ltb, ne_eqb}
use lib.Dec.{eqb}
use lib.ListN.{length, get_or, take, drop, set, length-set, length-append}
use native.Mathlib.Numerals.{add-one}
use lib.Seq.{get_or-take, drop-drop, take-set-lt, drop-set-lt, take-suc-set}
use Rattle.definitions.specs.Record.{Validator, nobody}
use Rattle.definitions.specs.Rust.Phase0.Helpers.{increase_balance}
use Rattle.definitions_electra.specs.declared.ElectraRules.{ElectraRules}
use Rattle.definitions_electra.specs.declared.PendingDeposit.{PendingDeposit}
use Rattle.definitions_electra.specs.Record.{Registry}
use Rattle.definitions_electra.specs.Document.Electra.EpochProcessing.{get_validator_from_deposit, add_validator_to_registry, is_known, place_in, put_validator}
use Rattle.definitions_electra.specs.Evaluated.Electra.EpochProcessing.{apply_pending_deposit}
use Rattle.electra_deposits.specs.Room.{Room, place_by, appended, with_buffer, apply_at, join_at, joins}
use Rattle.laws_electra.proofs.Cases.{less_or}
use Rattle.electra_deposits.proofs.Alike.{Alike, alike-value, alike-given}
use Rattle.electra_deposits.proofs.Keys.{Finds, finds-more}

-- Room: the first `count` of the buffers are the text's lists, and behind them stands what stood there

pub record Roomy (n d : ℕ) (vs₀ : List Validator) (cs₀ : List ℕ) (m : Room) (reg : Registry) : Type 0 where
  pub count : m.count ≡ length reg.pubkeys
  pub wide : length m.buffer ≡ n + d
  pub wide_too : length m.compounding ≡ n + d
  pub first : take m.count m.buffer ≡ reg.validators
  pub first_too : take m.count m.compounding ≡ reg.compounding
  pub behind : drop m.count m.buffer ≡ drop m.count vs₀
  pub behind_too : drop m.count m.compounding ≡ drop m.count cs₀
  pub finds : Finds (λ i. i + 1) n d m.places reg.pubkeys

drop_more : {A : Type 0} (c : ℕ) (xs ys : List A) → drop c xs ≡ drop c ys → drop (c + 1) xs ≡ drop (c + 1) ys
drop_more c xs ys e = sym (drop-drop 1 c xs) ∙ ap (drop 1) e ∙ drop-drop 1 c ys

-- and as many as c, or one more
pub record Grown (n d : ℕ) (vs₀ : List Validator) (cs₀ : List ℕ) (c : ℕ) (m : Room) (reg : Registry) : Type 0 where
  pub roomy : Roomy n d vs₀ cs₀ m reg
  pub least : c ≤ m.count
  pub most : m.count ≤ c + 1

one_more : (r : ElectraRules) (n : ℕ) (m : Room) (x : PendingDeposit) → (appended (get_validator_from_deposit r) n m x).count ≡ m.count + 1
unfolding appended
one_more r n m x = refl

module _ {n d : ℕ} {vs₀ : List Validator} {cs₀ : List ℕ} {m : Room} {reg : Registry} (h : Roomy n d vs₀ cs₀ m reg) where
  -- a validator's numbers change
  roomy-put : (i : ℕ) (v : Validator) → i < m.count → Roomy n d vs₀ cs₀ (with_buffer (set m.buffer i v) m) (put_validator reg i v)
  roomy-put i v l =
      record {
        count = h.count;
        wide = length-set m.buffer i v ∙ h.wide;
        wide_too = h.wide_too;
        first = take-set-lt m.count m.buffer i v l ∙ ap (λ (t : List Validator). set t i v) h.first;
        first_too = h.first_too;
        behind = drop-set-lt m.count m.buffer i v l ∙ h.behind;
        behind_too = h.behind_too;
        finds = h.finds;
      }

  -- one more at the end
  roomy-more : (r : ElectraRules) (x : PendingDeposit) → m.count < n + d → n ≤ x.pubkey → x.pubkey < n + d → length reg.pubkeys ≤ place_in reg x → Roomy n d vs₀ cs₀ (appended (get_validator_from_deposit r) n m x) (add_validator_to_registry r reg x)
  unfolding appended add_validator_to_registry
  roomy-more r x l a b z =
      let c = m.count in
      let v = get_validator_from_deposit r x in
      let g : Finds (λ i. i + 1) n d (set m.places (x.pubkey - n) (c + 1)) (reg.pubkeys ++ (x.pubkey ∷ [])) = rw h.count (finds-more h.finds (λ i. i + 1) x.pubkey a b z (λ i l. refl)) in
      let u : length (reg.pubkeys ++ (x.pubkey ∷ [])) ≡ length reg.pubkeys + 1 = length-append reg.pubkeys (x.pubkey ∷ []) in
      record {
        count = omega (arith, u, h.count);
        wide = length-set m.buffer c v ∙ h.wide;
        wide_too = length-set m.compounding c x.compounding ∙ h.wide_too;
        first = rw (add-one c) (take-suc-set m.buffer c v (omega (arith, h.wide)) ∙ ap (λ (t : List Validator). t ++ (v ∷ [])) h.first);
        first_too = rw (add-one c) (take-suc-set m.compounding c x.compounding (omega (arith, h.wide_too)) ∙ ap (λ (t : List ℕ). t ++ (x.compounding ∷ [])) h.first_too);
        behind = drop-set-lt (c + 1) m.buffer c v (omega arith) ∙ drop_more c m.buffer vs₀ h.behind;
        behind_too = drop-set-lt (c + 1) m.compounding c x.compounding (omega arith) ∙ drop_more c m.compounding cs₀ h.behind_too;
        finds = g;
      }

  -- A new key's place
  module _ (x : PendingDeposit) (a : n ≤ x.pubkey) (b : x.pubkey < n + d) where
    place_is : place_by n m.places x.pubkey ≡ cond (is_known reg x) (place_in reg x + 1) 0
    place_is = h.finds.found x.pubkey a b

    same-validator : place_in reg x < m.count → get_or m.buffer (place_in reg x) nobody ≡ get_or reg.validators (place_in reg x) nobody
    same-validator l = sym (get_or-take m.count m.buffer (place_in reg x) nobody l) ∙ ap (λ (t : List Validator). get_or t (place_in reg x) nobody) h.first

    minus_one : (k : ℕ) → k + 1 - 1 ≡ k
    minus_one k = omega arith

    applied : (r : ElectraRules) → m.count < n + d → Alike (Grown n d vs₀ cs₀ m.count) (apply_at (get_validator_from_deposit r) n m (place_by n m.places x.pubkey) x) (apply_pending_deposit r reg x)
    unfolding apply_at apply_pending_deposit
    applied r l =
        less_or (place_in reg x) (length reg.pubkeys)
        (λ e. rw (place_is, lt-ltb (place_in reg x) (length reg.pubkeys) e, ne_eqb (place_in reg x + 1) 0 (λ z. omega (arith, z)), minus_one (place_in reg x), same-validator (omega (arith, e, h.count)))
        (alike-given (increase_balance (get_or reg.validators (place_in reg x) nobody) x.amount) _ _ (λ v z. alike-value (record { roomy = roomy-put (place_in reg x) v (omega (arith, e, h.count)); least = omega arith; most = omega arith }))))
        (λ e. rw (place_is, le-ltb (place_in reg x) (length reg.pubkeys) e) (alike-value (valid e (eqb x.valid 1))))
      where
        valid : length reg.pubkeys ≤ place_in reg x → (t : Bool) → Grown n d vs₀ cs₀ m.count (cond t (appended (get_validator_from_deposit r) n m x) m) (cond t (add_validator_to_registry r reg x) reg)
        valid e true = record { roomy = roomy-more r x l a b e; least = omega (arith, one_more r n m x); most = omega (arith, one_more r n m x) }
        valid e false = record { roomy = h; least = omega arith; most = omega arith }

  pub join-alike : (x : PendingDeposit) → x.pubkey < n + d → (r : ElectraRules) → m.count < n + d → Alike (Grown n d vs₀ cs₀ m.count) (join_at (get_validator_from_deposit r) n m x) (joins r n reg x)
  unfolding join_at joins
  join-alike x b r l =
      less_or x.pubkey n (λ e. rw (lt-ltb x.pubkey n e) (alike-value (record { roomy = h; least = omega arith; most = omega arith })))
      (λ e. rw (le-ltb x.pubkey n e) (applied x e b r l))
