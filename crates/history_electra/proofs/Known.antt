-- Those postponed are of keys that validators have: a key that one has stays so.
use mathlib.Core.Path.{◌≡◌, subst}
use mathlib.Core.Bool.{Bool, true, false, cond}
use mathlib.Core.List.{List, [], ◌∷◌, ◌++◌}
use Prim.Native.Nat.{ℕ, suc, ◌<◌}
use native.Mathlib.Omega.{arith}
use lib.Dec.{T, eqb, ltb→lt, lt→ltb}
use lib.ListN.{length}
use Rattle.definitions.specs.Lists.{all}
use Rattle.definitions.specs.Checked.{value}
use Rattle.definitions_electra.specs.declared.ElectraRules.{ElectraRules}
use Rattle.definitions_electra.specs.declared.PendingDeposit.{PendingDeposit}
use Rattle.definitions_electra.specs.Record.{Registry, place_of}
use Rattle.definitions_electra.specs.Document.Electra.EpochProcessing.{is_known, add_validator_to_registry}
use Rattle.definitions_electra.specs.Evaluated.Electra.EpochProcessing.{apply_pending_deposit}
use Rattle.laws.proofs.Checked.{value_same, bound}
use Rattle.laws.proofs.Tests.{either, T_left, T_right}
use Rattle.history_electra.proofs.Front.{both}

pub all_more : {A : Type 0} (p q : A → Bool) → ((x : A) → T (p x) → T (q x)) → (xs : List A) → T (all p xs) → T (all q xs)
unfolding all
all_more p q h [] t = t
all_more p q h (x ∷ xs) t = both (q x) (all q xs) (h x (T_left (p x) (all p xs) t)) (all_more p q h xs (T_right (p x) (all p xs) t))

pub all-last : {A : Type 0} (p : A → Bool) (x : A) → T (p x) → (xs : List A) → T (all p xs) → T (all p (xs ++ (x ∷ [])))
unfolding all
all-last p x h [] t = both (p x) true h tt
all-last p x h (y ∷ xs) t = both (p y) (all p (xs ++ (x ∷ []))) (T_left (p y) (all p xs) t) (all-last p x h xs (T_right (p y) (all p xs) t))

place-more : (key k : ℕ) (ks : List ℕ) → place_of key ks < length ks → place_of key (ks ++ (k ∷ [])) < length (ks ++ (k ∷ []))
unfolding place_of
place-more key k [] l = absurd (omega arith)
place-more key k (x ∷ ks) l = go (eqb x key) l (place-more key k ks)
  where
    go : (b : Bool) → cond b 0 (suc (place_of key ks)) < suc (length ks) → (place_of key ks < length ks → place_of key (ks ++ (k ∷ [])) < length (ks ++ (k ∷ [])))
        → cond b 0 (suc (place_of key (ks ++ (k ∷ [])))) < suc (length (ks ++ (k ∷ [])))
    go true l h = omega arith
    go false l h = let m = h (omega (arith, l)) in omega (arith, m)

-- the keys of one registry are keys of the other
pub record Grows (reg more : Registry) : Type 0 where
  pub stays : (d : PendingDeposit) → T (is_known reg d) → T (is_known more d)

pub grows_none : (reg : Registry) → Grows reg reg
grows_none reg = record { stays = λ d t. t }

added : (r : ElectraRules) (reg : Registry) (d : PendingDeposit) → Grows reg (add_validator_to_registry r reg d)
unfolding add_validator_to_registry
added r reg d =
    let ks = reg.pubkeys ++ (d.pubkey ∷ []) in
    record { stays = λ x t. lt→ltb (place_of x.pubkey ks) (length ks) (place-more x.pubkey d.pubkey reg.pubkeys (ltb→lt _ _ t)) }

pub applied : (r : ElectraRules) (reg : Registry) (d : PendingDeposit) {more : Registry} → apply_pending_deposit r reg d ≡ value more → Grows reg more
unfolding apply_pending_deposit
applied r reg d =
    either (Grows reg) (is_known reg d) (λ e. let h = bound _ _ e in grown (record { stays = λ x t. t }) (value_same h.then))
    (λ e. grown (chosen (eqb d.valid 1)) (value_same e))
  where
    grown : {c b : Registry} → Grows reg c → c ≡ b → Grows reg b
    grown g e = subst (Grows reg) e g

    chosen : (b : Bool) → Grows reg (cond b (add_validator_to_registry r reg d) reg)
    chosen true = added r reg d
    chosen false = grows_none reg
