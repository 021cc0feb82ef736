-- Waiting and standing before, as facts about the numbers.
use mathlib.Core.Path.{◌≡◌, subst, subst₂}
use mathlib.Core.Bool.{Bool, true, false, ◌&&◌, ◌||◌}
use mathlib.Core.List.{List}
use Prim.Native.Nat.{ℕ, ◌≤◌, ◌<◌}
use native.Mathlib.Omega.{arith}
use lib.Dec.{T, leb, ltb, eqb, ltb→lt, lt→ltb, leb→le, le→leb, eqb→eq, eqb_refl}
use lib.ListN.{length}
use Rattle.definitions.specs.Record.{Validator, FAR_FUTURE_EPOCH}
use Rattle.history.proofs.Waiting.{eligibility_at, activation_at, waits, earlier}
use Rattle.laws.proofs.ActivationQueue.Rank.{StrictTotal}
use Rattle.laws.proofs.ActivationQueue.Dequeued.{queue-order}
use Rattle.laws.proofs.Tests.{and_T, T_left, T_right}

-- what waiting says
pub record Waits (f : ℕ) (vs : List Validator) (i : ℕ) : Type 0 where
  pub there : i < length vs
  pub eligible : eligibility_at vs i ≤ f
  pub inactive : activation_at vs i ≡ FAR_FUTURE_EPOCH

pub from-waits : (f : ℕ) (vs : List Validator) (i : ℕ) → T (waits f vs i) → Waits f vs i
unfolding waits
from-waits f vs i t =
    let a = ltb i (length vs) in
    let b = leb (eligibility_at vs i) f in
    let c = eqb (activation_at vs i) FAR_FUTURE_EPOCH in
    record {
      there = ltb→lt i (length vs) (T_left a (b && c) t);
      eligible = leb→le (eligibility_at vs i) f (T_left b c (T_right a (b && c) t));
      inactive = eqb→eq (activation_at vs i) FAR_FUTURE_EPOCH (T_right b c (T_right a (b && c) t));
    }

pub to-waits : (f : ℕ) (vs : List Validator) (i : ℕ) → Waits f vs i → T (waits f vs i)
unfolding waits
to-waits f vs i w =
    let a = ltb i (length vs) in
    let b = leb (eligibility_at vs i) f in
    let c = eqb (activation_at vs i) FAR_FUTURE_EPOCH in
    and_T a (b && c) (lt→ltb i (length vs) w.there)
    (and_T b c (le→leb (eligibility_at vs i) f w.eligible) (subst (λ (x : ℕ). T (eqb (activation_at vs i) x)) w.inactive (eqb_refl (activation_at vs i))))

-- the order of the statement, between two validators, is that of the registry step's queue
abbrev pub before : List Validator → ℕ → ℕ → Bool
before vs j i = earlier (eligibility_at vs j) j (eligibility_at vs i) i

pub strict : (vs : List Validator) → StrictTotal (before vs)
strict vs = queue-order vs

-- who stands before has no later eligibility epoch
pub earlier-low : (a j b i : ℕ) → T (earlier a j b i) → a ≤ b
earlier-low a j b i t = go (ltb a b) (ltb→lt a b) t
  where
    go : (c : Bool) → (T c → a < b) → T (c || (eqb a b && ltb j i)) → a ≤ b
    go true h u = let l = h tt in omega arith
    go false h u = let e = eqb→eq a b (T_left (eqb a b) (ltb j i) u) in omega arith

pub earlier-same : {a a' b b' : ℕ} (j i : ℕ) → a ≡ a' → b ≡ b' → T (earlier a j b i) → T (earlier a' j b' i)
earlier-same j i p q t = subst₂ (λ (x y : ℕ). T (earlier x j y i)) p q t
