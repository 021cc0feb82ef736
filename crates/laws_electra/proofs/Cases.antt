-- Cases of a test, and of a computation by the number of its refusal: to go on without a function of its own for each.
use mathlib.Core.Path.{◌≡◌, refl}
use mathlib.Core.Bool.{Bool, true, false, cond}
use Prim.Native.Nat.{ℕ, ◌≤◌, ◌<◌}
use native.Mathlib.Omega.{arith}
use native.Mathlib.Decide.{ℕ_discrete, dec_lt}
use Rattle.definitions.specs.Checked.{Checked, value, refused, bind, code_of}
use Rattle.definitions.specs.declared.Refusal.{Refusal}
use Rattle.laws.proofs.Checked.{number_not_zero}

pub same_or : {P : Type 0} (a b : ℕ) → (a ≡ b → P) → ((a ≡ b → ⊥) → P) → P
same_or a b f g = elim (ℕ_discrete a b) [ yes e ↦ f e | no e ↦ g e ]

pub less_or : {P : Type 0} (a b : ℕ) → (a < b → P) → (b ≤ a → P) → P
less_or a b f g = elim (dec_lt a b) [ yes l ↦ f l | no l ↦ g (omega arith) ]

pub test_or : {P : Type 0} (t : Bool) → (t ≡ true → P) → (t ≡ false → P) → P
test_or true f g = f refl
test_or false f g = g refl

-- which of two computations gave a value
pub whichever : {A P : Type 0} (t : Bool) {m n : Checked A} {a : A} → cond t m n ≡ value a → (t ≡ true → m ≡ value a → P) → (t ≡ false → n ≡ value a → P) → P
whichever true e f g = f refl e
whichever false e f g = g refl e

-- what was given, or why it is refused

pub record Gives {A : Type 0} (m : Checked A) : Type 0 where
  pub first : A
  pub gave : m ≡ value first

pub gives : {A : Type 0} (m : Checked A) → code_of m ≡ 0 → Gives m
gives (value a) z = record { first = a; gave = refl }
gives (refused p) z = absurd (number_not_zero p z)

pub record Refuses {A : Type 0} (m : Checked A) : Type 0 where
  pub why : Refusal
  pub is : m ≡ refused why

pub refuses : {A : Type 0} (m : Checked A) → (code_of m ≡ 0 → ⊥) → Refuses m
refuses (value a) z = absurd (z refl)
refuses (refused p) z = record { why = p; is = refl }

-- with bind-bind of laws, `simp` brings a chain of computations into one form
pub bind-given : {A B : Type 0} (a : A) (k : A → Checked B) → bind (value a) k ≡ k a
unfolding bind
bind-given a k = refl
