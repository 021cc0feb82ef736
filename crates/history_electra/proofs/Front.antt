-- The first deposits of a queue, by amounts and slots.
use mathlib.Core.Path.{◌≡◌, refl, ap, ◌∙◌}
use mathlib.Core.Bool.{Bool, true, false, ◌&&◌}
use mathlib.Core.List.{List, [], ◌∷◌, ◌++◌}
use Prim.Native.Nat.{ℕ, zero, suc, ◌+◌, ◌≤◌, ◌<◌}
use native.Mathlib.Omega.{arith}
use lib.Dec.{T, leb, leb→le, le→leb}
use lib.ListN.{length, take, drop}
use Rattle.definitions.specs.Lists.{all, sum}
use Rattle.definitions_electra.specs.declared.PendingDeposit.{PendingDeposit}
use Rattle.laws.proofs.Tests.{T_left, T_right}
use Rattle.history_electra.specs.Events.{amounts, slots_at_most, Follows}

abbrev pub Deposits : Type 0
Deposits = List PendingDeposit

-- the first amount
abbrev pub head_amount : Deposits → ℕ
head_amount [] = 0
head_amount (d ∷ ds) = d.amount

pub head-least : (ds : Deposits) → head_amount ds ≤ amounts ds
unfolding sum
head-least [] = omega arith
head-least (d ∷ ds) = omega arith

pub amounts-split : (n : ℕ) (ds : Deposits) → amounts ds ≡ amounts (take n ds) + amounts (drop n ds)
unfolding sum
amounts-split zero ds = omega arith
amounts-split (suc n) [] = refl
amounts-split (suc n) (d ∷ ds) = omega (arith, amounts-split n ds)

-- the first is among those taken
pub head-taken : (n : ℕ) (ds : Deposits) → 1 ≤ n → head_amount ds ≤ amounts (take n ds)
unfolding sum
head-taken zero ds l = absurd (omega arith)
head-taken (suc n) [] l = omega arith
head-taken (suc n) (d ∷ ds) l = omega arith

pub both : (a b : Bool) → T a → T b → T (a && b)
both true b p q = q
both false b p q = absurd p

-- Slots

pub slot-first : (f : ℕ) (d : PendingDeposit) (ds : Deposits) → T (slots_at_most f (d ∷ ds)) → d.slot ≤ f
unfolding all
slot-first f d ds t = leb→le d.slot f (T_left (leb d.slot f) (slots_at_most f ds) t)

pub slots-rest : (f : ℕ) (d : PendingDeposit) (ds : Deposits) → T (slots_at_most f (d ∷ ds)) → T (slots_at_most f ds)
unfolding all
slots-rest f d ds t = T_right (leb d.slot f) (slots_at_most f ds) t

pub slots-drop : (f n : ℕ) (ds : Deposits) → T (slots_at_most f ds) → T (slots_at_most f (drop n ds))
unfolding all
slots-drop f zero ds t = t
slots-drop f (suc n) [] t = t
slots-drop f (suc n) (d ∷ ds) t = slots-drop f n ds (slots-rest f d ds t)

pub slots-later : (f g : ℕ) → f ≤ g → (ds : Deposits) → T (slots_at_most f ds) → T (slots_at_most g ds)
unfolding all
slots-later f g l [] t = t
slots-later f g l (d ∷ ds) t = both (leb d.slot g) (slots_at_most g ds) (le→leb d.slot g (omega (arith, l, slot-first f d ds t))) (slots-later f g l ds (slots-rest f d ds t))

-- What a queue begins with

pub follows-take : (n : ℕ) (ds : Deposits) → Follows (take n ds) ds
follows-take zero ds = tt
follows-take (suc n) [] = tt
follows-take (suc n) (d ∷ ds) = (refl, refl, follows-take n ds)

pub follows-all : (ds : Deposits) → Follows ds ds
follows-all [] = tt
follows-all (d ∷ ds) = (refl, refl, follows-all ds)

pub follows_both : (xs ds es : Deposits) → Follows xs ds → Follows ds es → Follows xs es
follows_both [] ds es a b = tt
follows_both (x ∷ xs) [] es a b = absurd a
follows_both (x ∷ xs) (d ∷ ds) [] a b = absurd b
follows_both (x ∷ xs) (d ∷ ds) (e ∷ es) a b = (b.0 ∙ a.0, b.1 ∙ a.1, follows_both xs ds es a.2 b.2)

-- moved on
pub follows_on : (n : ℕ) (xs ds more : Deposits) → Follows xs ds → n ≤ length xs → Follows (drop n xs) (drop n ds ++ more)
follows_on zero xs ds more a l = follows-front xs ds a
  where
    follows-front : (xs ds : Deposits) → Follows xs ds → Follows xs (ds ++ more)
    follows-front [] ds a = tt
    follows-front (x ∷ xs) [] a = absurd a
    follows-front (x ∷ xs) (d ∷ ds) a = (a.0, a.1, follows-front xs ds a.2)
follows_on (suc n) [] ds more a l = tt
follows_on (suc n) (x ∷ xs) [] more a l = absurd a
follows_on (suc n) (x ∷ xs) (d ∷ ds) more a l = follows_on n xs ds more a.2 (omega arith)

pub length_upto : (k : ℕ) (ds : Deposits) → k < length ds → length (take (suc k) ds) ≡ suc k
length_upto k [] l = absurd (omega arith)
length_upto zero (d ∷ ds) l = refl
length_upto (suc k) (d ∷ ds) l = ap suc (length_upto k ds (omega arith))
