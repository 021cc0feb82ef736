-- A loop that stores one after the other: what is left to store makes of the list what all of it makes of the list before.
use mathlib.Core.Path.{◌≡◌, refl, sym, ap, ◌∙◌}
use mathlib.Core.List.{List, [], ◌∷◌, ◌++◌, append-nil, append_assoc}
use Prim.Native.Nat.{ℕ, suc, ◌+◌, ◌≤◌}
use native.Mathlib.Omega.{arith}
use lib.ListN.{length, set, take, length-set, length-append, drop_of_length-le}
use lib.Seq.{sets, length-sets, sets-eq, drop-drop}
use borrow.Rule.Slice.PartMut.{put_mid}

pub sets-append : (xs : List ℕ) (i : ℕ) (ys zs : List ℕ) → sets xs i (ys ++ zs) ≡ sets (sets xs i ys) (i + length ys) zs
sets-append xs i [] zs = let e : i + 0 ≡ i = omega arith in rw e
sets-append xs i (y ∷ ys) zs = let e : i + suc (length ys) ≡ suc i + length ys = omega arith in rw e (sets-append (set xs i y) (suc i) ys zs)

pub sets-whole : (xs ys : List ℕ) → length ys ≡ length xs → sets xs 0 ys ≡ ys
sets-whole xs ys e =
    let l : length xs ≤ 0 + length ys = omega arith in
    sets-eq ys xs 0 (omega arith) ∙ ap (λ (t : List ℕ). ys ++ t) (drop_of_length-le xs l) ∙ append-nil ys

-- copied into the part of the list from an index on
pub sets-copied : (xs ys : List ℕ) (i k : ℕ) {zs : List ℕ} → zs ≡ ys → k ≡ length ys → i + length ys ≤ length xs → put_mid i k xs zs ≡ sets xs i ys
sets-copied xs ys i k e n l = rw (e, n, drop-drop, ← append_assoc (take i xs) ys) (sym (sets-eq ys xs i l))

pub record Storing (before : List ℕ) (at : ℕ) (all xs : List ℕ) (i : ℕ) (left : List ℕ) : Type 0 where
  pub as_long : length xs ≡ length before
  pub leads : sets xs i left ≡ sets before at all

pub storing-none : (before : List ℕ) (at : ℕ) (all : List ℕ) (i : ℕ) → at ≡ i → Storing before at all before i all
storing-none before at all i e = record { as_long = refl; leads = rw (← e) }

module _ {before : List ℕ} {at : ℕ} {all xs : List ℕ} {i : ℕ} {left : List ℕ} (s : Storing before at all xs i left) where
  pub storing-one : (v : ℕ) (rest : List ℕ) (j : ℕ) → left ≡ v ∷ rest → suc i ≡ j → Storing before at all (set xs i v) j rest
  storing-one v rest j e n =
      record { as_long = length-set xs i v ∙ s.as_long; leads = rw (← n) (ap (sets xs i) (sym e) ∙ s.leads) }

  pub storing-part : (part rest : List ℕ) (j : ℕ) → left ≡ part ++ rest → i + length part ≡ j → Storing before at all (sets xs i part) j rest
  storing-part part rest j e n =
      record {
        as_long = length-sets xs i part ∙ s.as_long;
        leads = rw (← n) (sym (sets-append xs i part rest) ∙ ap (sets xs i) (sym e) ∙ s.leads);
      }

  pub storing-all : left ≡ [] → xs ≡ sets before at all
  storing-all e = ap (sets xs i) (sym e) ∙ s.leads

-- Straight code: n from an index on are stored, and then what stands behind them

pub record Stored (before : List ℕ) (at : ℕ) (all : List ℕ) (n : ℕ) (xs : List ℕ) : Type 0 where
  pub long : length all ≡ n
  pub is : xs ≡ sets before at all

pub stored-first : (before : List ℕ) (at : ℕ) (all : List ℕ) {n : ℕ} {xs : List ℕ} → length all ≡ n → xs ≡ sets before at all → Stored before at all n xs
stored-first before at all e p = record { long = e; is = p }

pub stored_more : {before : List ℕ} {at : ℕ} {all : List ℕ} {n : ℕ} {xs : List ℕ} {i m k : ℕ} {ys : List ℕ} → Stored before at all n xs → (part : List ℕ) → length part ≡ m → n + m ≡ k → at + n ≡ i → ys ≡ sets xs i part → Stored before at (all ++ part) k ys
stored_more {before} {at} {all} {n} {xs} {i} {m} {k} {ys} s part e f g p =
    record {
      long = length-append all part ∙ omega (arith, s.long);
      is = p ∙ rw (← g, ← s.long, s.is) (sym (sets-append before at all part));
    }
