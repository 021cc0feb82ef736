-- Consolidations of all validators, by those of the opening: those added have no moves.
use mathlib.Core.Path.{◌≡◌, refl, sym, ap, ◌∙◌}
use mathlib.Core.Bool.{true}
use mathlib.Core.List.{List, ◌++◌}
use Prim.Native.Nat.{ℕ, ◌+◌, ◌-◌, ◌*◌, ◌≤◌, ◌<◌}
use native.Mathlib.Omega.{arith}
use lib.ListN.{length, get_or, take, drop, replicate, length-take, length-replicate, take-append-drop, replicate-append-replicate}
use lib.Seq.{ext_get_or}
use Rattle.definitions.specs.Lists.{all}
use Rattle.definitions.specs.Record.{Validator}
use Rattle.definitions.specs.Checked.{value, add64}
use Rattle.arithmetic.proofs.Laws.{bind-value}
use Rattle.definitions_electra.specs.declared.ElectraRules.{ElectraRules}
use Rattle.definitions_electra.specs.Record.{ElectraState, decode_consolidations}
use Rattle.definitions_electra.specs.Document.Electra.EpochProcessing.{current_epoch_of}
use Rattle.laws_electra.specs.Consolidations.{within}
use Rattle.definitions_electra_close.specs.Amounts.{Moved, consolidation_amounts}
use Rattle.laws_electra_close.proofs.Lists.{zeros}
use Rattle.laws_electra_close.proofs.Beside.{moved_beside, moves-beside}
use Rattle.electra_consolidations.specs.Moves.{column, moved_to, movements}
use Rattle.electra_consolidations.proofs.Moves.{column-long, column-at}
use Rattle.electra_twelve.specs.Twelve.{MovesIn}

-- a column by its places
pub column-is : (k n : ℕ) (xs ys : List ℕ) → length ys ≡ n → ((i : ℕ) → i < n → get_or xs (12 * i + k) 0 ≡ get_or ys i 0) → column k n xs ≡ ys
column-is k n xs ys long h = ext_get_or 0 (column k n xs) ys (column-long k n xs ∙ sym long) (λ i l. at i (omega (arith, l, column-long k n xs)))
  where
    at : (i : ℕ) → i < n → get_or (column k n xs) i 0 ≡ get_or ys i 0
    at i l = column-at k n xs i l ∙ h i l

pub column-same : (k n : ℕ) (xs ys : List ℕ) → ((i : ℕ) → i < n → get_or xs (12 * i + k) 0 ≡ get_or ys (12 * i + k) 0) → column k n xs ≡ column k n ys
column-same k n xs ys h = column-is k n xs (column k n ys) (column-long k n ys) (λ i l. h i l ∙ sym (column-at k n ys i l))

-- rows that have the two columns of those that the loop left
pub moves_in : (n next : ℕ) (vs : List Validator) (pairs before after xs : List ℕ) {us : List Validator} {c : ℕ} → movements next n vs pairs before ≡ value (moved_to n us c after) → ((i k : ℕ) → i < n → 10 ≤ k → k < 12 → get_or before (12 * i + k) 0 ≡ 0) → ((i k : ℕ) → i < n → 10 ≤ k → k < 12 → get_or after (12 * i + k) 0 ≡ get_or xs (12 * i + k) 0) → MovesIn n next vs (decode_consolidations pairs) xs
unfolding movements
moves_in n next vs pairs before after xs {us} {c} e z h =
    record {
      lent = before;
      none = z;
      moved = us;
      count = c;
      booked = e ∙ rw (column-same 10 n after xs (λ i l. h i 10 l (omega arith) (omega arith)), column-same 11 n after xs (λ i l. h i 11 l (omega arith) (omega arith))) refl;
    }

module _ (r : ElectraRules) (st : ElectraState) (n next : ℕ) (xs : List ℕ) (placed : all (within n) st.pending_consolidations ≡ true) (least : n ≤ length st.altair.validators) (is : add64 (current_epoch_of r st) 1 ≡ value next) (m : MovesIn n next (take n st.altair.validators) st.pending_consolidations xs) where
  abbrev vs : List Validator
  vs = st.altair.validators

  abbrev behind : List ℕ
  behind = replicate (length st.altair.validators - n) 0

  none : (k : ℕ) → 10 ≤ k → k < 12 → column k n m.lent ++ replicate (length st.altair.validators - n) 0 ≡ replicate (length st.altair.validators) 0
  none k a b =
      let zero-column : column k n m.lent ≡ replicate n 0 = column-is k n m.lent (replicate n 0) (length-replicate n 0) (λ i l. m.none i k l a b ∙ sym (zeros n i)) in
      let e : n + (length vs - n) ≡ length vs = omega (arith, least) in
      ap (λ (c : List ℕ). c ++ behind) zero-column ∙ replicate-append-replicate n (length vs - n) 0 ∙ ap (λ (k : ℕ). replicate k 0) e

  abbrev pub all_moved : Moved
  all_moved = moved_beside n (drop n st.altair.validators) (replicate (length st.altair.validators - n) 0) (moved_to n m.moved m.count xs)

  pub moved_all : consolidation_amounts r st ≡ value all_moved
  unfolding consolidation_amounts
  moved_all =
      let front : length (take n vs) ≡ n = simp length-take (omega (arith, least)) in
      let loop = moves-beside n (drop n vs) behind next (moved_to n (take n vs) 0 m.lent) st.pending_consolidations (record { validators = record { many = front }; out = column-long 10 n m.lent; into = column-long 11 n m.lent }) placed in
      bind-value _ is ∙ (rw (take-append-drop n vs, none 10 (omega arith) (omega arith), none 11 (omega arith) (omega arith)) at loop) ∙ bind-value _ m.booked
