-- The bracket narrows, and the cut that it ends at.
use mathlib.Core.Path.{◌≡◌}
use mathlib.Core.Bool.{and-false}
use mathlib.Core.List.{List, [], ◌∷◌}
use Prim.Native.Nat.{ℕ, ◌+◌, ◌-◌, ◌≤◌, ◌<◌}
use native.Mathlib.Omega.{arith}
use borrow.Author.Tests.{lt-ltb, le-ltb, ltb-true}
use lib.Dec.{ltb, eqb}
use lib.ListN.{get_or}
use Rattle.definitions.specs.Record.{Validator, FAR_FUTURE_EPOCH}
use Rattle.laws.specs.Cut.{count, CutAt}
use Rattle.laws.proofs.ActivationQueue.Filter.{flag, count_none, count-more, count_mono}
use Rattle.selection.specs.Keep.{under, Highest, waiting_before, Smallest}
use Rattle.selection.proofs.Kept.{under-less}
use Rattle.selection.proofs.Waiting.{count-queued}
use Rattle.selection.specs.Bracket.{Bracket}
use Rattle.laws.proofs.Tests.{and_right}

waiting-grows : (a b : ℕ) (vs : List Validator) → a ≤ b → count (waiting_before a) vs ≤ count (waiting_before b) vs
unfolding waiting_before
waiting-grows a b vs h =
    count_mono (waiting_before a) (waiting_before b)
    (λ v e. and_right (eqb v.activation_epoch FAR_FUTURE_EPOCH) (ltb v.activation_eligibility_epoch a) (ltb v.activation_eligibility_epoch b) (λ t. lt-ltb _ b (omega (arith, ltb-true v.activation_eligibility_epoch a t))) e) vs

none_before : (vs : List Validator) → count (waiting_before 0) vs ≡ 0
unfolding waiting_before
none_before [] = count_none (waiting_before 0)
none_before (v ∷ vs) =
    let z : flag (waiting_before 0 v) ≡ 0 = rw (le-ltb v.activation_eligibility_epoch 0 (omega arith), and-false (eqb v.activation_epoch FAR_FUTURE_EPOCH)) in
    omega (arith, count-more (waiting_before 0) v vs, none_before vs)

-- nobody is let in
pub cut-none : {limit f : ℕ} {vs : List Validator} → limit ≡ 0 → CutAt limit f vs 0 0
cut-none {limit} {f} {vs} z = record { reach = omega (arith, count-queued f 0 (omega arith) vs, none_before vs); enough = λ l. omega arith }

-- all that are queued are
pub cut_all : {limit f bound queued : ℕ} {vs : List Validator} → bound ≡ f + 1 → queued ≡ count (waiting_before bound) vs → queued ≤ limit → CutAt limit f vs bound (limit - queued)
cut_all {limit} {f} {bound} {queued} {vs} e q l = record { reach = omega (arith, count-queued f bound (omega arith) vs); enough = λ m. absurd (omega arith) }

module _ {limit f : ℕ} {vs : List Validator} {low high before : ℕ} (g : Bracket limit f vs low high before) where
  module _ {c middle : ℕ} (e : c ≡ count (waiting_before middle) vs) (up : middle ≤ high) where
    pub bracket_hit : c ≡ limit → CutAt limit f vs middle 0
    bracket_hit h = record {
      reach = omega (arith, g.final, count-queued f middle (omega (arith, g.final)) vs);
      enough = λ l. omega (arith, count-queued f (middle + 1) (omega arith) vs, waiting-grows middle (middle + 1) vs (omega arith));
    }

    pub bracket_low : c < limit → Bracket limit f vs middle high c
    bracket_low l = record { counted = e; under = omega arith; inside = up; final = g.final; over = g.over }

    pub bracket_high : low < middle → limit ≤ c → Bracket limit f vs low (middle - 1) before
    bracket_high l m =
        let back : middle - 1 + 1 ≡ middle = omega arith in
        record {
          counted = g.counted;
          under = g.under;
          inside = omega arith;
          final = omega (arith, g.final);
          over = rw back (omega arith);
        }

  pub bracket_done : high ≤ low → CutAt limit f vs low (limit - before)
  bracket_done l = record {
    reach = omega (arith, g.counted, g.under, g.inside, g.final, count-queued f low (omega (arith, g.inside, g.final)) vs);
    enough = λ m. omega (arith, g.over, count-queued f (low + 1) (omega arith) vs, waiting-grows (high + 1) (low + 1) vs (omega arith));
  }

-- What the survey kept
module _ {vs : List Validator} {ks : List ℕ} {p : ℕ} (k : Smallest 64 vs ks) (t : Highest ks p) where
  -- how many are under a bound that the largest is not under
  pub kept-count : {bound c : ℕ} → bound ≤ get_or ks p 0 → bound ≤ FAR_FUTURE_EPOCH → c ≡ count (under bound) ks → c ≡ count (waiting_before bound) vs
  kept-count {bound} l r e = omega (arith, e, k.long, k.lowest bound r, under-less bound ks p t.inside l)

  pub kept-few : (bound : ℕ) {c : ℕ} → bound ≤ get_or ks p 0 → c ≡ count (under bound) ks → c < 64
  kept-few bound l e = omega (arith, e, k.long, under-less bound ks p t.inside l)

  -- more than the limit are queued: the bisection starts at the 64th
  pub bracket_start : {limit f c queued : ℕ} → 64 < limit → f < FAR_FUTURE_EPOCH → get_or ks p 0 ≤ f → c ≡ count (under (get_or ks p 0)) ks → queued ≡ count (waiting_before (f + 1)) vs → limit < queued → Bracket limit f vs (get_or ks p 0) f c
  bracket_start {limit} {f} {c} h r l e q m = record {
    counted = kept-count (omega arith) (omega arith) e;
    under = omega (arith, kept-few (get_or ks p 0) (omega arith) e);
    inside = l;
    final = omega arith;
    over = omega arith;
  }
