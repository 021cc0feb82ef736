-- A loop that keeps the smallest of a list of numbers.
use mathlib.Core.Path.{◌≡◌, refl, ap, ◌∙◌}
use mathlib.Core.List.{List}
use Prim.Native.Nat.{ℕ, ◌+◌, ◌-◌, ◌≤◌, ◌<◌, min}
use native.Mathlib.Omega.{arith}
use lib.ListN.{length, get_or, take, replicate, length-take, length-replicate, get_or-replicate}
use lib.Seq.{take_all, get_or-take}
use Rattle.definitions.specs.Record.{FAR_FUTURE_EPOCH}
use Rattle.laws.specs.Cut.{count}
use Rattle.laws.proofs.ActivationQueue.Filter.{flag, count_none, first_more}
use Rattle.selection.specs.Keep.{under, Highest, Kept, Blank, CutOf}
use Rattle.selection.proofs.Kept.{under_all, under_none, under-less}

-- ks has the smallest of the first i of ns, as many as it has places
pub record Picking (ns : List ℕ) (size i : ℕ) (ks : List ℕ) (p : ℕ) : Type 0 where
  pub up_to : i ≤ length ns
  pub places : length ks ≡ size
  pub top : Highest ks p
  pub held : (b : ℕ) → b ≤ FAR_FUTURE_EPOCH → count (under b) ks ≡ min size (count (under b) (take i ns))

pub picking_none : (ns : List ℕ) {ks : List ℕ} → Blank ks → Picking ns (length ks) 0 ks 0
picking_none ns {ks} k = record {
  up_to = omega arith;
  places = refl;
  top = record { inside = k.some; highest = λ j l. omega (arith, k.blank j l, k.blank 0 k.some) };
  held = λ b l. (let z : count (under b) ks ≡ 0 = under_none b ks (λ j m. omega (arith, k.blank j m)) in omega (arith, count_none (under b)));
}

module _ {ns : List ℕ} {size i : ℕ} {ks : List ℕ} {p : ℕ} (g : Picking ns size i ks p) where
  pub picking_more : (d : ℕ) {x : ℕ} {ls : List ℕ} {q : ℕ} → i < length ns → x ≡ get_or ns i d → Kept ks x ls q → Picking ns size (i + 1) ls q
  picking_more d {x} {ls} {q} l e k = record {
    up_to = omega arith;
    places = k.long ∙ g.places;
    top = k.top;
    held = λ b h. (let o : flag (under b x) ≡ flag (under b (get_or ns i d)) = rw e in omega (arith, g.places, g.held b h, k.lowest b, first_more (under b) ns i d l));
  }

  module _ (l : length ns ≤ i) where
    pub picking_all : (b : ℕ) → b ≤ FAR_FUTURE_EPOCH → count (under b) ks ≡ min size (count (under b) ns)
    picking_all b h = g.held b h ∙ ap (λ (ms : List ℕ). min size (count (under b) ms)) (take_all i ns l)

    -- the largest that is kept is the cut's bound, or the first epoch past the finalized one
    pub picking_cut : {f bound : ℕ} → f < FAR_FUTURE_EPOCH → bound ≡ min (get_or ks p 0) (f + 1) → CutOf size f ns bound (size - count (under bound) ks)
    picking_cut {f} {bound} r e =
        let c = picking_all bound (omega arith) in
        let s = under-less bound ks p g.top.inside (omega arith) in
        record {
          past = omega arith;
          below = omega (arith, g.places);
          reach = omega (arith, g.places);
          enough = λ m. omega (arith, g.places, picking_all (bound + 1) (omega arith), under_all (bound + 1) ks (λ j k. omega (arith, g.top.highest j k)));
        }

-- the first places of an array of FAR
pub blank-length : (limit size : ℕ) → limit ≤ size → length (take (limit - 0) (replicate size FAR_FUTURE_EPOCH)) ≡ limit
blank-length limit size h = simp (length-take, length-replicate) (omega arith)

pub blank_part : (limit size : ℕ) → 0 < limit → limit ≤ size → Blank (take (limit - 0) (replicate size FAR_FUTURE_EPOCH))
blank_part limit size p h = record {
  some = omega (arith, blank-length limit size h);
  blank = λ j l. get_or-take (limit - 0) (replicate size FAR_FUTURE_EPOCH) j 0 (omega (arith, blank-length limit size h)) ∙ get_or-replicate size j FAR_FUTURE_EPOCH 0 (omega (arith, blank-length limit size h));
}
