-- The pass that activates.
use mathlib.Core.Path.{◌≡◌, ap, ◌∙◌}
use mathlib.Core.List.{List}
use Prim.Native.Nat.{ℕ, ◌+◌, ◌-◌, ◌*◌, ◌≤◌, ◌<◌}
use native.Mathlib.Omega.{arith}
use lib.ListN.{length, take}
use Rattle.definitions.specs.Record.{Validator, decode_one, encode_one, decode, encode, nobody}
use Rattle.laws.proofs.Encode.{length-decode}
use Rattle.laws.proofs.Loops.Entry.{entry_at, put_at, entry-ten}
use Rattle.laws.specs.Cut.{queued_at, count, admit_one, admitted_at, admitted}
use Rattle.laws.proofs.ActivationQueue.Filter.{flag, count_none, first_more}
use Rattle.registry.proofs.activation.Places.{Placed, placed-none, placed-is, placed-more}

-- after i turns `left` is left of the quota
pub record Admitting (epoch f bound quota stop n : ℕ) (xs₀ : List ℕ) (i : ℕ) (xs : List ℕ) (left : ℕ) : Type 0 where
  pub up_to : i ≤ stop
  pub short : stop ≤ n
  pub placed : Placed (admitted_at epoch f bound quota (decode xs₀)) n xs₀ i xs
  pub rest : left ≡ quota - count (queued_at f bound) (take i (decode xs₀))

pub admitting_none : (epoch f bound quota : ℕ) {stop n : ℕ} {xs₀ : List ℕ} → length xs₀ ≡ 10 * n → stop ≤ n → Admitting epoch f bound quota stop n xs₀ 0 xs₀ quota
admitting_none epoch f bound quota {stop} {n} {xs₀} h k = record {
  up_to = omega arith;
  short = k;
  placed = placed-none (admitted_at epoch f bound quota (decode xs₀)) h;
  rest = omega (arith, count_none (queued_at f bound));
}

module _ {epoch f bound quota stop n : ℕ} {xs₀ : List ℕ} {i : ℕ} {xs : List ℕ} {left : ℕ} (g : Admitting epoch f bound quota stop n xs₀ i xs left) where
  pub admitting_all : stop ≤ i → xs ≡ encode (admitted epoch f bound quota stop (decode xs₀))
  unfolding admitted
  admitting_all l = let e : i ≡ stop = omega (arith, g.up_to) in rw (← e) g.placed.held

  module _ (l : i < stop) where
    pub admitting_ten : length (entry_at xs i) ≡ 10
    admitting_ten = entry-ten n xs i g.placed.long (omega (arith, g.short))

    pub admitting_more : {e : List ℕ} {r : ℕ} → e ≡ encode_one (admit_one epoch f bound left (decode_one (entry_at xs i))) → r ≡ left - flag (queued_at f bound (decode_one (entry_at xs i))) → Admitting epoch f bound quota stop n xs₀ (i + 1) (put_at xs i e) r
    unfolding admitted_at
    admitting_more {e} {r} h k =
        let m : i < n = omega (arith, g.short) in
        record {
          up_to = omega arith;
          short = g.short;
          placed = placed-more g.placed m (h ∙ ap (λ (q : ℕ). encode_one (admit_one epoch f bound q (decode_one (entry_at xs i)))) g.rest);
          rest = omega (arith, g.rest, k ∙ ap (λ (w : Validator). left - flag (queued_at f bound w)) (placed-is g.placed m), first_more (queued_at f bound) (decode xs₀) i nobody (omega (arith, length-decode n xs₀ g.placed.begun)));
        }
