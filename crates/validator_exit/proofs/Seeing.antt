-- The pass: those seen so far have passed test 3, the active among them are counted, and the pair is theirs.
use mathlib.Core.Path.{◌≡◌, refl, ap, ◌∙◌}
use mathlib.Core.Bool.{Bool, true, false, cond}
use mathlib.Core.List.{List}
use Prim.Native.Nat.{ℕ, ◌+◌, ◌*◌, ◌≤◌, ◌<◌}
use native.Mathlib.Omega.{arith}
use lib.ListN.{length, get_or, take, length-take}
use Rattle.definitions.specs.Lists.{filter}
use Rattle.definitions.specs.Record.{Validator, decode_one, decode}
use Rattle.definitions.specs.Refusals.{good_validator, good_registry}
use Rattle.definitions.specs.Rust.Phase0.Helpers.{is_active_validator, get_active_validator_indices}
use Rattle.laws.proofs.Loops.Entry.{entry_at}
use Rattle.laws.proofs.Loops.Filtered.{filter-last, filter_le}
use Rattle.laws.proofs.Loops.Reading.{prefix_all, prefix_more}
use Rattle.laws.proofs.Loops.Tested.{Tested, tested-none, tested-more, tested-stop, tested-all}
use Rattle.definitions.specs.declared.ExitQueue.{ExitQueue}
use Rattle.definitions.specs.declared.Refusal.TheVariants.{BadRecord}
use Rattle.definitions.specs.Checked.{value, refused}
use Rattle.exit_queue.specs.Queue.{joined}
use Rattle.exit_queue.proofs.QueueOf.{Tracking, tracking_none, tracking_more, tracking_all}
use Rattle.validator_exit.specs.Exits.{sees}

pub record Seeing (epoch n : ℕ) (xs : List ℕ) (i active : ℕ) (q : ExitQueue) : Type 0 where
  pub good : Tested good_validator n xs i
  pub number : active ≡ length (filter (λ v. is_active_validator v epoch) (take i (decode xs)))
  pub pair : Tracking n xs i q

pub seeing_none : (epoch : ℕ) {n : ℕ} {xs : List ℕ} → length xs ≡ 10 * n → Seeing epoch n xs 0 0 (record { last_epoch = 0; number = 0 })
unfolding filter
seeing_none epoch h = record { good = tested-none good_validator h; number = refl; pair = tracking_none h }

module _ {epoch n : ℕ} {xs : List ℕ} {i active : ℕ} {q : ExitQueue} (g : Seeing epoch n xs i active q) where
  pub seeing_few : active ≤ i
  seeing_few = omega (arith, g.number, filter_le (λ v. is_active_validator v epoch) (take i (decode xs)), length-take i (decode xs))

  -- test 3 of this validator is b
  module _ (l : i < n) {b : Bool} (e : b ≡ good_validator (decode_one (entry_at xs i))) where
    pub seeing_more : b ≡ true → {on : Bool} {count : ℕ} {r : ExitQueue} → on ≡ is_active_validator (decode_one (entry_at xs i)) epoch → count ≡ active + cond on 1 0 → r ≡ joined q (get_or xs (10 * i + 4) 0) → Seeing epoch n xs (i + 1) count r
    seeing_more t {on} a k h =
        let one = filter-last (λ v. is_active_validator v epoch) (take i (decode xs)) (decode_one (entry_at xs i)) in
        record {
          good = tested-more g.good l e t;
          number = rw (prefix_more g.good.at l, one, ← a, ← g.number) k;
          pair = tracking_more g.pair l h;
        }

    pub seeing_stop : b ≡ false → refused BadRecord ≡ sees epoch xs
    unfolding good_registry sees
    seeing_stop f = rw (← tested-stop g.good l e f)

  pub seeing_all : n ≤ i → value (record { active = active; queue = q }) ≡ sees epoch xs
  unfolding good_registry sees get_active_validator_indices
  seeing_all l =
      let number : active ≡ length (filter (λ v. is_active_validator v epoch) (decode xs)) = g.number ∙ ap (λ (vs : List Validator). length (filter (λ v. is_active_validator v epoch) vs)) (prefix_all g.good.at l) in
      rw (← tested-all g.good l, number, tracking_all g.pair l)
