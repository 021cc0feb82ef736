-- The end of a close: the queues, those added, and the last two steps.
use mathlib.Core.Path.{◌≡◌, sym, ap, ◌∙◌}
use mathlib.Core.List.{List, ◌++◌}
use Prim.Native.Nat.{ℕ, ◌-◌, ◌*◌, ◌/◌}
use native.Mathlib.Omega.{arith}
use lib.ListN.{length, take, drop, length-map}
use lib.Seq.{length-take-le, take-append_seam, drop-append_seam}
use Rattle.definitions.specs.Record.{Validator, encode, decode}
use Rattle.definitions.specs.Checked.{value}
use Rattle.definitions.specs.Rust.Phase0.EpochProcessing.{reset_slashings}
use Rattle.definitions.specs.Rust.Altair.EpochProcessing.{process_participation_flag_updates}
use Rattle.laws.proofs.Checked.{value_same, bound}
use Rattle.laws.proofs.Encode.{length-encode, decode-encode}
use Rattle.definitions_electra.specs.declared.ElectraRules.{ElectraRules}
use Rattle.definitions_electra.specs.Record.{ElectraState}
use Rattle.definitions_electra.specs.Calls.{over}
use Rattle.definitions_electra.specs.Evaluated.Electra.EpochProcessing.{update_effective_balances}
use Rattle.electra_steps.specs.Last.{under, Six, after_six, Eight, eight_by, seven_eight, after_eight, after_ten}
use Rattle.electra_appended.specs.Appended.{WritesAdded}
use Rattle.electra_queues.specs.declared.Queues.{Queues}
use Rattle.electra_queues.specs.Queues.{WritesQueues}
use Rattle.electra_close.specs.Finish.{rotated_to, FinishLent, Reached, Ended, Finishes}

-- as `registry[0..b]` comes back
pub front-rotated : (b : ℕ) (xs : List ℕ) {e : List ℕ} → e ≡ encode (process_participation_flag_updates (decode (take (b - 0) xs))) → e ++ drop (b - 0) xs ≡ rotated_to b xs
front-rotated b xs h = let z : b - 0 ≡ b = omega arith in rw (h, z)

-- flags at the front of what stands there
rotated : (all : List Validator) (xs₀ : List ℕ) {xs : List ℕ} {count : ℕ} → xs ≡ over (encode all) xs₀ → length all ≡ count → rotated_to (10 * count) xs ≡ over (encode (process_participation_flag_updates all)) xs₀
unfolding process_participation_flag_updates
rotated all xs₀ {xs} {count} is many =
    let long : length (encode all) ≡ 10 * count = length-encode all ∙ ap (λ (k : ℕ). 10 * k) many in
    let front : take (10 * count) xs ≡ encode all = rw (is, ← long) (take-append_seam (encode all) (drop (length (encode all)) xs₀)) in
    let back : drop (10 * count) xs ≡ drop (10 * count) xs₀ = rw is (ap (λ (k : ℕ). drop k (encode all ++ drop (length (encode all)) xs₀)) (sym long) ∙ drop-append_seam (encode all) (drop (length (encode all)) xs₀) ∙ ap (λ (k : ℕ). drop k xs₀) long) in
    let all_same : length (encode (process_participation_flag_updates all)) ≡ 10 * count = length-encode (process_participation_flag_updates all) ∙ ap (λ (k : ℕ). 10 * k) (length-map all _ ∙ many) in
    rw (front, decode-encode all, back, all_same)

-- those added, of steps 7 and 8
added_of : (r : ElectraRules) (n : ℕ) (st : ElectraState) (x : Six) {y : Eight} → seven_eight r n st x ≡ value y → update_effective_balances r (drop n x.processing.registry.compounding) (drop n x.processing.registry.validators) ≡ value y.added
unfolding eight_by
added_of r n st x e =
    let a = bound _ _ e in
    let b = bound _ _ a.then in
    let c = bound _ _ b.then in
    let d = bound _ _ c.then in
    rw (← value_same d.then) d.gave

module _ (r : ElectraRules) (slot next index done : ℕ) (compounding slashings deposits pairs : List ℕ) {registry₀ compounding₀ slashings₀ deposits₀ pairs₀ amounts₀ places₀ : List ℕ}
    (lent : FinishLent r slot index done compounding slashings deposits pairs registry₀ compounding₀ slashings₀ deposits₀ pairs₀ amounts₀ places₀) where
  abbrev n : ℕ
  n = length compounding

  fronts : length (take (10 * n) registry₀) ≡ 10 * n
  fronts = length-take-le (10 * n) registry₀ (omega (arith, lent.registry))

  module _ {deposits₁ pairs₁ : List ℕ} {q : Queues} (queues : WritesQueues next (take (10 * n) registry₀) deposits pairs index done deposits₀ deposits₁ pairs₀ pairs₁ q)
      {xs compounding₁ amounts₁ : List ℕ} {count : ℕ} (adds : WritesAdded r n deposits compounding index registry₀ xs compounding₀ compounding₁ amounts₀ amounts₁ count)
      {slashings₁ registry₁ : List ℕ} (resets : slashings₁ ≡ reset_slashings (under r) slot slashings) (rotates : registry₁ ≡ rotated_to (10 * count) xs) where
    pub finishes : Finishes r slot next index done compounding slashings deposits pairs registry₀ registry₁ compounding₀ compounding₁ slashings₁ deposits₀ deposits₁ pairs₀ pairs₁ amounts₀ amounts₁ (record { validators = count; deposits = q.deposits; consolidations = q.consolidations })
    unfolding process_participation_flag_updates
    finishes = record { ends = ended }
      where
        ended : (st : ElectraState) (x : Six) (y : Eight) → Reached r st x y slot next index done compounding slashings deposits pairs registry₀ → Ended n x.processing.registry (after_ten r (after_eight (after_six st x) y)) registry₀ registry₁ compounding₀ compounding₁ slashings₁ deposits₀ deposits₁ pairs₀ pairs₁ amounts₀ amounts₁ (record { validators = count; deposits = q.deposits; consolidations = q.consolidations })
        ended st x y h =
            let tenth : length (take (10 * n) registry₀) / 10 ≡ n = omega (arith, fronts) in
            let many : length y.balanced ≡ n = (let l = length-encode y.balanced in let c = ap length h.front in omega (arith, l, c, fronts)) in
            let a = adds.writes st h.finds h.credentials x h.six h.deposited y.balanced many h.front y.added (added_of r n st x h.eight) in
            let k = queues.writes r st x y (record { finds = rw tenth h.finds; queue = h.queue; six = h.six; eight = rw tenth h.eight; next = h.next; deposited = h.deposited; consolidated = h.consolidated; left = h.front }) in
            record {
              validators = rotates ∙ rotated (y.balanced ++ y.added) registry₀ a.registry a.same;
              credentials = a.compounding;
              reset = resets ∙ rw (h.slashed, h.slot);
              queue = k.deposits;
              rest = k.consolidations;
              many = sym a.same ∙ sym (length-map (y.balanced ++ y.added) _);
              left = k.many;
              kept = k.many_too;
              count = a.count;
              least = adds.least;
              room = omega (arith, adds.within, lent.rows);
              long = a.long;
              front = a.front;
              rows = a.rows;
              behind = a.behind;
            }
