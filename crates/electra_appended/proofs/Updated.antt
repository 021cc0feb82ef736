-- A part of the registry lent to the step of the effective balances.
use mathlib.Core.Path.{◌≡◌, ap, ◌∙◌}
use mathlib.Core.List.{List, ◌++◌}
use Prim.Native.Nat.{ℕ, ◌-◌, ◌*◌, ◌≤◌}
use native.Mathlib.Omega.{arith}
use lib.ListN.{length, take, drop}
use lib.Seq.{take_at, drop_at}
use Rattle.definitions.specs.Checked.{Checked}
use Rattle.definitions.specs.Record.{encode, decode}
use Rattle.laws.specs.Ran.{Ran}
use Rattle.laws.proofs.Encode.{length-encode, decode-encode}
use Rattle.definitions_electra.specs.declared.ElectraRules.{ElectraRules}
use Rattle.definitions_electra.specs.Evaluated.Electra.EpochProcessing.{update_effective_balances}
use Rattle.electra_appended.specs.Appended.{Updates}

pub updated : (r : ElectraRules) (n count : ℕ) (cs before : List ℕ) {e : List ℕ} {code : Checked (Unit {0})} → n ≤ count → Ran (update_effective_balances r (take (count - n) (drop n cs)) (decode (take (10 * count - 10 * n) (drop (10 * n) before)))) e code → Updates r n count cs before (take (10 * n) before ++ (e ++ drop (10 * count - 10 * n) (drop (10 * n) before)))
updated r n count cs before l h =
    record {
      updates = λ us ws rest lu lw is xs u. (
          let a : length (encode us) ≡ 10 * n = omega (arith, length-encode us, lu) in
          let b : length (encode ws) ≡ 10 * count - 10 * n = omega (arith, length-encode ws, lw, l) in
          let first : take (10 * n) before ≡ encode us = ap (take (10 * n)) is ∙ take_at (encode us) (encode ws ++ rest) (10 * n) a in
          let behind : drop (10 * n) before ≡ encode ws ++ rest = ap (drop (10 * n)) is ∙ drop_at (encode us) (encode ws ++ rest) (10 * n) a in
          let lent : decode (take (10 * count - 10 * n) (drop (10 * n) before)) ≡ ws = ap (λ (t : List ℕ). decode (take (10 * count - 10 * n) t)) behind ∙ ap decode (take_at (encode ws) rest (10 * count - 10 * n) b) ∙ decode-encode ws in
          let left : drop (10 * count - 10 * n) (drop (10 * n) before) ≡ rest = ap (drop (10 * count - 10 * n)) behind ∙ drop_at (encode ws) rest (10 * count - 10 * n) b in
          let back = h.held xs (ap (update_effective_balances r (take (count - n) (drop n cs))) lent ∙ u) in
          rw (first, left, back));
    }
