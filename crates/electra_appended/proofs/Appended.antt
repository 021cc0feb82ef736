-- Those added, from what the buffers are given one after the other.
use mathlib.Core.Path.{◌≡◌, sym, ap, ap₂, ◌∙◌}
use mathlib.Core.Bool.{cond}
use mathlib.Core.List.{List, ◌++◌, append_assoc}
use Prim.Native.Nat.{ℕ, ◌+◌, ◌-◌, ◌*◌, ◌/◌, ◌%◌, ◌≤◌, ◌<◌}
use native.Mathlib.Omega.{arith}
use lib.Dec.{eqb}
use lib.ListN.{length, get_or, take, drop, length-append, length-drop, get_or-append}
use lib.Seq.{take_at, drop-append-le, get_or-drop, get_or-append-add}
use Rattle.definitions.specs.Record.{Validator, encode, decode, nobody}
use Rattle.definitions.specs.Checked.{value}
use Rattle.laws.proofs.Encode.{length-encode, decode-encode}
use Rattle.laws.proofs.Loops.Entry.{number-at}
use Rattle.definitions_electra.specs.declared.ElectraRules.{ElectraRules}
use Rattle.definitions_electra.specs.Record.{Registry, ElectraState, decode_deposits}
use Rattle.definitions_electra.specs.Calls.{over, opening_keys}
use Rattle.definitions_electra.specs.Evaluated.Electra.EpochProcessing.{update_effective_balances}
use Rattle.electra_deposits.specs.Room.{rules_by, opening, joined, Added, Holds}
use Rattle.electra_deposits.specs.Step.{new_of}
use Rattle.electra_deposits.proofs.Joined.{behind}
use Rattle.electra_deposits.proofs.closing.Over.{over-over, front-over}
use Rattle.electra_deposits.proofs.step.Front.{encode-append, front-decoded, roomy-over}
use Rattle.electra_first.specs.Taken.{balance_at}
use Rattle.electra_last.specs.Added as last
use Rattle.electra_steps.specs.Last.{Six, six_by}
use Rattle.electra_steps.specs.Finds.{Finds}
use Rattle.electra_appended.specs.Appended.{Buffers, Updates, Appended, WritesAdded}
use Rattle.electra_appended.proofs.Six.{kept, joined-six}

module _ (r : ElectraRules) (n : ℕ) (deposits compounding : List ℕ) (index : ℕ) (xs₀ cs₀ : List ℕ) {ps xs cs ys es₀ es : List ℕ} {count : ℕ}
    (buffers : Buffers n compounding deposits xs₀ cs₀ ps)
    (added : Added (joined (rules_by (new_of r) 0) n (opening n xs₀ (over compounding cs₀)) (take index (decode_deposits deposits))) xs₀ (over compounding cs₀) xs cs count)
    (within : (n ≤ count) × (count ≤ n + length deposits / 5))
    (amounts : last.Added n count xs es₀ es) (updates : Updates r n count cs xs ys) (same : length xs ≡ length xs₀) (same-too : length ys ≡ length xs₀) where
  few : count ≤ length cs₀
  few = omega (arith, within.1, buffers.room_too)

  module _ (st : ElectraState) (f : Finds n deposits st) (credentials : st.compounding ≡ compounding) (x : Six) (z : six_by r st ≡ value x) (i : index ≡ x.processing.next_deposit_index) (bs : List Validator) (l : length bs ≡ n) (front : take (10 * n) xs₀ ≡ encode bs) where
    abbrev reg : Registry
    reg = x.processing.registry

    abbrev us : List Validator
    us = bs ++ drop n reg.validators

    opens : opening n xs₀ (over compounding cs₀) ≡ record { validators = bs; pubkeys = opening_keys n; compounding = st.compounding }
    opens =
        let a : decode (encode bs) ≡ bs = decode-encode bs in
        rw (front-decoded (length cs₀) xs₀ buffers.room n (omega (arith, buffers.room_too)), front, a, front-over compounding cs₀ n buffers.credentials, credentials)

    holds : Holds xs₀ (over compounding cs₀) (behind n bs reg) xs cs count
    holds = added.holds (behind n bs reg) (rw (opens, i) (joined-six r st f z bs l))

    count-is : count ≡ length reg.validators
    count-is = holds.count ∙ sym (kept r st f z).long

    long-us : length us ≡ count
    long-us = omega (arith, length-append bs (drop n reg.validators), length-drop n reg.validators, l, count-is, within.0)

    -- the registry before the effective balances
    parts : xs ≡ encode bs ++ (encode (drop n reg.validators) ++ drop (length (encode us)) xs₀)
    parts =
        holds.registry
        ∙ roomy-over (length cs₀) xs₀ buffers.room us count long-us few
        ∙ ap (λ (t : List ℕ). t ++ drop (length (encode us)) xs₀) (encode-append bs (drop n reg.validators))
        ∙ append_assoc (encode bs) (encode (drop n reg.validators)) (drop (length (encode us)) xs₀)

    long-credentials : length reg.compounding ≡ count
    long-credentials = (kept r st f z).long_too ∙ sym holds.count

    credentials-are : cs ≡ over reg.compounding cs₀
    credentials-are =
        holds.compounding
        ∙ ap (λ (k : ℕ). reg.compounding ++ drop k (over compounding cs₀)) (sym long-credentials)
        ∙ over-over reg.compounding compounding cs₀ (omega (arith, long-credentials, buffers.credentials, within.0))

    new-credentials : take (count - n) (drop n cs) ≡ drop n reg.compounding
    new-credentials =
        let rest = drop (length reg.compounding) cs₀ in
        let a : n ≤ length reg.compounding = omega (arith, long-credentials, within.0) in
        let b : length (drop n reg.compounding) ≡ count - n = omega (arith, length-drop n reg.compounding, long-credentials) in
        ap (λ (t : List ℕ). take (count - n) (drop n t)) credentials-are
        ∙ ap (take (count - n)) (drop-append-le n reg.compounding rest a)
        ∙ take_at (drop n reg.compounding) rest (count - n) b

    -- a balance behind the front
    balance-is : (j : ℕ) → n ≤ j → j < count → get_or xs (10 * j + 6) 0 ≡ balance_at reg.validators j
    balance-is j a b =
        let e : decode xs ≡ us ++ drop count (decode xs₀) = ap decode holds.registry ∙ decode-encode (us ++ drop count (decode xs₀)) in
        let k : length bs + (j - n) ≡ j = omega (arith, l, a) in
        let m : n + (j - n) ≡ j = omega (arith, a) in
        number-at (length cs₀) xs j (omega (arith, same, buffers.room)) (omega (arith, b, few)) 6 (omega arith)
        ∙ ap (λ (v : Validator). v.balance)
        (ap (λ (t : List Validator). get_or t j nobody) e
        ∙ get_or-append us (drop count (decode xs₀)) nobody j (omega (arith, long-us, b))
        ∙ ap (λ (q : ℕ). get_or us q nobody) (sym k)
        ∙ get_or-append-add bs (drop n reg.validators) (j - n) nobody
        ∙ get_or-drop n reg.validators (j - n) nobody
        ∙ ap (λ (q : ℕ). get_or reg.validators q nobody) m)

    rows_are : (j k : ℕ) → n ≤ j → j < count → k < 12 → get_or es (12 * j + k) 0 ≡ cond (eqb k 9) (balance_at reg.validators j) 0
    rows_are j k a b c =
        let q : (12 * j + k) / 12 ≡ j = omega (arith, c) in
        let m : (12 * j + k) % 12 ≡ k = omega (arith, c) in
        amounts.rows (12 * j + k) (omega (arith, a)) (omega (arith, b, c)) ∙ rw (q, m, balance-is j a b)

    module _ (ws : List Validator) (u : update_effective_balances r (drop n reg.compounding) (drop n reg.validators) ≡ value ws) where
      rest-is : ys ≡ encode bs ++ (encode ws ++ drop (length (encode us)) xs₀)
      rest-is = updates.updates bs (drop n reg.validators) _ l (omega (arith, length-drop n reg.validators, count-is)) parts ws (rw new-credentials u)

      long-all : length (bs ++ ws) ≡ count
      long-all =
          let rest = drop (length (encode us)) xs₀ in
          let a : length ys ≡ length (encode bs) + length (encode ws ++ rest) = ap length rest-is ∙ length-append (encode bs) (encode ws ++ rest) in
          let b = length-append (encode ws) rest in
          omega (arith, a, b, length-drop (length (encode us)) xs₀, length-encode us, long-us, length-encode bs, length-encode ws, same-too, buffers.room, few, l, length-append bs ws, within.0)

      pub appended : Appended n reg (bs ++ ws) xs₀ ys cs₀ cs es₀ es count
      appended =
          let e : length (encode us) ≡ length (encode (bs ++ ws)) = length-encode us ∙ ap (λ (k : ℕ). 10 * k) (long-us ∙ sym long-all) ∙ sym (length-encode (bs ++ ws)) in
          record {
            count = count-is;
            same = long-all;
            registry =
                rest-is ∙ sym (append_assoc (encode bs) (encode ws) (drop (length (encode us)) xs₀))
                ∙ ap₂ ◌++◌ (sym (encode-append bs ws)) (ap (λ (k : ℕ). drop k xs₀) e);
            compounding = credentials-are;
            long = amounts.long;
            front = amounts.front;
            rows = rows_are;
            behind = amounts.behind;
          }

  pub writes-added : WritesAdded r n deposits compounding index xs₀ ys cs₀ cs es₀ es count
  writes-added = record { least = within.0; within = within.1; writes = λ st f c x z i bs l front ws u. appended st f c x z i bs l front ws u }
