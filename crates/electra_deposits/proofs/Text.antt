-- The text's loop over lent lists: by the loop over the opening's validators, by those added behind, and by the closing queue.
use mathlib.Core.Path.{◌≡◌, refl, sym, ◌∙◌}
use mathlib.Core.List.{List, [], ◌++◌}
use Prim.Native.Nat.{ℕ, ◌*◌, ◌/◌, ◌≤◌, ◌<◌}
use native.Mathlib.Omega.{arith}
use lib.ListN.{length, take, drop, take-append-drop, drop_of_length-le}
use lib.Seq.{ext_get_or, get_or-take, length-take-le}
use Rattle.definitions.specs.Lists.{filter, range}
use Rattle.definitions.specs.Record.{Validator, FAR_FUTURE_EPOCH, decode, nobody}
use Rattle.definitions.specs.Checked.{Checked, value}
use Rattle.laws.proofs.Encode.{length-decode}
use Rattle.laws_electra.proofs.Deposits.{length-deposits}
use Rattle.definitions_electra.specs.declared.PendingDeposit.{PendingDeposit}
use Rattle.definitions_electra.specs.Record.{Registry, decode_deposits}
use Rattle.definitions_electra.specs.Document.Electra.Helpers.{get_max_effective_balance}
use Rattle.definitions_electra.specs.Document.Electra.EpochProcessing.{Processing, get_validator_from_deposit, add_validator_to_registry, started}
use Rattle.definitions_electra.specs.Evaluated.Electra.EpochProcessing.{apply_pending_deposit}
use Rattle.electra_deposits.specs.declared.adding.NewNumbers.{NewNumbers}
use Rattle.electra_deposits.specs.declared.QueueNumbers.{QueueNumbers}
use Rattle.electra_deposits.specs.Alone.{Running, running, queueing_of, alone, is_postponed}
use Rattle.electra_deposits.specs.Room.{rules_by, joins, joined}
use Rattle.electra_deposits.specs.Step.{lent_registry, text_by}
use Rattle.electra_deposits.proofs.Alike.{Alike}
use Rattle.electra_deposits.proofs.Postponed.{Kept, kept-none, Done, loop-done, with_none}
use Rattle.electra_deposits.proofs.Twin.{Twin, pair-start, loop-twin}
use Rattle.electra_deposits.proofs.Joined.{loop-joins}

-- the same, whatever the number of deposits looked at
rules-same : (k : NewNumbers) (most n : ℕ) (reg : Registry) (ds : List PendingDeposit) → joined (rules_by k most) n reg ds ≡ joined (rules_by k 0) n reg ds
unfolding joined joins apply_pending_deposit add_validator_to_registry get_validator_from_deposit get_max_effective_balance
rules-same k most n reg ds = refl

module _ (k : NewNumbers) (q : QueueNumbers) (registry compounding deposits : List ℕ) (tens : length registry ≡ 10 * (length registry / 10)) (credentials : length compounding ≡ length registry / 10) where
  abbrev pub text : Checked Processing
  text = text_by (rules_by k q.most) (queueing_of q) (lent_registry registry compounding) (decode_deposits deposits)

  long : length (decode registry) ≡ length registry / 10
  long = length-decode (length registry / 10) registry tens

  kept : Kept (length registry / 10) (decode registry) (lent_registry registry compounding)
  kept = rw long (kept-none (length registry / 10) (decode registry) compounding long credentials)

  -- What the text's loop leaves
  module _ {p : Processing} (z : text ≡ value p) where
    pub done : Done (length registry / 10) (decode registry) (queueing_of q) (started (lent_registry registry compounding)) (decode_deposits deposits) p
    unfolding text_by
    done = loop-done (rules_by k q.most) (queueing_of q) kept (decode_deposits deposits) z

    pub within : p.next_deposit_index ≤ length deposits / 5
    within = omega (arith, done.index, done.within, length-deposits deposits)

    pub postponed : p.deposits_to_postpone ≡ filter (is_postponed (length registry / 10) q.next_epoch (decode registry)) (take p.next_deposit_index (decode_deposits deposits))
    postponed =
        let c : done.count ≡ p.next_deposit_index = omega (arith, done.index) in
        rw (← c) done.postponed

    -- those added behind vs, which stand in the first of them
    pub joined_is : (vs : List Validator) → vs ≡ take (length registry / 10) p.registry.validators → length vs ≡ length registry / 10 → joined (rules_by k 0) (length registry / 10) (record { validators = vs; pubkeys = range 0 (length registry / 10); compounding = compounding }) (take p.next_deposit_index (decode_deposits deposits)) ≡ value p.registry
    unfolding text_by
    joined_is vs e l =
        let n = length registry / 10 in
        let short : length (decode registry) ≤ n = omega (arith, long) in
        let none : drop n (decode registry) ≡ [] = drop_of_length-le (decode registry) short in
        let t = loop-joins vs l (rules_by k q.most) (queueing_of q) (started (lent_registry registry compounding)) kept (decode_deposits deposits) z p.next_deposit_index (omega arith) in
        let u : vs ++ drop n p.registry.validators ≡ p.registry.validators = rw e (take-append-drop n p.registry.validators) in
        rw (← rules-same k q.most n (record { validators = vs; pubkeys = range 0 n; compounding = compounding }) (take p.next_deposit_index (decode_deposits deposits))) (rw (none, with_none vs, long, u) at t)

  -- the loop over the opening's validators: refused where the text's is, and else it leaves them and the numbers as the text does
  module _ (far : q.next_epoch ≤ FAR_FUTURE_EPOCH) where
    pub twin : Alike (Twin (length registry / 10) (decode registry)) (alone q registry deposits) text
    unfolding text_by alone
    twin =
        let start : Twin (length registry / 10) (decode registry) (running (decode registry) 0 0) (started (lent_registry registry compounding)) = record { pair = rw long (pair-start compounding long credentials); processed = refl; index = refl; reached = refl } in
        loop-twin (rules_by k q.most) (queueing_of q) far start (decode_deposits deposits)

pub twin-first : {n : ℕ} {vs₀ : List Validator} {a : Running} {p : Processing} → Twin n vs₀ a p → a.validators ≡ take n p.registry.validators
twin-first {n} {a = a} {p = p} h =
    let vs = p.registry.validators in
    let m : n ≤ length vs = omega (arith, h.pair.kept.least, h.pair.kept.long) in
    ext_get_or nobody a.validators (take n vs) (h.pair.alone ∙ sym (length-take-le n vs m)) (λ i l. (let b : i < n = omega (arith, l, h.pair.alone) in h.pair.same i b ∙ sym (get_or-take n vs i nobody b)))
