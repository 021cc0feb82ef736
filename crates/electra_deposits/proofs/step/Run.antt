-- The loop, those added, and what they make of the step.
use mathlib.Core.Path.{◌≡◌, refl, sym, ap, ◌∙◌}
use mathlib.Core.Bool.{Bool, true, false, cond}
use mathlib.Core.List.{List, ◌++◌}
use Prim.Native.Nat.{ℕ, ◌*◌, ◌/◌, ◌≤◌}
use native.Mathlib.Omega.{arith}
use lib.ListN.{length, take, drop, length-append}
use Rattle.definitions.specs.Lists.{range}
use Rattle.definitions.specs.Record.{FAR_FUTURE_EPOCH, encode, decode}
use Rattle.definitions.specs.Checked.{Checked, value, refused, bind, sub64}
use Rattle.definitions.specs.declared.Refusal.{Refusal}
use Rattle.laws.proofs.Checked.{not_value, value_same, Bound, bound}
use Rattle.laws.proofs.Encode.{length-encode, decode-encode}
use Rattle.arithmetic.proofs.Operations.{OnlyOverflow, only-value, only-sub64}
use Rattle.arithmetic.proofs.Laws.{bind-value, bind-refused}
use Rattle.definitions_electra.specs.declared.DepositsAnswer.{DepositsAnswer}
use Rattle.definitions_electra.specs.declared.PendingDeposit.{PendingDeposit}
use Rattle.definitions_electra.specs.Record.{Registry, decode_deposits, encode_deposits}
use Rattle.definitions_electra.specs.Calls.{over}
use Rattle.definitions_electra.specs.Document.Electra.EpochProcessing.{Processing}
use Rattle.definitions_electra.specs.Evaluated.Electra.EpochProcessing.{left_to_consume}
use Rattle.electra_deposits.specs.declared.adding.NewNumbers.{NewNumbers}
use Rattle.electra_deposits.specs.declared.QueueNumbers.{QueueNumbers}
use Rattle.electra_deposits.specs.declared.Deposited.{Deposited}
use Rattle.electra_deposits.specs.Alone.{Running, queueing_of, alone, ended}
use Rattle.electra_deposits.specs.Room.{rules_by, opening, joined, Holds}
use Rattle.electra_deposits.specs.Written.{closing_queue}
use Rattle.electra_deposits.specs.Step.{lent_registry, Lent, text_by, queue_after, left_by, Fronted, Finished, Runs}
use Rattle.electra_deposits.proofs.Alike.{Alike, Met, met, alike-refused, first-refused}
use Rattle.electra_deposits.proofs.Twin.{Twin}
use Rattle.electra_deposits.proofs.Text.{done, within, postponed, joined_is, twin, twin-first}
use Rattle.electra_deposits.proofs.closing.Over.{over-over, front-over}
use Rattle.electra_deposits.proofs.step.Front.{front-decoded, roomy-over, long-over}

pub left-reached : {reached : Bool} (a b : ℕ) {x : Checked ℕ} → reached ≡ true → x ≡ sub64 a b → x ≡ cond reached (sub64 a b) (value 0)
left-reached a b e h = rw e h

pub left-none : {reached : Bool} (a b : ℕ) → reached ≡ false → value 0 ≡ cond reached (sub64 a b) (value 0)
left-none a b e = rw e

pub only-left : (a b : ℕ) (reached : Bool) → OnlyOverflow (cond reached (sub64 a b) (value 0))
only-left a b true = only-sub64 a b
only-left a b false = only-value 0

pub left-same : (available : ℕ) (p : Processing) {s : ℕ} {t : Bool} → s ≡ p.processed_amount → t ≡ p.is_churn_limit_reached → left_to_consume available p ≡ cond t (sub64 available s) (value 0)
unfolding left_to_consume
left-same available p e f = rw (e, f)

module _ (k : NewNumbers) (q : QueueNumbers) {registry compounding deposits xs₀ cs₀ ps : List ℕ} (h : Lent registry compounding deposits xs₀ cs₀ ps) where
  -- Both loops
  module _ (far : q.next_epoch ≤ FAR_FUTURE_EPOCH) {xs : List ℕ} {r : Checked Deposited} (f : Fronted (alone q registry deposits) (length registry) xs₀ xs r) where
    back : over registry xs ≡ over registry xs₀
    back = ap (λ (t : List ℕ). over registry t) f.is ∙ over-over registry f.front xs₀ (omega (arith, f.is-long))

    both : Alike (Twin (length registry / 10) (decode registry)) (alone q registry deposits) (text_by (rules_by k q.most) (queueing_of q) (lent_registry registry compounding) (decode_deposits deposits))
    both = twin k q registry compounding deposits h.tens h.credentials far

    -- refused: so is the step
    left-refused : {b : Refusal} → text_by (rules_by k q.most) (queueing_of q) (lent_registry registry compounding) (decode_deposits deposits) ≡ refused b → left_by (rules_by k q.most) (queueing_of q) (lent_registry registry compounding) (decode_deposits deposits) ≡ refused b
    unfolding left_by bind
    left-refused e = rw e

    refuses : {b : Refusal} {s : Checked DepositsAnswer} {ds : List ℕ} → left_by (rules_by k q.most) (queueing_of q) (lent_registry registry compounding) (decode_deposits deposits) ≡ refused b → s ≡ refused b → Runs (left_by (rules_by k q.most) (queueing_of q) (lent_registry registry compounding) (decode_deposits deposits)) registry compounding xs₀ cs₀ ds xs cs₀ ds s
    refuses g e = record { is = e ∙ sym (bind-refused _ g); ends = λ l t. absurd (not_value (sym g ∙ t)); back = λ p o. back; back_too = λ p o. refl }

    pub run-refused : {p : Refusal} {s : Checked DepositsAnswer} → r ≡ refused p → s ≡ refused p → {ds : List ℕ} → Runs (left_by (rules_by k q.most) (queueing_of q) (lent_registry registry compounding) (decode_deposits deposits)) registry compounding xs₀ cs₀ ds xs cs₀ ds s
    run-refused z e = refuses (left-refused (alike-refused both (first-refused (alone q registry deposits) ended (sym f.deposits.is ∙ z)))) e

    module _ {d : Deposited} (z : r ≡ value d) where
      gave : Bound (alone q registry deposits) (λ a. value (ended a)) d
      gave = bound (alone q registry deposits) (λ a. value (ended a)) (sym f.deposits.is ∙ z)

      abbrev run : Running
      run = gave.first

      same : d ≡ ended run
      same = value_same (sym gave.then)

      o : Met (Twin (length registry / 10) (decode registry)) run (text_by (rules_by k q.most) (queueing_of q) (lent_registry registry compounding) (decode_deposits deposits))
      o = met both gave.gave

      abbrev end : Processing
      end = o.other

      index_is : d.index ≡ end.next_deposit_index
      index_is = ap (λ (x : Deposited). x.index) same ∙ o.alike.index

      pub run-within : d.index ≤ length deposits / 5
      run-within = omega (arith, index_is, within k q registry compounding deposits h.tens h.credentials o.gave)

      left_is : left_to_consume q.available end ≡ cond d.reached (sub64 q.available d.processed) (value 0)
      left_is = left-same q.available end (ap (λ (x : Deposited). x.processed) same ∙ o.alike.processed) (ap (λ (x : Deposited). x.reached) same ∙ o.alike.reached)

      opens : {cs : List ℕ} → cs ≡ over compounding cs₀ → opening (length registry / 10) xs cs ≡ record { validators = run.validators; pubkeys = range 0 (length registry / 10); compounding = compounding }
      opens e =
          let n = length registry / 10 in
          let l : length xs ≡ 10 * length cs₀ = ap length f.is ∙ long-over f.front xs₀ (omega (arith, f.is-long, h.tens, h.room, h.room_too)) ∙ h.room in
          let a : take (10 * n) xs ≡ f.front = ap (take (10 * n)) f.is ∙ front-over f.front xs₀ (10 * n) (f.is-long ∙ h.tens) in
          let b : decode f.front ≡ run.validators = ap decode (f.deposits.held run gave.gave) ∙ decode-encode run.validators in
          let c : take n (over compounding cs₀) ≡ compounding = front-over compounding cs₀ n h.credentials in
          rw (e, front-decoded (length cs₀) xs l n (omega (arith, h.room_too)), a, b, c)

      module _ {number : Checked ℕ} (says : number ≡ cond d.reached (sub64 q.available d.processed) (value 0)) where
        left_over : {p : Refusal} → number ≡ refused p → left_by (rules_by k q.most) (queueing_of q) (lent_registry registry compounding) (decode_deposits deposits) ≡ refused p
        unfolding left_by bind
        left_over e = rw (o.gave, left_is, sym says ∙ e)

        pub run-over : {p : Refusal} {s : Checked DepositsAnswer} → number ≡ refused p → s ≡ refused p → {ds : List ℕ} → Runs (left_by (rules_by k q.most) (queueing_of q) (lent_registry registry compounding) (decode_deposits deposits)) registry compounding xs₀ cs₀ ds xs cs₀ ds s
        run-over e k = refuses (left_over e) k

        left-given : {carried : ℕ} → number ≡ value carried → left_by (rules_by k q.most) (queueing_of q) (lent_registry registry compounding) (decode_deposits deposits) ≡ value (record { registry = end.registry; to_consume = carried; queue = queue_after end (decode_deposits deposits) })
        unfolding left_by bind
        left-given e = rw (o.gave, left_is, sym says ∙ e)

        pub run-done : {carried : ℕ} → number ≡ value carried → {ds₀ ys es ds : List ℕ} {a : DepositsAnswer} → Finished q.next_epoch k registry deposits d.index carried xs (over compounding cs₀) ds₀ ys es ds a → length es ≡ length cs₀ → Runs (left_by (rules_by k q.most) (queueing_of q) (lent_registry registry compounding) (decode_deposits deposits)) registry compounding xs₀ cs₀ ds₀ ys es ds (value a)
        run-done {carried} e {ds₀} {ys} {es} {ds} {a} g same =
            let p = end in
            let n = length registry / 10 in
            let b : Holds xs (over compounding cs₀) p.registry ys es g.count = g.added.holds p.registry (ap (λ (x : Registry). joined (rules_by k 0) n x (take d.index (decode_deposits deposits))) (opens {cs = over compounding cs₀} refl) ∙ ap (λ (i : ℕ). joined (rules_by k 0) n (record { validators = run.validators; pubkeys = range 0 n; compounding = compounding }) (take i (decode_deposits deposits))) index_is ∙ joined_is k q registry compounding deposits h.tens h.credentials o.gave run.validators (twin-first o.alike) o.alike.pair.alone) in
            let w = (done k q registry compounding deposits h.tens h.credentials o.gave).kept in
            let v : g.count ≡ length p.registry.validators = b.count ∙ sym w.long in
            let c : g.count ≡ length p.registry.compounding = b.count ∙ sym w.long_too in
            let lx : length xs ≡ 10 * length cs₀ = ap length f.is ∙ long-over f.front xs₀ (omega (arith, f.is-long, h.tens, h.room, h.room_too)) ∙ h.room in
            let few : g.count ≤ length cs₀ = (let l : length es ≡ length (p.registry.compounding ++ drop g.count (over compounding cs₀)) = ap length b.compounding in omega (arith, same, l, length-append p.registry.compounding (drop g.count (over compounding cs₀)), c)) in
            let queue-is : closing_queue n q.next_epoch (decode registry) d.index (decode_deposits deposits) ≡ queue_after p (decode_deposits deposits) = ap (λ (i : ℕ). closing_queue n q.next_epoch (decode registry) i (decode_deposits deposits)) index_is ∙ ap (λ (t : List PendingDeposit). drop p.next_deposit_index (decode_deposits deposits) ++ t) (sym (postponed k q registry compounding deposits h.tens h.credentials o.gave)) in
            let m = left-given e in
            let answered : ℕ → ℕ → DepositsAnswer = λ x y. record { refusal = 0; deposit_balance_to_consume = carried; validators = x; deposits = y } in
            let front-short : length f.front ≤ length (encode p.registry.validators) = omega (arith, f.is-long, h.tens, length-encode p.registry.validators, w.long, w.least) in
            let comp-short : length compounding ≤ length p.registry.compounding = omega (arith, h.credentials, w.long_too, w.least) in
            let answer-is = g.answer ∙ ap (λ (x : ℕ). answered x g.left) v ∙ ap (λ (x : ℕ). answered (length p.registry.validators) x) (g.queued.count ∙ ap length queue-is) in
            record {
              is = ap value answer-is ∙ sym (bind-value _ m);
              ends = λ l t. (let same = value_same (sym m ∙ t) in rw (← same) (record {
                registry = b.registry ∙ roomy-over (length cs₀) xs lx p.registry.validators g.count (sym v) few ∙ ap (λ (y : List ℕ). over (encode p.registry.validators) y) f.is ∙ over-over (encode p.registry.validators) f.front xs₀ front-short;
                compounding = b.compounding ∙ ap (λ (i : ℕ). p.registry.compounding ++ drop i (over compounding cs₀)) c ∙ over-over p.registry.compounding compounding cs₀ comp-short;
                queue = g.queued.held ∙ ap (λ (t : List PendingDeposit). over (encode_deposits t) ds₀) queue-is;
              }));
              back = λ p x. absurd (not_value (sym x));
              back_too = λ p x. absurd (not_value (sym x));
            }
