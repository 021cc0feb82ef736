-- A close by its own definition has the interface, and so the claim holds of every list of closes.
use mathlib.Core.Path.{◌≡◌, refl, sym, ap, ◌∙◌, subst, subst₂}
use mathlib.Core.Bool.{Bool, true, cond}
use mathlib.Core.List.{List, [], ◌∷◌, ◌++◌, map}
use Prim.Native.Nat.{ℕ, ◌+◌, ◌-◌, ◌*◌, ◌≤◌, ◌<◌}
use native.Mathlib.Omega.{arith}
use borrow.Author.Tests.{eqb-true, leb-true, le-ltb}
use lib.Dec.{T, leb, ltb, eqb}
use lib.ListN.{length, take, drop}
use Rattle.definitions.specs.Lists.{all}
use Rattle.definitions.specs.Checked.{Checked, value, refused, number_of, bind, sub64, code_of}
use Rattle.definitions.specs.declared.Refusal.TheVariants.{Overflow}
use Rattle.definitions.specs.Refusals.{after_tests}
use Rattle.definitions.specs.Rust.Phase0.Helpers.{compute_start_slot_at_epoch}
use Rattle.definitions_electra.specs.declared.ElectraRules.{ElectraRules}
use Rattle.definitions_electra.specs.Record.{ElectraState, registry_of, place_of}
use Rattle.definitions_electra.specs.Document.Electra.EpochProcessing.{finalized_epoch_of, Processing, Queueing, started}
use Rattle.definitions_electra.specs.Evaluated.Electra.EpochProcessing.{queueing, left_to_consume, process_pending_deposits, process_epoch}
use Rattle.laws.proofs.Checked.{value_same, bound, checked_value, add64-value, mul64-value, number_not_zero}
use Rattle.history_electra.specs.Events.{amounts, slots_at_most, Event, accepts, Follows, Among, MovedOn}
use Rattle.history_electra.specs.DepositsEarn.{smallest_churn, Close, closed, next_deposit, event, DepositsEarn}
use Rattle.history_electra.proofs.Front.{Deposits, head_amount}
use Rattle.history_electra.proofs.Shape.{Ended, past, by_number, by_limit, EventShape}
use Rattle.history_electra.proofs.EveryList.{Each, every-list}
use Rattle.history_electra.proofs.Loop.{ran, Went, went, none-known, known, Stopped, beyond, full, limited, stopped}
use Rattle.history_electra.proofs.Steps.{Ten, ten}
use Rattle.history_electra.proofs.Churn.{never-below}

-- Pending deposits

-- what the loop reads
record Read (r : ElectraRules) (a : ElectraState) (q : Queueing) : Type 0 where
  available : a.deposit_balance_to_consume + smallest_churn r ≤ q.available
  slot : q.finalized_slot ≡ finalized_epoch_of a * r.settings.slots_per_epoch
  bridge : q.bridge_open ≡ ltb a.eth1_deposit_index a.deposit_requests_start_index

read : (r : ElectraRules) (a : ElectraState) {q : Queueing} → queueing r a ≡ value q → Read r a q
unfolding queueing compute_start_slot_at_epoch
read r a e =
    let next = bound _ _ e in
    let limit = bound _ _ next.then in
    let available = bound _ _ limit.then in
    let slot = bound _ _ available.then in
    subst (Read r a) (value_same slot.then)
    (record {
      available = omega (arith, add64-value _ _ available.gave, never-below r _ _ limit.gave);
      slot = sym (mul64-value _ _ slot.gave);
      bridge = refl;
    })

-- from a to b
record Deposited (r : ElectraRules) (a b : ElectraState) : Type 0 where
  read_off : Queueing
  gave : queueing r a ≡ value read_off
  done : Processing
  loop : ran r read_off (started (registry_of a)) a.pending_deposits ≡ value done
  queue : b.pending_deposits ≡ drop done.next_deposit_index a.pending_deposits ++ done.deposits_to_postpone
  left : left_to_consume read_off.available done ≡ value b.deposit_balance_to_consume
  final : finalized_epoch_of b ≡ finalized_epoch_of a
  keys : b.pubkeys ≡ done.registry.pubkeys

deposited : (r : ElectraRules) (a b : ElectraState) → process_pending_deposits r a ≡ value b → Deposited r a b
unfolding process_pending_deposits
deposited r a b e =
    let q = bound _ _ e in
    let p = bound _ _ q.then in
    let l = bound _ _ p.then in
    subst (Deposited r a) (value_same l.then)
    (record { read_off = q.first; gave = q.gave; done = p.first; loop = p.gave; queue = refl; left = l.gave; final = refl; keys = refl })

-- where the limit was reached, what was available is processed or left
left_over : (available : ℕ) (p : Processing) {x : ℕ} → p.is_churn_limit_reached ≡ true → left_to_consume available p ≡ value x
    → x + p.processed_amount ≡ available
unfolding left_to_consume sub64
left_over available p {x} t e =
    let g = checked_value Overflow (leb p.processed_amount available) (subst (λ (b : Bool). cond b (cond (leb p.processed_amount available) (value (available - p.processed_amount)) (refused Overflow)) (value 0) ≡ value x) t e) in
    omega (arith, leb-true p.processed_amount available g.0, g.1)

-- The close

module _ (r : ElectraRules) (a e : ElectraState) (t : Ten r a e) where
  d : Deposited r t.slashed t.applied
  d = deposited r t.slashed t.applied t.deposits

  abbrev n : ℕ
  n = d.done.next_deposit_index

  w : Went r d.read_off (started (registry_of t.slashed)) t.slashed.pending_deposits d.done
  w = went r d.read_off t.slashed.pending_deposits (started (registry_of t.slashed)) d.loop

  next-is : next_deposit r a ≡ value n
  unfolding next_deposit bind
  next-is = rw (t.five, d.gave, d.loop)

  same_count : w.count ≡ n
  same_count = omega (arith, w.next)

  -- those postponed, by the keys of the record that came back
  abbrev KnownBy : List ℕ → Deposits → Type 0
  KnownBy keys ds = T (all (λ x. ltb (place_of x.pubkey keys) (length keys)) ds)

  postponed-known : KnownBy e.pubkeys w.postponed
  postponed-known =
      subst₂ KnownBy (sym (t.behind.keys ∙ d.keys)) w.behind
      (known r d.read_off t.slashed.pending_deposits (started (registry_of t.slashed)) d.loop (none-known r d.read_off (registry_of t.slashed)))

  on : MovedOn n a.pending_deposits e
  on =
      subst (λ (ds : Deposits). MovedOn n ds e) t.before.queue
      (record {
        postponed = w.postponed;
        within = omega (arith, w.within, same_count);
        some = subst (λ (k : ℕ). Among w.postponed (take k t.slashed.pending_deposits)) same_count w.some;
        known = postponed-known;
        rest = t.behind.queue ∙ d.queue ∙ ap (drop n t.slashed.pending_deposits ++◌) w.behind;
      })

  -- as it came back
  abbrev made : Bool → Event
  made stay =
      record {
        opening = a;
        returned = e;
        refusal = 0;
        slots = r.settings.slots_per_epoch;
        number = r.electra.max_pending_deposits_per_epoch;
        churn = smallest_churn r;
        moved = n;
        others_stay = stay;
      }

  module _ (stay : Bool) (xs : Deposits) where
    ended : Stopped r d.read_off (started (registry_of t.slashed)) xs d.done → Ended (made stay) xs
    ended (beyond l) = past (omega (arith, l))
    ended (full k l m u) = by_number (omega (arith, l, m)) u
    ended (limited k l m u v x) =
        let same : k ≡ n = omega (arith, m) in
        let over = left_over d.read_off.available d.done u d.left in
        let available = (read r t.slashed d.gave).available in
        by_limit (omega (arith, l, m))
        (omega (arith, subst (λ (i : ℕ). d.done.processed_amount ≤ 0 + amounts (take i xs)) same v, over, available, t.before.carried, t.behind.carried))
        (omega (arith, subst (λ (i : ℕ). d.read_off.available < d.done.processed_amount + head_amount (drop i xs)) same x, over, t.behind.carried))

    ends : Follows xs a.pending_deposits → T (slots_at_most (finalized_epoch_of e * r.settings.slots_per_epoch) xs)
        → a.deposit_requests_start_index ≤ a.eth1_deposit_index → Ended (made stay) xs
    ends f g h =
        let x = read r t.slashed d.gave in
        let epoch : finalized_epoch_of e ≡ finalized_epoch_of t.slashed = t.behind.final ∙ d.final in
        let slot = ap (λ (i : ℕ). i * r.settings.slots_per_epoch) epoch ∙ sym x.slot in
        let closed-bridge = x.bridge ∙ le-ltb t.slashed.eth1_deposit_index t.slashed.deposit_requests_start_index (omega (arith, h, t.before.index, t.before.start)) in
        ended (stopped r d.read_off closed-bridge xs t.slashed.pending_deposits (subst (Follows xs) (sym t.before.queue) f)
        (subst (λ (i : ℕ). T (slots_at_most i xs)) slot g) (started (registry_of t.slashed)) refl d.loop)

  made-shape : (stay : Bool) → EventShape (made stay)
  made-shape stay = record { queue = on; ends = ends stay }

-- every accepted close

accepted-close : (c : Close) (m : Checked ElectraState) → eqb (code_of m) 0 ≡ true → (e : ElectraState) × (m ≡ value e)
accepted-close c (value e) t = (e, refl)
accepted-close c (refused p) t = absurd (number_not_zero p (eqb-true (number_of p) 0 t))

worked : (c : Close) {e : ElectraState} → closed c ≡ value e → process_epoch c.rules c.opening ≡ value e
unfolding after_tests
worked c h = (bound _ _ h).then

made-here : (c : Close) (e : ElectraState) (x : Ten c.rules c.opening e) → closed c ≡ value e → made c.rules c.opening e x c.others_stay ≡ event c
made-here c e x h = rw (h, next-is c.rules c.opening e x)

close-shape : (c : Close) → accepts (event c) ≡ true → EventShape (event c)
close-shape c t =
    let a = accepted-close c (closed c) t in
    let x = ten c.rules c.opening (worked c a.1) in
    subst EventShape (made-here c a.0 x a.1) (made-shape c.rules c.opening a.0 x c.others_stay)

shapes : (closes : List Close) → Each EventShape (map event closes)
shapes [] = tt
shapes (c ∷ closes) = (close-shape c, shapes closes)

pub deposits_earn : DepositsEarn
deposits_earn s p c start closes = every-list s p c start (map event closes) (shapes closes)
