-- What the code's ways through one entry give.
use mathlib.Core.Path.{◌≡◌, refl, sym, ap, subst, ◌∙◌}
use mathlib.Core.Bool.{Bool, true, false, cond, true≢false}
use mathlib.Core.List.{List}
use Prim.Native.Nat.{ℕ, ◌+◌, ◌-◌, ◌≤◌}
use native.Mathlib.Omega.{arith}
use borrow.Author.Tests.{eq-eqb, ne_eqb, eqb-true}
use lib.Dec.{eqb, ltb}
use lib.ListN.{length, get_or}
use Rattle.definitions.specs.declared.Settings.{Settings}
use Rattle.definitions.specs.Record.{Validator, FAR_FUTURE_EPOCH, decode_one, encode_one}
use Rattle.definitions.specs.Checked.{Checked, value, refused, bind, done, settle}
use Rattle.definitions.specs.declared.Refusal.{Refusal}
use Rattle.definitions.specs.Updates.{with_score}
use Rattle.definitions.specs.Rust.Phase0.EpochProcessing.{is_eligible}
use Rattle.definitions.specs.Rust.Altair.Helpers.{is_unslashed_participating}
use Rattle.definitions.specs.Rust.Altair.EpochProcessing.{moved_score, recovered_score, update_inactivity_score}
use Rattle.laws.proofs.Checked.{not_value, bound, value_same}
use Rattle.laws.proofs.Encode.{ten}
use Rattle.laws.specs.Ran.{Settles}
use Rattle.laws.specs.Cut.{queued_at, admit_one}
use Rattle.definitions.specs.declared.ExitQueue.{ExitQueue}
use Rattle.exit_queue.specs.Queue.{moved, last_after, number_after}
use Rattle.exit_queue.specs.Turns.{Turns}
use Rattle.registry.specs.Updates.{turn_by}
use Rattle.rates.specs.declared.reward_balances.Pairs.{Pairs}
use Rattle.rates.specs.Balances.{four_of}
use Rattle.rates.proofs.reward_balances.Paired.{pairs-refused}
use Rattle.rewards.specs.Shared.{totals_of}
use Rattle.definitions_electra.specs.declared.ExitChurn.{ExitChurn}
use Rattle.electra_registry.specs.declared.updates.RegistryNumbers.{RegistryNumbers}
use Rattle.electra_registry.specs.Turns.{Turned, kept, turn_by as turn_by_balance, Turns as TurnsByBalance}
use Rattle.write_turn.specs.Runs.{Runs}
use Rattle.write_turn.specs.Sweep.{Moved as Pass}
use Rattle.write_turn.specs.Steps.{carry_of, Steps}
use Rattle.write_turn.proofs.Sweeps.Steps.{steps-value, steps-refused, through, steps-along, first-stop}
use Rattle.write_turn.proofs.Sweeps.Runs.{settles-runs, runs_then, runs-stop}
use Rattle.write_turn.specs.declared.Plan.{Plan}
use Rattle.write_turn.specs.declared.Course.{Course}
use Rattle.write_turn.specs.declared.Carry.{Carry}
use Rattle.write_turn.specs.declared.Moved.{Moved}
use Rattle.write_turn.specs.declared.Written.{Written}
use Rattle.write_turn.specs.Planned.{scored_by, rewarded_by, paid_by}
use Rattle.write_turn.specs.Written.{PairsFor, pay_of, turn_with, admit_with, move_with, written_with, churn_with, later_with, queued, churned, written_by, Pays, Moves, Writes}

-- at the genesis epoch, and later
module _ (s : Settings) (p : Plan) {before : List ℕ} where
  pub pays-none : length before ≡ 10 → p.shared.current_epoch ≡ 0 → {x : Pairs} → Pays s p before before (value x)
  pays-none l z =
      let e : pay_of s p (decode_one before) ≡ value (decode_one before) = rw (eq-eqb _ _ z) in
      record {
        runs = record { is = ap done (sym e); held = λ v q. ten before l ∙ ap encode_one (value_same (sym e ∙ q)) };
        pairs = λ y q. record { are = λ n v g. absurd (n z) };
      }

  pays-some : {after : List ℕ} {r : Checked (Unit {0})} → (p.shared.current_epoch ≡ 0 → ⊥) → Runs (paid_by s p) before after r → Runs (pay_of s p) before after r
  pays-some n h =
      let e : pay_of s p (decode_one before) ≡ paid_by s p (decode_one before) = rw (ne_eqb _ _ n) in
      record { is = h.is ∙ ap done (sym e); held = λ v q. h.held v (sym e ∙ q) }

  module _ (n : p.shared.current_epoch ≡ 0 → ⊥) {between : List ℕ} {r : Checked (Unit {0})} (h : Runs (scored_by s p) before between r) where
    -- the score is refused
    pub pays-stop : {after : List ℕ} {q : Refusal} {t : Checked Pairs} → r ≡ refused q → t ≡ refused q → Pays s p before after t
    pays-stop z e = record { runs = rw e (pays-some n (runs-stop _ h z)); pairs = λ y g. absurd (not_value (sym e ∙ g)) }

    -- its turn left the numbers that the rewards read
    module _ (z : r ≡ value tt) {after : List ℕ} {d : Checked (Unit {0})} {t : Checked Pairs} (k : Settles (rewarded_by s p) between after d) where
      pays-by : done t ≡ d → ((x : Pairs) → t ≡ value x → four_of s p.quotient p.shared.current_epoch p.shared.previous_epoch (totals_of p.shared p.source) (totals_of p.shared p.target) (totals_of p.shared p.head) (decode_one between) ≡ value x) → Pays s p before after t
      pays-by e f =
          record {
            runs = rw e (pays-some n (runs_then _ h z (settles-runs k)));
            pairs = λ x g. record { are = λ n v e. subst (λ (v : Validator). four_of s p.quotient p.shared.current_epoch p.shared.previous_epoch (totals_of p.shared p.source) (totals_of p.shared p.target) (totals_of p.shared p.head) v ≡ value x) (ap decode_one (h.held v e)) (f x g) };
          }

      -- the rewards are refused
      pub pays-over : {q : Refusal} → d ≡ refused q → t ≡ refused q → Pays s p before after t
      pays-over y e = pays-by (ap done e ∙ sym y) (λ x g. absurd (not_value (sym e ∙ g)))

      -- by the pairs of what the score's turn left
      pub pays-paid : d ≡ value tt → t ≡ four_of s p.quotient p.shared.current_epoch p.shared.previous_epoch (totals_of p.shared p.source) (totals_of p.shared p.target) (totals_of p.shared p.head) (decode_one between) → Pays s p before after t
      pays-paid y e = pays-by (go t e) (λ x g. sym e ∙ g)
        where
          go : (t : Checked Pairs) → t ≡ four_of s p.quotient p.shared.current_epoch p.shared.previous_epoch (totals_of p.shared p.source) (totals_of p.shared p.target) (totals_of p.shared p.head) (decode_one between) → done t ≡ d
          go (value x) e = sym y
          go (refused q) e = absurd (not_value (sym (k.is ∙ ap done (pairs-refused _ _ _ _ _ _ _ _ (sym e))) ∙ y))

-- a score's turn leaves the effective balance
pub balance-scored : (s : Settings) (current previous : ℕ) (leaking : Bool) {before after : List ℕ} {r : Checked (Unit {0})} → Settles (update_inactivity_score s current previous leaking) before after r → get_or after 0 0 ≡ get_or before 0 0
unfolding update_inactivity_score bind
balance-scored s current previous leaking {before} h = ap (λ (e : List ℕ). get_or e 0 0) h.held ∙ go (is_eligible previous v) (moved_score s (is_unslashed_participating current 1 previous v) v.inactivity_score)
  where
    v : Validator
    v = decode_one before

    go : (t : Bool) (m : Checked ℕ) → (settle (cond t (bind m (λ score. value (with_score (recovered_score s leaking score) v))) (value v)) v).effective_balance ≡ v.effective_balance
    go true (value k) = refl
    go true (refused p) = refl
    go false m = refl

-- one more leaves at most
pub moved-number : (q : ExitQueue) (v w : Validator) → (moved q v w).number ≤ q.number + 1
unfolding moved number_after
moved-number q v w = go (eqb v.exit_epoch FAR_FUTURE_EPOCH) (eqb w.exit_epoch FAR_FUTURE_EPOCH) (ltb q.last_epoch w.exit_epoch) (eqb w.exit_epoch q.last_epoch)
  where
    go : (a b c d : Bool) → (cond a (record { last_epoch = last_after q.last_epoch w.exit_epoch; number = cond b q.number (cond c 1 (cond d (q.number + 1) q.number)) }) q).number ≤ q.number + 1
    go true true c d = omega arith
    go true false true d = omega arith
    go true false false true = omega arith
    go true false false false = omega arith
    go false b c d = omega arith

module _ (s : Settings) (epoch limit : ℕ) {q : ExitQueue} {before after : List ℕ} {r : Checked ExitQueue} (h : Turns (turn_by s epoch limit q) q before after r) where
  pub turn-steps : Steps (turn_with s epoch limit) q before after r
  unfolding bind
  turn-steps = go (turn_by s epoch limit q (decode_one before)) refl
    where
      by : Checked Validator → Checked (Pass ExitQueue Validator)
      by m = bind m (λ w. value (record { carry = moved q (decode_one before) w; held = w }))

      pair : Checked Validator → Checked ExitQueue
      pair m = bind m (λ w. value (moved q (decode_one before) w))

      go : (m : Checked Validator) → turn_by s epoch limit q (decode_one before) ≡ m → Steps (turn_with s epoch limit) q before after r
      go (value w) e = steps-value (turn_with s epoch limit) (ap by e) (h.is ∙ ap pair e) (h.held w e)
      go (refused p) e = steps-refused (turn_with s epoch limit) (ap by e) (h.is ∙ ap pair e)

  pub turn-few : {next : ExitQueue} → r ≡ value next → next.number ≤ q.number + 1
  turn-few z =
      let k = bound (turn_by s epoch limit q (decode_one before)) (λ w. value (moved q (decode_one before) w)) (sym h.is ∙ z) in
      subst (λ (o : ExitQueue). o.number ≤ q.number + 1) (value_same k.then) (moved-number q (decode_one before) k.first)

pub admit_steps : (epoch finalized_epoch bound left : ℕ) {before after : List ℕ} {d : ℕ} → after ≡ encode_one (admit_one epoch finalized_epoch bound left (decode_one before)) → d ≡ left - cond (queued_at finalized_epoch bound (decode_one before)) 1 0 → Steps (admit_with epoch finalized_epoch bound) left before after (value d)
admit_steps epoch finalized_epoch bound left h k = steps-value (admit_with epoch finalized_epoch bound) refl (ap value k) h

module _ (s : Settings) (epoch : ℕ) (t : Course) {q : ExitQueue} {left : ℕ} {before after : List ℕ} where
  pub moves-value : {next : ExitQueue} {rest : ℕ} → Steps (move_with s epoch t) (q, left) before after (value (next, rest)) → next.number ≤ q.number + 1 → Moves s epoch t q left before after (value (record { queue = next; left = rest }))
  moves-value h l = record { steps = h; few = λ m z. subst (λ (m : Moved). m.queue.number ≤ q.number + 1) (value_same z) l }

  pub moves-refused : {p : Refusal} {r : Checked Moved} → Steps (move_with s epoch t) (q, left) before after (refused p) → r ≡ refused p → Moves s epoch t q left before after r
  moves-refused h e = record { steps = rw e h; few = λ m z. absurd (not_value (sym e ∙ z)) }

-- Electra's registry turn
pub churn-steps : (n : RegistryNumbers) {churn : ExitChurn} {before after : List ℕ} {r : Checked ExitChurn} → TurnsByBalance (turn_by_balance n churn) churn before after r → Steps (churn_with n) churn before after r
unfolding bind
churn-steps n {churn} {before} {after} {r} h = go (turn_by_balance n churn (decode_one before)) refl
  where
    by : Checked Turned → Checked (Pass ExitChurn Validator)
    by m = bind m (λ t. value (record { carry = t.churn; held = t.validator }))

    two : Checked Turned → Checked ExitChurn
    two m = bind m (λ t. value t.churn)

    go : (m : Checked Turned) → turn_by_balance n churn (decode_one before) ≡ m → Steps (churn_with n) churn before after r
    go (value t) e = steps-value (churn_with n) (ap by e) (h.is ∙ ap two e) (h.held ∙ ap (λ (m : Checked Turned). encode_one (settle m (kept churn (decode_one before))).validator) e)
    go (refused p) e = steps-refused (churn_with n) (ap by e) (h.is ∙ ap two e)

-- Altair's turn or Electra's, by their parts of what is carried
abbrev queues : Carry → ExitQueue × ℕ → Carry
queues c d = record { queue = d.0; left = d.1; churn = c.churn }

abbrev churns : Carry → ExitChurn → Carry
churns c d = record { queue = c.queue; left = c.left; churn = d }

module _ (later : ℕ) (s : Settings) (p : Plan) (t : Course) (n : RegistryNumbers) {c : Carry} {before after : List ℕ} where
  pub queue-steps : later ≡ 0 → {r : Checked (ExitQueue × ℕ)} → Steps (written_with s p t) (c.queue, c.left) before after r → Steps (written_by later s p t n) c before after (through (queues c) r)
  queue-steps z {r} h =
      let k : Steps (queued s p t) c before after (through (queues c) r) = steps-along (λ c. (c.queue, c.left)) queues (written_with s p t) h in
      let e : written_by later s p t n c (decode_one before) ≡ queued s p t c (decode_one before) = rw (eq-eqb later 0 z) in
      record { is = k.is ∙ ap carry_of (sym e); held = λ m g. k.held m (sym e ∙ g) }

  pub later-steps : (later ≡ 0 → ⊥) → {r : Checked ExitChurn} → Steps (later_with s p n) c.churn before after r → Steps (written_by later s p t n) c before after (through (churns c) r)
  later-steps z {r} h =
      let k : Steps (churned s p n) c before after (through (churns c) r) = steps-along (λ c. c.churn) churns (later_with s p n) h in
      let e : written_by later s p t n c (decode_one before) ≡ churned s p n c (decode_one before) = rw (ne_eqb later 0 z) in
      record { is = k.is ∙ ap carry_of (sym e); held = λ m g. k.held m (sym e ∙ g) }

  -- neither where it is not paid
  pub unpaid_steps : {between : List ℕ} {r : Checked (Unit {0})} {q : Refusal} → Runs (pay_of s p) before between r → r ≡ refused q → Steps (written_by later s p t n) c before after (refused q)
  unpaid_steps {q = q} h z = go (eqb later 0) refl
    where
      go : (b : Bool) → eqb later 0 ≡ b → Steps (written_by later s p t n) c before after (refused q)
      go true e = queue-steps (eqb-true later 0 e) (first-stop h _ z)
      go false e = later-steps (λ y. true≢false (sym (eq-eqb later 0 y) ∙ e)) (first-stop h _ z)

  pub writes-value : {d : Carry} {pairs : Pairs} → Steps (written_by later s p t n) c before after (value d) → d.queue.number ≤ c.queue.number + 1 → PairsFor s p (decode_one before) pairs → Writes later s p t n c before after (value (record { carry = d; pairs = pairs }))
  writes-value h l k =
      record {
        steps = h;
        few = λ w z. subst (λ (w : Written). w.carry.queue.number ≤ c.queue.number + 1) (value_same z) l;
        pairs = λ w z. subst (λ (w : Written). PairsFor s p (decode_one before) w.pairs) (value_same z) k;
      }

  pub writes-refused : {q : Refusal} {r : Checked Written} → Steps (written_by later s p t n) c before after (refused q) → r ≡ refused q → Writes later s p t n c before after r
  writes-refused h e = record { steps = rw e h; few = λ w z. absurd (not_value (sym e ∙ z)); pairs = λ w z. absurd (not_value (sym e ∙ z)) }
