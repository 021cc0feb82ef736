-- What a turn did to a validator.
use mathlib.Core.Path.{◌≡◌, refl, sym, ap, ◌∙◌}
use mathlib.Core.Bool.{Bool, true, false, cond, ◌&&◌, ◌||◌}
use Prim.Native.Nat.{ℕ, ◌+◌, ◌-◌, ◌/◌, ◌≤◌}
use native.Mathlib.Omega.{arith}
use lib.Dec.{ltb, eqb}
use Rattle.definitions.specs.declared.Settings.{Settings}
use Rattle.definitions.specs.Record.{Validator, FAR_FUTURE_EPOCH}
use Rattle.definitions.specs.Updates.{with_effective_balance, with_eligibility, with_exit, with_balance}
use Rattle.definitions.specs.Checked.{Checked, value, bind, add64, mul64}
use Rattle.definitions.specs.Document.Phase0.Helpers.{is_eligible_for_activation_queue}
use Rattle.definitions.specs.Document.Phase0.EpochProcessing.{queue_eligible, is_ejected, rounded_balance}
use Rattle.definitions.specs.Document.Altair.EpochProcessing.{rotate_participation}
use Rattle.definitions.specs.Rust.Phase0.Helpers.{decrease_balance}
use Rattle.definitions.specs.Rust.Phase0.EpochProcessing.{update_effective_balance}
use Rattle.definitions.specs.Rust.Altair.EpochProcessing.{is_slashing_due, slashing_penalty, slash}
use Rattle.laws.proofs.Checked.{value_same, bound}
use Rattle.laws.proofs.Tests.{either, lowered}
use Rattle.definitions.specs.declared.ExitQueue.{ExitQueue}
use Rattle.exit_queue.specs.Queue.{next_epoch, exit_by}
use Rattle.laws.specs.Cut.{queued_before, queued_at, admit_one}
use Rattle.registry.specs.Updates.{turn_by}
use Rattle.definitions_electra.specs.declared.ExitChurn.{ExitChurn}
use Rattle.definitions_electra.specs.Evaluated.Electra.EpochProcessing.{slash as slash_later}
use Rattle.electra_registry.specs.declared.updates.RegistryNumbers.{RegistryNumbers}
use Rattle.electra_registry.specs.Turns.{Turned, kept, churn_by, exit_with, is_queued, is_ejected_by, is_activated, turn_by as turn_by_balance}
use Rattle.write_turn.specs.Sweep.{Moved}
use Rattle.write_turn.specs.declared.Plan.{Plan}
use Rattle.write_turn.specs.declared.Course.{Course}
use Rattle.write_turn.specs.declared.Carry.{Carry}
use Rattle.write_turn.specs.Planned.{last_by}
use Rattle.write_turn.specs.Written.{pay_of, turn_with, admit_with, move_with, written_with, churn_with, later_with, queued, churned, written_by}
use Rattle.write_pass.specs.Filled.{Between}

-- No step after rewards writes the score or raises the balance

record Less (v w : Validator) : Type 0 where
  score : w.inactivity_score ≡ v.inactivity_score
  balance : w.balance ≤ v.balance

less-same : {v w : Validator} → v ≡ w → Less v w
less-same e = record { score = ap (λ (u : Validator). u.inactivity_score) (sym e); balance = rw e (omega arith) }

less_then : {u v w : Validator} → Less u v → Less v w → Less u w
less_then a b = record { score = b.score ∙ a.score; balance = omega (arith, a.balance, b.balance) }

less_where : {v x y : Validator} (t : Bool) → Less v x → Less v y → Less v (cond t x y)
less_where true a b = a
less_where false a b = b

less_none : {v w : Validator} → w.inactivity_score ≡ v.inactivity_score → w.balance ≡ v.balance → Less v w
less_none a b = record { score = a; balance = omega (arith, b) }

turn-less : (s : Settings) (epoch limit : ℕ) (q : ExitQueue) (v : Validator) {w : Validator} → turn_by s epoch limit q v ≡ value w → Less v w
unfolding turn_by queue_eligible exit_by
turn-less s epoch limit q v {w} e = less_then first (go (is_ejected s epoch queued) e)
  where
    queued : Validator
    queued = cond (is_eligible_for_activation_queue s v) (with_eligibility (epoch + 1) v) v

    first : Less v queued
    first = less_where (is_eligible_for_activation_queue s v) (less_none refl refl) (less_none refl refl)

    delay : ℕ
    delay = s.min_validator_withdrawability_delay

    leaves : (t : Bool) → cond t (bind (next_epoch limit q) (λ exit. bind (add64 exit delay) (λ withdrawable. value (with_exit exit withdrawable queued)))) (value queued) ≡ value w → Less queued w
    leaves true e =
        let a = bound (next_epoch limit q) _ e in
        let b = bound (add64 a.first delay) (λ withdrawable. value (with_exit a.first withdrawable queued)) a.then in
        less_then {v = with_exit a.first b.first queued} (less_none refl refl) (less-same (value_same b.then))
    leaves false e = less-same (value_same e)

    go : (t : Bool) → cond t (cond (eqb queued.exit_epoch FAR_FUTURE_EPOCH) (bind (next_epoch limit q) (λ exit. bind (add64 exit delay) (λ withdrawable. value (with_exit exit withdrawable queued)))) (value queued)) (value queued) ≡ value w → Less queued w
    go true e = leaves (eqb queued.exit_epoch FAR_FUTURE_EPOCH) e
    go false e = less-same (value_same e)

admit_less : (epoch finalized_epoch bound left : ℕ) (v : Validator) → Less v (admit_one epoch finalized_epoch bound left v)
unfolding admit_one
admit_less epoch finalized_epoch bound left v = less_where (queued_before finalized_epoch bound v || (queued_at finalized_epoch bound v && ltb 0 left)) (less_none refl refl) (less_none refl refl)

slash-less : (s : Settings) (epoch total adjusted : ℕ) (v : Validator) {w : Validator} → slash s epoch total adjusted v ≡ value w → Less v w
unfolding slash decrease_balance
slash-less s epoch total adjusted v {w} e = let a = bound (is_slashing_due s epoch v) _ e in go a.first a.then
  where
    lower : (penalty : ℕ) → cond (ltb v.balance penalty) 0 (v.balance - penalty) ≤ v.balance
    lower penalty = below (ltb v.balance penalty)
      where
        below : (t : Bool) → cond t 0 (v.balance - penalty) ≤ v.balance
        below true = omega arith
        below false = omega arith

    go : (t : Bool) → cond t (bind (slashing_penalty s total adjusted v) (λ penalty. value (with_balance (cond (ltb v.balance penalty) 0 (v.balance - penalty)) v))) (value v) ≡ value w → Less v w
    go true e =
        let b = bound (slashing_penalty s total adjusted v) _ e in
        less_then {v = with_balance (cond (ltb v.balance b.first) 0 (v.balance - b.first)) v} (record { score = refl; balance = lower b.first }) (less-same (value_same b.then))
    go false e = less-same (value_same e)

update_less : (s : Settings) (downward upward : ℕ) (v : Validator) {w : Validator} → update_effective_balance s downward upward v ≡ value w → Less v w
unfolding update_effective_balance
update_less s downward upward v {w} e =
    let a = bound (add64 v.balance downward) _ e in
    go (ltb a.first v.effective_balance) a.then
  where
    updated : Validator
    updated = with_effective_balance (rounded_balance s v) v

    go : (t : Bool) → cond t (value updated) (bind (add64 v.effective_balance upward) (λ high. value (cond (ltb high v.balance) updated v))) ≡ value w → Less v w
    go true e = less_then {v = updated} (less_none refl refl) (less-same (value_same e))
    go false e =
        let b = bound (add64 v.effective_balance upward) (λ high. value (cond (ltb high v.balance) updated v)) e in
        less_then (less_where (ltb b.first v.balance) (less_none refl refl) (less_none refl refl)) (less-same (value_same b.then))

module _ (s : Settings) (p : Plan) where
  last_less : (v : Validator) {w : Validator} → last_by s p v ≡ value w → Less v w
  unfolding rotate_participation
  last_less v e =
      let a = bound (slash s p.shared.current_epoch p.shared.total p.adjusted v) _ e in
      let b = bound (update_effective_balance s p.downward p.upward a.first) _ a.then in
      less_then (slash-less s _ _ _ v a.gave)
      (less_then (update_less s _ _ a.first b.gave)
      (less_then {v = rotate_participation b.first} (less_none refl refl) (less-same (value_same b.then))))

  module _ (t : Course) where
    move_less : (c : ExitQueue × ℕ) (v : Validator) {m : Moved (ExitQueue × ℕ) Validator} → move_with s p.shared.current_epoch t c v ≡ value m → Less v m.held
    move_less c v {m} e =
        let a = bound (turn_with s p.shared.current_epoch t.limit c.0 v) _ e in
        let b = bound (turn_by s p.shared.current_epoch t.limit c.0 v) _ a.gave in
        let turned = ap (λ (k : Moved ExitQueue Validator). k.held) (value_same b.then) in
        let d = bound (admit_with t.activation_epoch t.finalized_epoch t.bound c.1 a.first.held) _ a.then in
        let admitted = ap (λ (k : Moved ℕ Validator). k.held) (value_same d.gave) in
        less_then (turn-less s _ _ c.0 v b.gave)
        (less_then (less-same turned)
        (less_then (admit_less t.activation_epoch t.finalized_epoch t.bound c.1 a.first.held)
        (less_then (less-same admitted) (less-same (ap (λ (k : Moved (ExitQueue × ℕ) Validator). k.held) (value_same d.then))))))

    between-altair : (c : ExitQueue × ℕ) (v : Validator) {m : Moved (ExitQueue × ℕ) Validator} → written_with s p t c v ≡ value m → Between s p v m.held
    between-altair c v e =
        let a = bound (pay_of s p v) _ e in
        let b = bound (move_with s p.shared.current_epoch t c a.first) _ a.then in
        let d = bound (last_by s p b.first.held) _ b.then in
        let less = less_then (move_less c a.first b.gave) (less_then (last_less b.first.held d.gave) (less-same (ap (λ (k : Moved (ExitQueue × ℕ) Validator). k.held) (value_same d.then)))) in
        record { paid = a.first; pays = a.gave; score = less.score; less = less.balance }

-- Electra's two steps
turn_later-less : (n : RegistryNumbers) (churn : ExitChurn) (v : Validator) {t : Turned} → turn_by_balance n churn v ≡ value t → Less v t.validator
unfolding turn_by_balance exit_with
turn_later-less n churn v {t} e =
    either Is (is_queued n v) (told (less_none refl refl))
    (either Is (is_ejected_by n v)
    (either Is (eqb v.exit_epoch FAR_FUTURE_EPOCH) exits (told (less_none refl refl)))
    (either Is (is_activated n v) (told (less_none refl refl)) (told (less_none refl refl)))) e
  where
    Is : Turned → Type 0
    Is u = Less v u.validator

    told : {u w : Turned} → Less v u.validator → ◌≡◌ {A = Checked Turned} (value u) (value w) → Less v w.validator
    told h e = rw (value_same e) at h

    exits : bind (churn_by n.least n.limit churn v.effective_balance) (λ after. bind (add64 after.earliest_exit_epoch n.delay) (λ withdrawable. value (kept after (with_exit after.earliest_exit_epoch withdrawable v)))) ≡ value t → Less v t.validator
    exits e =
        let a = bound (churn_by n.least n.limit churn v.effective_balance) _ e in
        let b = bound (add64 a.first.earliest_exit_epoch n.delay) _ a.then in
        told (less_none refl refl) b.then

slash_later_less : (s : Settings) (epoch per_increment : ℕ) (v : Validator) {w : Validator} → slash_later s epoch per_increment v ≡ value w → Less v w
unfolding slash_later decrease_balance
slash_later_less s epoch per_increment v {w} e =
    let a = bound (is_slashing_due s epoch v) _ e in
    either (λ (u : Validator). Less v u) a.first takes (λ e. less-same (value_same e)) a.then
  where
    takes : bind (mul64 per_increment (v.effective_balance / s.effective_balance_increment)) (λ penalty. value (with_balance (cond (ltb v.balance penalty) 0 (v.balance - penalty)) v)) ≡ value w → Less v w
    takes e =
        let b = bound (mul64 per_increment (v.effective_balance / s.effective_balance_increment)) _ e in
        less_then (record { score = refl; balance = omega (arith, lowered v.balance b.first) }) (less-same (value_same b.then))

module _ (later : ℕ) (s : Settings) (p : Plan) (t : Course) (n : RegistryNumbers) where
  between-later : (churn : ExitChurn) (v : Validator) {m : Moved ExitChurn Validator} → later_with s p n churn v ≡ value m → Between s p v m.held
  between-later churn v e =
      let a = bound (pay_of s p v) _ e in
      let b = bound (churn_with n churn a.first) _ a.then in
      let turned = bound (turn_by_balance n churn a.first) _ b.gave in
      let d = bound (slash_later s p.shared.current_epoch p.adjusted b.first.held) _ b.then in
      let less = less_then (turn_later-less n churn a.first turned.gave) (less_then (less-same (ap (λ (k : Moved ExitChurn Validator). k.held) (value_same turned.then))) (less_then (slash_later_less s p.shared.current_epoch p.adjusted b.first.held d.gave) (less-same (ap (λ (k : Moved ExitChurn Validator). k.held) (value_same d.then))))) in
      record { paid = a.first; pays = a.gave; score = less.score; less = less.balance }

  pub between : (c : Carry) (v : Validator) {m : Moved Carry Validator} → written_by later s p t n c v ≡ value m → Between s p v m.held
  between c v {m} e = either (λ (k : Moved Carry Validator). Between s p v k.held) (eqb later 0) by-queue by-churn e
    where
      by-queue : queued s p t c v ≡ value m → Between s p v m.held
      by-queue e =
          let a = bound (written_with s p t (c.queue, c.left) v) _ e in
          rw (ap (λ (k : Moved Carry Validator). k.held) (value_same a.then)) at (between-altair s p t (c.queue, c.left) v a.gave)

      by-churn : churned s p n c v ≡ value m → Between s p v m.held
      by-churn e =
          let a = bound (later_with s p n c.churn v) _ e in
          rw (ap (λ (k : Moved Carry Validator). k.held) (value_same a.then)) at (between-later c.churn v a.gave)
