-- The orders carried out, and the call's answer.
use mathlib.Core.Path.{◌≡◌, sym, ap, ◌∙◌}
use mathlib.Core.Bool.{true, false}
use mathlib.Core.List.{List}
use Prim.Native.Nat.{ℕ, ◌+◌, ◌<◌}
use native.Mathlib.Nat.{div-le_self}
use native.Mathlib.Omega.{arith}
use lib.Dec.{eqb}
use Rattle.definitions.specs.declared.Settings.{Settings}
use Rattle.definitions.specs.declared.ExitQueue.{ExitQueue}
use Rattle.definitions.specs.Record.{encode, decode, FAR_FUTURE_EPOCH}
use Rattle.definitions.specs.declared.Refusal.{Refusal}
use Rattle.definitions.specs.Checked.{Checked, value, refused}
use Rattle.definitions.specs.ExitQueue.{queue_of}
use Rattle.definitions.specs.Rules.{settings_under}
use Rattle.definitions.specs.Rust.Phase0.Helpers.{compute_epoch_at_slot, get_current_epoch, get_validator_churn_limit}
use Rattle.definitions.specs.Document.Phase0.Helpers as document
use Rattle.definitions_close.specs.declared.Running.{Running}
use Rattle.definitions_close.specs.CloseBySteps.{turned_away}
use Rattle.definitions_close.specs.Orders.{orders_in, NinthCall, ninth_tests, carries_out, ninth_in_turn, carry_out}
use Rattle.laws.proofs.Encode.{decode-encode}
use Rattle.laws.specs.Bounds.{Passed}
use Rattle.laws.proofs.Bounds.{given}
use Rattle.refusals.proofs.Laws.{small, good-settings}
use Rattle.definitions_close.specs.Calls.{ninth_outcome}
use Rattle.orders.specs.Tried.{order_by, AllTried}
use Rattle.orders.proofs.Tried.{orders-are}
use Rattle.orders.specs.Ninth.{Ready, carried_under}

-- the activation exit epoch is no FAR
pub real : (s : Settings) (slot : ℕ) → Passed s slot → {epoch : ℕ} → epoch ≡ get_current_epoch s slot → epoch + 1 + s.max_seed_lookahead < FAR_FUTURE_EPOCH
unfolding get_current_epoch compute_epoch_at_slot
real s slot p e = omega (arith, e, small slot p.small, (good-settings s p.good).small.max_seed_lookahead, div-le_self slot s.slots_per_epoch)

module _ (s : Settings) (period : ℕ) (running : Running) (registry orders answers : List ℕ) (h : Ready s running registry orders answers) where
  abbrev slot : ℕ
  slot = running.answer.finality.slot

  pub carried : {epoch limit : ℕ} → epoch ≡ get_current_epoch s slot → limit ≡ get_validator_churn_limit s slot (decode registry) → {after answered : List ℕ} {q : ExitQueue} → AllTried (order_by epoch period (epoch + 1 + s.max_seed_lookahead) limit s.min_validator_withdrawability_delay) registry orders answers running.orders after answered q → ninth_outcome (record { refusal = 0; ended = 0; running = record { done = 9; answer = record { refusal = running.answer.refusal; finality = running.answer.finality; queue = q; raised = running.answer.raised; test = running.answer.test }; orders = 0 } }) after answered ≡ carried_under s period running registry orders answers
  unfolding carried_under document.compute_activation_exit_epoch
  carried {epoch} {limit} e l {after} {answered} {q} t =
      let least = get_current_epoch s slot + 1 + s.max_seed_lookahead in
      let tried : AllTried (order_by (get_current_epoch s slot) period least limit s.min_validator_withdrawability_delay) registry orders answers running.orders after answered q = rw e at t in
      let o = orders-are s slot period least limit (given s slot h.settings).activation_exit (decode registry) (sym l) (orders_in running.orders orders) in
      let register = tried.registry ∙ ap encode o.0 in
      let pair = tried.queue ∙ ap (λ (xs : List ℕ). queue_of (decode xs)) register ∙ ap queue_of (decode-encode _) in
      rw (pair, register, tried.answers, o.1)

module _ (n : NinthCall) {x : Checked (Unit {0})} (e : x ≡ ninth_tests n) (d : n.running.done ≡ 8) where
  at-eight : (eqb n.running.done 9 ≡ false) × (eqb n.running.done 8 ≡ true)
  at-eight = (ap (λ (k : ℕ). eqb k 9) d, ap (λ (k : ℕ). eqb k 8) d)

  pub not_carried : {p : Refusal} → x ≡ refused p → ninth_outcome (turned_away p n.running) n.closing_registry n.answers ≡ carry_out n
  unfolding carry_out ninth_in_turn
  not_carried z = rw (at-eight.0, at-eight.1, sym e ∙ z)

  pub carries-out : x ≡ value tt → carried_under (settings_under n.rules) n.period n.running n.closing_registry n.orders n.answers ≡ carry_out n
  unfolding carry_out ninth_in_turn carries_out carried_under
  carries-out z = rw (at-eight.0, at-eight.1, sym e ∙ z)
