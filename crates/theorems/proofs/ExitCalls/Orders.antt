-- The ninth call makes exits one after the other, each on the register as it then stands, under the limit of the one it was lent.
use mathlib.Core.Path.{◌≡◌, refl, ap}
use mathlib.Core.Logic.{inl}
use mathlib.Core.Bool.{Bool, true, false, cond, ◌&&◌, not, false≢true}
use mathlib.Core.List.{List, [], ◌∷◌, map}
use Prim.Native.Nat.{ℕ}
use lib.Dec.{eqb}
use lib.ListN.{get_or}
use Rattle.definitions.specs.declared.Settings.{Settings}
use Rattle.definitions.specs.Lists.{all}
use Rattle.definitions.specs.Record.{Validator, nobody, encode, decode}
use Rattle.definitions.specs.Checked.{number_of, Checked, value, refused, code_of, settle}
use Rattle.definitions.specs.declared.Refusal.TheVariants.{BadShape, NoExit, TooEarly}
use Rattle.definitions.specs.Rules.{settings_under}
use Rattle.definitions.specs.Rust.Phase0.Helpers.{get_current_epoch, initiate_validator_exit}
use Rattle.laws.proofs.Encode.{decode-encode}
use Rattle.definitions_close.specs.CloseBySteps.{says_ended, has_ended, turned_away}
use Rattle.laws.proofs.Tests.{both}
use Rattle.definitions_close.specs.Orders.{Order, may_exit, is_due, process_voluntary_exit, carried_out, answers_to, orders_in, NinthCall, closing_validators, untried, ninth_tests, carries_out, ninth_in_turn, carry_out}
use Rattle.history.proofs.ExitEpochs.Shape.{exit_of, Exits, kept, exit, then}
use Rattle.exit_queue.proofs.exits.Limit.{limit_of, limit-exit}
use Rattle.theorems.specs.ExitCalls.ExitCalls.{tried_by, orders_meet}

module _ (s : Settings) (slot period : ℕ) where
  -- one order: an exit, or nothing
  record Tried (vs ws : List Validator) : Type 0 where
    exits : Exits (limit_of s slot vs ∷ []) vs ws
    stays : limit_of s slot ws ≡ limit_of s slot vs

  nothing : (vs : List Validator) → Tried vs vs
  nothing vs = record { exits = kept refl; stays = refl }

  tried : (vs : List Validator) (o : Order) → Tried vs (settle (process_voluntary_exit s slot period vs o) vs)
  unfolding process_voluntary_exit
  tried vs o = go (may_exit epoch vs o.validator) (is_due epoch period (get_or vs o.validator nobody) o.start) (exit-at) refl
    where
      epoch : ℕ
      epoch = get_current_epoch s slot

      exit-at : Checked (List Validator)
      exit-at = initiate_validator_exit s slot vs o.validator

      go : (a b : Bool) (m : Checked (List Validator)) → exit-at ≡ m → Tried vs (settle (cond a (cond b m (refused TooEarly)) (refused NoExit)) vs)
      go false b m e = nothing vs
      go true false m e = nothing vs
      go true true (refused r) e = nothing vs
      go true true (value ws) e = record { exits = exit s slot o.validator e (inl refl); stays = limit-exit s slot vs o.validator e }

  carried : (vs : List Validator) (os : List Order) → Exits (limit_of s slot vs ∷ []) vs (carried_out s slot period vs os)
  unfolding carried_out
  carried vs [] = kept refl
  carried vs (o ∷ os) =
      let t = tried vs o in
      then t.exits (rw t.stays at (carried (settle (process_voluntary_exit s slot period vs o) vs) os))

  -- no order is carried out: nothing changes
  none-carried : (vs : List Validator) (os : List Order) → all (λ answer. not (eqb answer 0)) (answers_to s slot period vs os) ≡ true → carried_out s slot period vs os ≡ vs
  unfolding carried_out answers_to all
  none-carried vs [] h = refl
  none-carried vs (o ∷ os) h = go (process_voluntary_exit s slot period vs o) h (none-carried vs os)
    where
      go : (m : Checked (List Validator)) → not (eqb (code_of m) 0) && all (λ answer. not (eqb answer 0)) (answers_to s slot period (settle m vs) os) ≡ true → (all (λ answer. not (eqb answer 0)) (answers_to s slot period vs os) ≡ true → carried_out s slot period vs os ≡ vs) → carried_out s slot period (settle m vs) os ≡ vs
      go (value ws) h rest = absurd (false≢true h)
      go (refused r) h rest = rest (both (not (eqb (number_of r) 0)) (all (λ answer. not (eqb answer 0)) (answers_to s slot period vs os)) h).1

module _ (c : NinthCall) where
  abbrev s : Settings
  s = settings_under c.rules

  abbrev slot : ℕ
  slot = c.running.answer.finality.slot

  abbrev vs : List Validator
  vs = closing_validators c

  abbrev os : List Order
  os = orders_in c.running.orders c.orders

  in_turn_lem : eqb c.running.done 8 ≡ true → ninth_tests c ≡ value tt → Exits (orders_meet c) vs (decode (encode (carried_out s slot c.period vs os)))
  unfolding orders_meet tried_by
  in_turn_lem p q = rw (p, q, decode-encode (carried_out s slot c.period vs os)) (go (all (λ answer. not (eqb answer 0)) (answers_to s slot c.period vs os)) refl)
    where
      go : (b : Bool) → all (λ answer. not (eqb answer 0)) (answers_to s slot c.period vs os) ≡ b → Exits (cond b [] (limit_of s slot vs ∷ [])) vs (carried_out s slot c.period vs os)
      go true e = kept (ap (map exit_of) (none-carried s slot c.period vs os e))
      go false e = carried s slot c.period vs os

  pub carries : Exits (orders_meet c) (decode c.closing_registry) (decode (carry_out c).closing_registry)
  unfolding carry_out ninth_in_turn carries_out
  carries = go (has_ended c.running) (eqb c.running.done 8) refl (ninth_tests c) refl
    where
      go : (a b : Bool) → eqb c.running.done 8 ≡ b → (t : Checked (Unit {0})) → ninth_tests c ≡ t → Exits (orders_meet c) vs (decode (cond a (untried (says_ended c.running) c) (cond b (ninth_in_turn c t) (untried (turned_away BadShape c.running) c))).closing_registry)
      go true b p t q = kept refl
      go false false p t q = kept refl
      go false true p (refused r) q = kept refl
      go false true p (value u) q = in_turn_lem p q
