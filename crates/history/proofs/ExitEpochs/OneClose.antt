-- An accepted close, and an accepted exit, have the interface.
use mathlib.Core.Path.{◌≡◌, refl, sym, ap, ◌∙◌, subst}
use mathlib.Core.Logic.{inl}
use mathlib.Core.Bool.{Bool, true, false, cond}
use mathlib.Core.List.{List, [], ◌∷◌, map}
use Prim.Native.Nat.{ℕ}
use lib.Dec.{T, eqb, eqb→eq}
use lib.ListN.{length, get_or, set}
use Rattle.definitions.specs.declared.ActivationLimit.{ActivationLimit}
use Rattle.definitions.specs.declared.ActivationLimit.TheVariants.{Churn}
use Rattle.definitions.specs.declared.Settings.{Settings}
use Rattle.definitions.specs.Lists.{range}
use Rattle.definitions.specs.Record.{Validator, BeaconState, nobody, encode, decode, FAR_FUTURE_EPOCH as FAR}
use Rattle.definitions.specs.Checked.{Checked, value, refused, number_of, bind, fold_checked, code_of}
use Rattle.definitions.specs.Refusals.{after_tests, closing_buffer}
use Rattle.definitions.specs.LeafRefusals.{exit_tests}
use Rattle.definitions.specs.Document.Phase0.EpochProcessing.{queue_eligible, is_ejected}
use Rattle.definitions.specs.Rust.Phase0.Helpers.{is_active_validator, get_current_epoch, initiate_validator_exit}
use Rattle.definitions.specs.Rust.Phase0.EpochProcessing.{update_registry_at, activation_limit, limited_registry_updates}
use Rattle.definitions.specs.Close.{Call, state_of, finalized_epoch_of, close}
use Rattle.laws.proofs.Checked.{bound, value_same, number_not_zero}
use Rattle.laws.proofs.Encode.{decode-encode}
use Rattle.laws.proofs.Frame.Registry.{eligible-writes, dequeued-writes}
use Rattle.history.proofs.Steps.{still-told}
use Rattle.history.proofs.EightSteps.{Parts, parts, same-slot, handed-still}
use Rattle.history.proofs.WholeClose.{Accepted, accepted-close}
use Rattle.history.specs.ExitEpochs.{exit_epoch, settings_of, closing, exiting, event, Called, Defined}
use Rattle.history.proofs.ExitEpochs.Shape.{exit_of, Exits, kept, exit, then, Shaped}
use Rattle.exit_queue.proofs.exits.Limit.{limit_of, active, limit-by, limit-exit}
use Rattle.laws.proofs.Tests.{either}

-- The registry step

module _ (s : Settings) (slot limit : ℕ) where
  -- the register became the other by exits under this limit, and the limit stays
  record Made (vs ws : List Validator) : Type 0 where
    exits : Exits (limit ∷ []) vs ws
    stays : limit_of s slot ws ≡ limit

  made-both : {us vs ws : List Validator} → Made us vs → Made vs ws → Made us ws
  made-both a b = record { exits = then a.exits b.exits; stays = b.stays }

  made-given : {vs ws : List Validator} → limit_of s slot vs ≡ limit → ◌≡◌ {A = Checked (List Validator)} (value vs) (value ws) → Made vs ws
  made-given {vs} e p = record { exits = kept (ap (map exit_of) (sym (value_same p))); stays = ap (limit_of s slot) (sym (value_same p)) ∙ e }

  made_kept : (vs ws : List Validator) → limit_of s slot vs ≡ limit → map exit_of ws ≡ map exit_of vs → map (active s slot) ws ≡ map (active s slot) vs → Made vs ws
  made_kept vs ws e h k = record { exits = kept h; stays = limit-by s slot vs ws k ∙ e }

  made-exit : (vs : List Validator) (i : ℕ) {ws : List Validator} → limit_of s slot vs ≡ limit → initiate_validator_exit s slot vs i ≡ value ws → Made vs ws
  made-exit vs i e p = record { exits = exit s slot i p (inl e); stays = limit-exit s slot vs i p ∙ e }

  turn : (vs : List Validator) (i : ℕ) {ws : List Validator} → limit_of s slot vs ≡ limit → update_registry_at s slot vs i ≡ value ws → Made vs ws
  unfolding update_registry_at is_active_validator
  turn vs i {ws} e p = made-both first (either (Made queued) (is_ejected s epoch (get_or queued i nobody)) (made-exit queued i first.stays) (made-given first.stays) p)
    where
      epoch : ℕ
      epoch = get_current_epoch s slot

      queued : List Validator
      queued = set vs i (queue_eligible s epoch (get_or vs i nobody))

      first : Made vs queued
      first = made_kept vs queued e (eligible-writes exit_of (λ x v. refl) s epoch vs i) (eligible-writes (active s slot) (λ x v. refl) s epoch vs i)

  turns : (is : List ℕ) (vs : List Validator) {ws : List Validator} → limit_of s slot vs ≡ limit → fold_checked (update_registry_at s slot) vs is ≡ value ws → Made vs ws
  unfolding fold_checked
  turns [] vs e p = made-given e p
  turns (i ∷ is) vs e p =
      let a = bound _ _ p in
      let t = turn vs i e a.gave in
      made-both t (turns is a.first t.stays a.then)

  registry-exits : (l : ActivationLimit) (finalized_epoch : ℕ) (vs : List Validator) {ws : List Validator} → limit_of s slot vs ≡ limit → limited_registry_updates l s slot finalized_epoch vs ≡ value ws → Exits (limit ∷ []) vs ws
  unfolding limited_registry_updates
  registry-exits l finalized_epoch vs {ws} e p =
      let a = bound _ _ p in
      let b = bound _ _ a.then in
      then (turns (range 0 (length vs)) vs e a.gave).exits
      (kept (ap (map exit_of) (sym (value_same b.then)) ∙ dequeued-writes exit_of (λ x v. refl) b.first (activation_limit l (limit_of s slot a.first)) finalized_epoch a.first))

-- The eight steps

pub eight-exits : (l : ActivationLimit) (s : Settings) (a e : BeaconState) → Parts l s a e → Exits (limit_of s a.finality.slot a.validators ∷ []) a.validators e.validators
unfolding is_active_validator
eight-exits l s a e p =
    then (kept (still-told exit_of (λ v. refl) (handed-still p)))
    (then
    (registry-exits s slot (limit_of s slot a.validators) l f p.rewarded.validators (limit-by s slot a.validators p.rewarded.validators (still-told (active s slot) (λ v. refl) (handed-still p)))
    (subst (λ (x : ℕ). limited_registry_updates l s x f p.rewarded.validators ≡ value p.registered.validators) (same-slot p) p.registers.gave))
    (kept (still-told exit_of (λ v. refl) p.ends.validators)))
  where
    slot : ℕ
    slot = a.finality.slot

    f : ℕ
    f = finalized_epoch_of p.rewarded

close-exits : (c : Call) → T (eqb (close c).refusal 0) → Exits (limit_of (settings_of c) c.finality.slot (decode c.registry) ∷ []) (decode c.registry) (decode (close c).closing_registry)
close-exits c t =
    subst (Exits (limit_of (settings_of c) c.finality.slot (decode c.registry) ∷ []) (decode c.registry)) (sym (ap decode a.registry ∙ decode-encode a.state.validators))
    (eight-exits Churn (settings_of c) (state_of c) a.state (parts Churn (settings_of c) (state_of c) a.worked))
  where
    a : Accepted c
    a = accepted-close c t

-- An exit

module _ (s : Settings) (slot i : ℕ) (registry : List ℕ) where
  abbrev tests : Checked (Unit {0})
  tests = exit_tests s slot i registry

  abbrev worked : Checked (List Validator)
  worked = initiate_validator_exit s slot (decode registry) i

  abbrev limits : List ℕ
  limits = cond (eqb (exit_epoch (decode registry) i) FAR) (limit_of s slot (decode registry) ∷ []) []

  -- who leaves already is left as he is
  exit-made : {ws : List Validator} → worked ≡ value ws → Exits limits (decode registry) ws
  unfolding initiate_validator_exit
  exit-made {ws} p = go (eqb (exit_epoch (decode registry) i) FAR) refl
    where
      go : (b : Bool) → eqb (exit_epoch (decode registry) i) FAR ≡ b → Exits (cond b (limit_of s slot (decode registry) ∷ []) []) (decode registry) ws
      go true e = exit s slot i p (inl refl)
      go false e = kept (ap (map exit_of) (sym (value_same (rw e at p))))

  exit-exits : (t : Checked (Unit {0})) (w : Checked (List Validator)) → w ≡ worked → T (eqb (code_of (after_tests t w)) 0) → Exits limits (decode registry) (decode (closing_buffer encode t w registry registry))
  unfolding after_tests bind closing_buffer
  exit-exits (value u) (value ws) e t = subst (Exits limits (decode registry)) (sym (decode-encode ws)) (exit-made (sym e))
  exit-exits (value u) (refused r) e t = absurd (number_not_zero r (eqb→eq (number_of r) 0 t))
  exit-exits (refused r) w e t = absurd (number_not_zero r (eqb→eq (number_of r) 0 t))

-- Both

pub shaped : (c : Called) → Defined c → Shaped (event c)
shaped (closing c o) d t = rw d (close-exits c (rw d at t))
shaped (exiting s slot i registry r registry_after) d t = rw d.1 (exit-exits s slot i registry (tests s slot i registry) (worked s slot i registry) refl (rw d.0 at t))
