-- Each step: the Rust's form and the document's 64-bit evaluation are equal, or they part at a listed record.
use mathlib.Core.Path.{◌≡◌, refl, sym, ap, ◌∙◌}
use mathlib.Core.Bool.{Bool, true, false}
use mathlib.Core.List.{List, [], ◌∷◌}
use mathlib.Core.Logic.{◌⊎◌, inl, inr, ⊎_elim}
use Prim.Native.Nat.{ℕ, ◌^◌, ◌≤◌, ◌<◌}
use native.Mathlib.Decide.{dec_lt}
use native.Mathlib.Omega.{arith}
use borrow.Author.Tests.{eqb-false, ne_eqb}
use lib.Dec.{eqb}
use lib.ListN.{take}
use Rattle.definitions.specs.declared.ActivationLimit.{ActivationLimit}
use Rattle.definitions.specs.declared.Settings.{Settings}
use Rattle.definitions.specs.declared.Deltas.{Deltas}
use Rattle.definitions.specs.Record.{Validator, BeaconState}
use Rattle.definitions.specs.Checked.{value, refused, bind, map_checked, fold_checked}
use Rattle.definitions.specs.declared.Refusal.TheVariants.{Overflow}
use Rattle.definitions.specs.Document.Phase0.Helpers.{get_current_epoch, get_previous_epoch}
use Rattle.definitions.specs.Document.Phase0.EpochProcessing as document_epoch
use Rattle.definitions.specs.Document.Phase0.EpochProcessing.{is_eligible, activation_queue, dequeued}
use Rattle.definitions.specs.Document.Altair.Helpers.{get_unslashed_participating_indices}
use Rattle.definitions.specs.Rust.Phase0.Helpers as rust_phase0
use Rattle.definitions.specs.Rust.Phase0.EpochProcessing as rust_epoch
use Rattle.definitions.specs.Rust.Altair.EpochProcessing as rust
use Rattle.definitions.specs.Close as Rust
use Rattle.definitions.specs.Close.{finalized_epoch_of, Step, justification_step, inactivity_step, rewards_step, registry_step, slashings_step, effective_balances_step, slashings_reset_step, participation_flags_step}
use Rattle.agreement.specs.Agreement.{limited_document_step}
use Rattle.laws.specs.Bounds.{Passed}
use Rattle.theorems.specs.Completeness.ListByList as by_lists
use Rattle.theorems.specs.Completeness.DocumentIn64Bits as in64
use Rattle.theorems.specs.Completeness.Rows.{hits, hitters, FinalizedAhead, downward, upward, Row, nobody_eligible, nobody_hits, no_validators}
use Rattle.theorems.specs.Completeness.Complete.{StepParts, CompleteStep, EveryRow}
use Rattle.laws.proofs.Checked.{bound, map-alike}
use Rattle.agreement.proofs.Agrees.{Agrees, IsOverflow, not_refused}
use Rattle.laws.proofs.Fits.{mul64-fits}
use Rattle.laws.proofs.Bounds.{given}
use Rattle.agreement.proofs.EffectiveBalances.{effective-balances}
use Rattle.theorems.proofs.Completeness.Laws.{bind-same, fold_gives, Never, never-refused, never_first, never-then, met-nobody, passes-all, refuses, refused_or_parted}
use Rattle.theorems.proofs.Completeness.Agrees.{each_step}
use Rattle.theorems.proofs.Completeness.ListByList.{same_by_lists}
use Rattle.theorems.proofs.Completeness.Delay.{Delay, answered, below, delay, score-same, list_same, leak-refused, score-refused, totals-refused, deltas-refused}
use Rattle.arithmetic.proofs.Operations.{mul64-refused}

module _ (l : ActivationLimit) where
  -- equal, or parted
  abbrev Settled : Settings → BeaconState → Step → Type 0
  Settled s st k = (Rust.limited_step l s st k ≡ in64.limited_step l s st k) ⊎ StepParts l s st k

  -- where the Rust's refuses, it is enough to list the record on which the other gives a value
  rust-refused : (s : Settings) (st : BeaconState) (k : Step) → Rust.limited_step l s st k ≡ refused Overflow → Agrees IsOverflow (in64.limited_step l s st k) (limited_document_step l s st k) → ((st' : BeaconState) → in64.limited_step l s st k ≡ value st' → Row s st k) → Settled s st k
  rust-refused s st k e h met =
      ⊎_elim (λ p. inl p) (λ p. inr (record { row = p.0; rust = e; document = p.1 })) (refused_or_parted (in64.limited_step l s st k) e h met)

  -- Inactivity and rewards

  -- in the genesis epoch both steps do nothing
  at-genesis : (s : Settings) (st : BeaconState) → eqb (get_current_epoch s st.finality.slot) 0 ≡ true → (Rust.limited_step l s st inactivity_step ≡ in64.limited_step l s st inactivity_step) × (Rust.limited_step l s st rewards_step ≡ in64.limited_step l s st rewards_step)
  unfolding Rust.limited_step rust.process_inactivity_updates rust.process_rewards_and_penalties in64.limited_step in64.process_inactivity_updates in64.process_rewards_and_penalties
  at-genesis s st e = (rw e, rw e)

  inactivity-same : (s : Settings) (st : BeaconState) → rust_epoch.is_in_inactivity_leak s st.finality.slot (finalized_epoch_of st) ≡ value (document_epoch.is_in_inactivity_leak s st.finality.slot (finalized_epoch_of st)) → Rust.limited_step l s st inactivity_step ≡ in64.limited_step l s st inactivity_step
  unfolding Rust.limited_step rust.process_inactivity_updates in64.limited_step in64.process_inactivity_updates bind
  inactivity-same s st l = rw (l, map-alike (score-same s _ _ l) st.validators)

  rewards-same : (s : Settings) (st : BeaconState) → rust_epoch.is_in_inactivity_leak s st.finality.slot (finalized_epoch_of st) ≡ value (document_epoch.is_in_inactivity_leak s st.finality.slot (finalized_epoch_of st)) → Rust.limited_step l s st rewards_step ≡ in64.limited_step l s st rewards_step
  unfolding Rust.limited_step in64.limited_step by_lists.process_rewards_and_penalties in64.process_rewards_and_penalties
  rewards-same s st l =
      let list = list_same s st.finality.slot (finalized_epoch_of st) l st.validators in
      rw (← same_by_lists s s.inactivity_penalty_quotient_altair st.finality.slot (finalized_epoch_of st) st.validators, list 0, list 1, list 2)

  module _ (s : Settings) (st : BeaconState) (a : FinalizedAhead s st) where
    started : eqb (get_current_epoch s st.finality.slot) 0 ≡ false
    started = ne_eqb (get_current_epoch s st.finality.slot) 0 (λ e. omega arith)

    pub inactivity-refused : Rust.limited_step l s st inactivity_step ≡ refused Overflow
    unfolding Rust.limited_step rust.process_inactivity_updates bind
    inactivity-refused = rw (started, leak-refused s _ _ a.ahead)

    rewards-refused : Rust.limited_step l s st rewards_step ≡ refused Overflow
    unfolding Rust.limited_step rust.process_rewards_and_penalties bind
    rewards-refused = rw (started, totals-refused s _ _ a.ahead st.validators 0)

    nobody-eligible : (st' : BeaconState) → in64.limited_step l s st inactivity_step ≡ value st' → Row s st inactivity_step
    unfolding in64.limited_step in64.process_inactivity_updates
    nobody-eligible st' e =
        nobody_eligible a
        (met-nobody (is_eligible (get_previous_epoch s st.finality.slot)) (score-refused s _ _ a.ahead) st.validators
        (bound _ _ (rw started at e)).gave)

    no-hitters : (flag_index : ℕ) {ds : List Deltas} → in64.get_flag_index_deltas s st.finality.slot (finalized_epoch_of st) st.validators flag_index ≡ value ds → hitters s st flag_index ≡ []
    unfolding in64.get_flag_index_deltas get_unslashed_participating_indices
    no-hitters flag_index e =
        met-nobody (hits s st.finality.slot flag_index) (deltas-refused s _ _ a.ahead flag_index _) st.validators (bound _ _ e).then

    nobody-hits : (st' : BeaconState) → in64.limited_step l s st rewards_step ≡ value st' → Row s st rewards_step
    unfolding in64.limited_step in64.process_rewards_and_penalties
    nobody-hits st' e =
        let source = bound _ _ (bound _ _ (rw started at e)).gave in
        let target = bound _ _ source.then in
        let head = bound _ _ target.then in
        nobody_hits a (no-hitters 0 source.gave) (no-hitters 1 target.gave) (no-hitters 2 head.gave)

  both-complete : (s : Settings) (st : BeaconState) (t : Bool) → eqb (get_current_epoch s st.finality.slot) 0 ≡ t → Delay s st.finality.slot (finalized_epoch_of st) → Settled s st inactivity_step × Settled s st rewards_step
  both-complete s st true e d = (inl (at-genesis s st e).0, inl (at-genesis s st e).1)
  both-complete s st false e (answered l) = (inl (inactivity-same s st l), inl (rewards-same s st l))
  both-complete s st false e (below f) =
      let n = eqb-false (get_current_epoch s st.finality.slot) 0 e in
      let a : FinalizedAhead s st = record { started = omega arith; ahead = f } in (
        rust-refused s st inactivity_step (inactivity-refused s st a) (each_step l s st inactivity_step) (nobody-eligible s st a),
        rust-refused s st rewards_step (rewards-refused s st a) (each_step l s st rewards_step) (nobody-hits s st a),
      )

  delayed_complete : (s : Settings) (st : BeaconState) → Settled s st inactivity_step × Settled s st rewards_step
  delayed_complete s st = both-complete s st (eqb (get_current_epoch s st.finality.slot) 0) refl (delay s st.finality.slot (finalized_epoch_of st))

  -- Registry: the tests keep the activation epoch in 64 bits

  dequeued-same : (s : Settings) (state_slot finalized_epoch limit : ℕ) (vs : List Validator) → Passed s state_slot → bind (rust_phase0.compute_activation_exit_epoch s (get_current_epoch s state_slot)) (λ epoch. value (dequeued epoch limit finalized_epoch vs)) ≡ fold_checked (in64.activate_at s state_slot) vs (take limit (activation_queue finalized_epoch vs))
  unfolding in64.activate_at dequeued bind
  dequeued-same s state_slot finalized_epoch limit vs p =
      let e = (given s state_slot p).activation_exit in
      rw e (sym (fold_gives (λ ws i. rw e) vs _))

  registry-complete : (s : Settings) (st : BeaconState) → Passed s st.finality.slot → Settled s st registry_step
  unfolding Rust.limited_step rust_epoch.limited_registry_updates in64.limited_step in64.limited_registry_updates
  registry-complete s st p =
      inl (ap (Rust.on_validators st) (bind-same _ (λ queued. dequeued-same s st.finality.slot (finalized_epoch_of st) _ queued p)))

  -- Effective balances

  no-validators : (s : Settings) → ((v : Validator) → Never (in64.update_effective_balance s v)) → (vs : List Validator) {ws : List Validator} → map_checked (in64.update_effective_balance s) vs ≡ value ws → vs ≡ []
  unfolding map_checked
  no-validators s h [] e = refl
  no-validators s h (v ∷ vs) e = absurd ((h v).never _ (bound _ _ e).gave)

  empty-registry : (s : Settings) (st st' : BeaconState) → ((v : Validator) → Never (in64.update_effective_balance s v)) → in64.limited_step l s st effective_balances_step ≡ value st' → st.validators ≡ []
  unfolding in64.limited_step in64.process_effective_balance_updates
  empty-registry s st st' h e = no-validators s h st.validators (bound _ _ e).gave

  balance-same : (s : Settings) → downward s < 2 ^ 64 → upward s < 2 ^ 64 → (v : Validator) → rust_epoch.update_effective_balance s (downward s) (upward s) v ≡ in64.update_effective_balance s v
  unfolding in64.update_effective_balance bind
  balance-same s d u v = rw (mul64-fits _ _ d, mul64-fits _ _ u)

  both-fit : (s : Settings) (st : BeaconState) → downward s < 2 ^ 64 → upward s < 2 ^ 64 → Settled s st effective_balances_step
  unfolding Rust.limited_step rust_epoch.process_effective_balance_updates in64.limited_step in64.process_effective_balance_updates bind
  both-fit s st d u = inl (rw (mul64-fits _ _ d, mul64-fits _ _ u, map-alike (balance-same s d u) st.validators))

  module _ (s : Settings) (st : BeaconState) where
    downward-refused : 2 ^ 64 ≤ downward s → Rust.limited_step l s st effective_balances_step ≡ refused Overflow
    unfolding Rust.limited_step rust_epoch.process_effective_balance_updates bind
    downward-refused d = rw (mul64-refused _ _ d)

    upward-refused : 2 ^ 64 ≤ upward s → Rust.limited_step l s st effective_balances_step ≡ refused Overflow
    unfolding Rust.limited_step rust_epoch.process_effective_balance_updates
    upward-refused u =
        refuses (effective-balances l s st)
        (rw (mul64-refused _ _ u) (never_first _ (never-then _ (λ d. never_first _ never-refused))))

    balance-refused : (2 ^ 64 ≤ downward s) ⊎ (2 ^ 64 ≤ upward s) → (v : Validator) → Never (in64.update_effective_balance s v)
    unfolding in64.update_effective_balance
    balance-refused (inl d) v = rw (mul64-refused _ _ d) (never_first _ never-refused)
    balance-refused (inr u) v = rw (mul64-refused _ _ u) (never-then _ (λ d. never_first _ never-refused))

    one-leaves : Rust.limited_step l s st effective_balances_step ≡ refused Overflow → (2 ^ 64 ≤ downward s) ⊎ (2 ^ 64 ≤ upward s) → Settled s st effective_balances_step
    one-leaves e p =
        rust-refused s st effective_balances_step e (each_step l s st effective_balances_step)
        (λ st' g. no_validators (empty-registry s st st' (balance-refused p) g) p)

  effective_balances-complete : (s : Settings) (st : BeaconState) → Dec (downward s < 2 ^ 64) → Dec (upward s < 2 ^ 64) → Settled s st effective_balances_step
  effective_balances-complete s st (yes d) (yes u) = both-fit s st d u
  effective_balances-complete s st (yes d) (no n) = let u : 2 ^ 64 ≤ upward s = omega arith in one-leaves s st (upward-refused s st u) (inr u)
  effective_balances-complete s st (no n) u = let d : 2 ^ 64 ≤ downward s = omega arith in one-leaves s st (downward-refused s st d) (inl d)

-- Every step

pub complete-step : CompleteStep
unfolding in64.limited_step
complete-step l s st justification_step p = inl refl
complete-step l s st inactivity_step p = (delayed_complete l s st).0
complete-step l s st rewards_step p = (delayed_complete l s st).1
complete-step l s st registry_step p = registry-complete l s st (p refl)
complete-step l s st slashings_step p = inl refl
complete-step l s st effective_balances_step p = effective_balances-complete l s st (dec_lt (downward s) (2 ^ 64)) (dec_lt (upward s) (2 ^ 64))
complete-step l s st slashings_reset_step p = inl refl
complete-step l s st participation_flags_step p = inl refl

-- The rows

skips : (s : Settings) (state_slot finalized_epoch : ℕ) (v : Validator) → is_eligible (get_previous_epoch s state_slot) v ≡ false → in64.update_inactivity_score s state_slot finalized_epoch v ≡ value v
unfolding in64.update_inactivity_score
skips s state_slot finalized_epoch v p = rw p

module _ (l : ActivationLimit) where
  rows-refused : (s : Settings) (st : BeaconState) (k : Step) → Row s st k → Rust.limited_step l s st k ≡ refused Overflow
  rows-refused s st inactivity_step (nobody_eligible a e) = inactivity-refused l s st a
  rows-refused s st rewards_step (nobody_hits a e f g) = rewards-refused l s st a
  rows-refused s st justification_step x = elim x [ ]
  rows-refused s st registry_step x = elim x [ ]
  rows-refused s st slashings_step x = elim x [ ]
  rows-refused s st slashings_reset_step x = elim x [ ]
  rows-refused s st participation_flags_step x = elim x [ ]
  rows-refused s st effective_balances_step (no_validators e (inl d)) = downward-refused l s st d
  rows-refused s st effective_balances_step (no_validators e (inr u)) = upward-refused l s st u

  inactivity-row : (s : Settings) (st : BeaconState) → Row s st inactivity_step → in64.limited_step l s st inactivity_step ≡ value st
  unfolding in64.limited_step in64.process_inactivity_updates bind
  inactivity-row s st (nobody_eligible a e) = rw (started l s st a, passes-all (is_eligible (get_previous_epoch s st.finality.slot)) (skips s st.finality.slot (finalized_epoch_of st)) st.validators e)

  effective_balances-row : (s : Settings) (st : BeaconState) → Row s st effective_balances_step → in64.limited_step l s st effective_balances_step ≡ value st
  unfolding in64.limited_step in64.process_effective_balance_updates map_checked bind
  effective_balances-row s st (no_validators e p) = rw e

  pub every-row : (s : Settings) (st : BeaconState) → EveryRow l s st
  every-row s st =
      record {
        refuses = rows-refused s st;
        inactivity = inactivity-row s st;
        effective_balances = effective_balances-row s st;
        parts = λ k st' row e. record { row = row; rust = rows-refused s st k row; document = rw ((each_step l s st k).same st' e) e };
        differ = λ k p e. not_refused (sym p.document ∙ sym e ∙ p.rust);
      }
