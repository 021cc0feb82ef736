-- What each step after the first leaves of the record so far.
use mathlib.Core.Path.{◌≡◌, refl, sym, ap, ◌∙◌}
use mathlib.Core.List.{List}
use Prim.Native.Nat.{ℕ, zero, suc, ◌*◌, ◌/◌, ◌≤◌}
use native.Mathlib.Omega.{arith}
use lib.ListN.{length, replicate}
use Rattle.definitions.specs.declared.Settings.{Settings}
use Rattle.definitions.specs.declared.ActivationLimit.TheVariants.{Churn}
use Rattle.definitions.specs.declared.Finality.{Finality}
use Rattle.definitions.specs.Record.{Validator, BeaconState, encode, decode}
use Rattle.definitions.specs.Updates.{with_validators, with_slashings}
use Rattle.definitions.specs.Checked.{Checked, value, refused, bind, done, settle}
use Rattle.definitions.specs.Checked as checked
use Rattle.definitions.specs.RegisterOrder.{registry_updates_to}
use Rattle.definitions.specs.Rust.Phase0.EpochProcessing.{process_registry_updates, reset_slashings}
use Rattle.definitions.specs.Close.{Step, inactivity_step, rewards_step, registry_step, slashings_step, effective_balances_step, participation_flags_step, step, limited_step, on_validators}
use Rattle.definitions_close.specs.CloseBySteps.{step_after, amounts_by}
use Rattle.laws.proofs.Checked.{value_same, bound}
use Rattle.laws.proofs.Encode.{length-decode, encode-decode}
use Rattle.laws.specs.Ran.{Ran}
use Rattle.laws.proofs.ActivationQueue.Stopped.{stopped}
use Rattle.laws_close.proofs.Amounts.Rewarded.{rewarded}
use Rattle.laws_close.proofs.Amounts.Slashed.{slashed}
use Rattle.close_by_steps.specs.Booked.{RewardsBooked}
use Rattle.close_by_steps.specs.Taken.{SlashingsBooked}
use Rattle.registry_close.specs.Worked.{state_now}
use Rattle.close_by_steps.specs.Later.{plain_by, LaterRan}

-- the registry step has its stop behind the last validator
pub ran-whole : (s : Settings) (state_slot finalized_epoch : ℕ) (xs : List ℕ) → length xs ≡ 10 * (length xs / 10) → {ys : List ℕ} {r : Checked (Unit {0})} → Ran (registry_updates_to (length xs / 10) s state_slot finalized_epoch (decode xs)) ys r → Ran (process_registry_updates s state_slot finalized_epoch (decode xs)) ys r
ran-whole s state_slot finalized_epoch xs long h =
    rw (sym (ap (λ (k : ℕ). registry_updates_to k s state_slot finalized_epoch (decode xs)) (sym (length-decode (length xs / 10) xs long)) ∙ (stopped Churn s state_slot finalized_epoch (decode xs)).whole)) h

-- a step over the registry, which is m there
module _ (s : Settings) (st : BeaconState) (lent : List ℕ) where
  done-by : (m : Checked (List Validator)) → done (on_validators st m) ≡ done m
  unfolding bind
  done-by (value vs) = refl
  done-by (refused r) = refl

  over : {done : ℕ} (k : Step) (m : Checked (List Validator)) → step_after done ≡ k → step s st k ≡ on_validators st m → {ys amounts : List ℕ} {r : Checked (Unit {0})} → Ran m ys r → ((ws : List Validator) → m ≡ value ws → amounts ≡ settle (amounts_by k s st lent) (replicate (length lent) 0)) → LaterRan done s st lent ys st.slashings amounts r
  over {done} k m d e {ys} {amounts} {r} h a =
      let same-step = ap (step s st) d ∙ e in
      record {
        is = h.is ∙ sym (done-by m) ∙ ap checked.done (sym same-step);
        held = λ after q.
            (let b = bound m (λ vs. value (with_validators vs st)) (sym same-step ∙ q) in
            let same = value_same b.then in
            (h.held b.first b.gave ∙ ap (λ (x : BeaconState). encode x.validators) same, ap (λ (x : BeaconState). x.slashings) same, ap (λ (x : BeaconState). x.finality) (sym same), a b.first b.gave ∙ ap (λ (j : Step). settle (amounts_by j s st lent) (replicate (length lent) 0)) (sym d)));
      }

-- each step
module _ (s : Settings) (f : Finality) (registry slashings roots lent : List ℕ) where
  abbrev st : BeaconState
  st = state_now f registry slashings roots

  pub by-rewards : {done : ℕ} → done ≡ 2 → {ys amounts : List ℕ} {r : Checked (Unit {0})} → RewardsBooked s s.inactivity_penalty_quotient_altair f.slot f.finalized_checkpoint.epoch registry ys amounts r → LaterRan done s st lent ys slashings amounts r
  unfolding limited_step amounts_by bind
  by-rewards d {ys} {amounts} {r} h =
      over s st lent rewards_step _ (ap step_after d) refl h.ran
      (λ ws q.
      let w = rewarded s s.inactivity_penalty_quotient_altair f.slot f.finalized_checkpoint.epoch (decode registry) q in
      rw w.are (h.books (h.ran.is ∙ ap done q) w.eights w.are))

  pub by-slashings : {done : ℕ} → done ≡ 4 → {ys amounts : List ℕ} {r : Checked (Unit {0})} → SlashingsBooked s s.proportional_slashing_multiplier_altair f.slot slashings registry ys lent amounts r → LaterRan done s st lent ys slashings amounts r
  unfolding limited_step amounts_by bind
  by-slashings d {ys} {amounts} {r} h =
      over s st lent slashings_step _ (ap step_after d) refl h.ran
      (λ ws q.
      let w = slashed s s.proportional_slashing_multiplier_altair f.slot slashings (decode registry) q in
      rw w.are (h.books (h.ran.is ∙ ap done q) w.ninths w.are))

  pub by-reset : {done : ℕ} → done ≡ 6 → length registry ≡ 10 * (length registry / 10) → {zs : List ℕ} → zs ≡ reset_slashings s f.slot slashings → LaterRan done s st lent registry zs lent (value tt)
  unfolding limited_step amounts_by
  by-reset d long {zs} h =
      rw d
      (record {
        is = refl;
        held = λ after q.
            (let is : with_slashings (reset_slashings s f.slot slashings) st ≡ after = value_same q in
            (sym (encode-decode (length registry / 10) registry long) ∙ ap (λ (x : BeaconState). encode x.validators) is, h ∙ ap (λ (x : BeaconState). x.slashings) is, ap (λ (x : BeaconState). x.finality) (sym is), refl));
      })

  abbrev Plain : ℕ → List ℕ → Checked (Unit {0}) → Type 0
  Plain n ys r = Ran (plain_by n s f.slot f.finalized_checkpoint.epoch (decode registry)) ys r → LaterRan n s st lent ys slashings lent r

  first : {ys : List ℕ} {r : Checked (Unit {0})} → Plain 1 ys r
  unfolding limited_step amounts_by plain_by
  first h = over s st lent inactivity_step _ refl refl h (λ ws q. refl)

  third : {ys : List ℕ} {r : Checked (Unit {0})} → Plain 3 ys r
  unfolding limited_step amounts_by plain_by
  third h = over s st lent registry_step _ refl refl h (λ ws q. refl)

  fifth : {ys : List ℕ} {r : Checked (Unit {0})} → Plain 5 ys r
  unfolding limited_step amounts_by plain_by
  fifth h = over s st lent effective_balances_step _ refl refl h (λ ws q. refl)

  seventh : {ys : List ℕ} {r : Checked (Unit {0})} → Plain 7 ys r
  unfolding limited_step amounts_by plain_by bind
  seventh h = over s st lent participation_flags_step _ refl refl h (λ ws q. refl)

  pub by-plain : (done : ℕ) → 1 ≤ done → done ≤ 7 → (done ≡ 2 → ⊥) → (done ≡ 4 → ⊥) → (done ≡ 6 → ⊥) → {ys : List ℕ} {r : Checked (Unit {0})} → Plain done ys r
  by-plain zero a b two four six h = absurd (omega (arith, a))
  by-plain (suc zero) a b two four six h = first h
  by-plain (suc (suc zero)) a b two four six h = absurd (two refl)
  by-plain (suc (suc (suc zero))) a b two four six h = third h
  by-plain (suc (suc (suc (suc zero)))) a b two four six h = absurd (four refl)
  by-plain (suc (suc (suc (suc (suc zero))))) a b two four six h = fifth h
  by-plain (suc (suc (suc (suc (suc (suc zero)))))) a b two four six h = absurd (six refl)
  by-plain (suc (suc (suc (suc (suc (suc (suc zero))))))) a b two four six h = seventh h
  by-plain (suc (suc (suc (suc (suc (suc (suc (suc n)))))))) a b two four six h = absurd (omega (arith, b))
