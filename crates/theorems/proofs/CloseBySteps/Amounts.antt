-- The list of amounts after each call: as long as it was lent, and at the end what the whole close books.
use mathlib.Core.Path.{◌≡◌, refl, sym, ap, ◌∙◌}
use mathlib.Core.List.{List, [], map}
use Prim.Native.Nat.{ℕ, zero, suc, ◌+◌, ◌*◌, ◌/◌, ◌<◌}
use native.Mathlib.Numerals.{add-one}
use native.Mathlib.Omega.{arith}
use lib.ListN.{length, get_or, replicate, length-replicate, length-map}
use Rattle.definitions.specs.declared.Settings.{Settings}
use Rattle.definitions.specs.Record.{Validator, BeaconState}
use Rattle.definitions.specs.Checked.{value, bind, fold_checked, settle}
use Rattle.definitions.specs.Close.{Step, justification_step, inactivity_step, rewards_step, registry_step, slashings_step, effective_balances_step, slashings_reset_step, participation_flags_step, step, limited_step, state_of, finalized_epoch_of, close_up_to, limited_up_to, process_epoch, limited_epoch}
use Rattle.definitions_close.specs.Amounts.{nines, amounts as amounts_of, limited_amounts}
use Rattle.definitions_close.specs.FullClose.{FullCall, settings_of}
use Rattle.definitions_close.specs.CloseBySteps.{step_after, eights, amounts_by}
use Rattle.laws.proofs.Checked.{value_same, bound}
use Rattle.laws_close.proofs.Amounts.Nines.{Eights, nines-long}
use Rattle.laws_close.proofs.Amounts.Rewarded.{Rewarded, rewarded}
use Rattle.laws_close.proofs.Amounts.Slashed.{Slashed, slashed}
use Rattle.laws_close.proofs.Amounts.Eights.{long-eights, eights-of, eights-nines}

-- After each call

unfoldable pub amounts_at : FullCall → ℕ → List ℕ
amounts_at c zero = c.amounts
amounts_at c (suc n) =
    let lent = amounts_at c n in
    settle (bind (close_up_to n (settings_of c) (state_of c.call)) (λ st. amounts_by (step_after n) (settings_of c) st lent)) (replicate (length lent) 0)

pub amounts-turn : (c : FullCall) (n : ℕ) {st : BeaconState} → close_up_to n (settings_of c) (state_of c.call) ≡ value st → amounts_at c (n + 1) ≡ settle (amounts_by (step_after n) (settings_of c) st (amounts_at c n)) (replicate (length (amounts_at c n)) 0)
unfolding amounts_at bind
amounts-turn c n e = rw (add-one n, e)

-- what the two steps book
module _ (s : Settings) (a b : BeaconState) where
  pub books : step s a rewards_step ≡ value b → Rewarded s s.inactivity_penalty_quotient_altair a.finality.slot (finalized_epoch_of a) a.validators b.validators
  unfolding limited_step
  books p =
      let h = bound _ _ p in
      rw (ap (λ (st : BeaconState). st.validators) (sym (value_same h.then))) (rewarded s _ _ _ _ h.gave)

  pub takes : step s a slashings_step ≡ value b → Slashed s s.proportional_slashing_multiplier_altair a.finality.slot a.slashings a.validators b.validators
  unfolding limited_step
  takes p =
      let h = bound _ _ p in
      rw (ap (λ (st : BeaconState). st.validators) (sym (value_same h.then))) (slashed s _ _ _ _ h.gave)

booked-eights : (vs : List Validator) (es : List (List ℕ)) → length es ≡ length vs → ((i : ℕ) → i < length vs → length (get_or es i []) ≡ 8) → Eights es (map (λ (v : Validator). 0) vs)
booked-eights vs es l h = record { long = length-map vs (λ v. 0) ∙ sym l; eight = λ i k. h i (omega (arith, k, l)) }

pub amounts-long : (s : Settings) (k : Step) (a b : BeaconState) (xs : List ℕ) → length xs ≡ 9 * length a.validators → step s a k ≡ value b → length (settle (amounts_by k s a xs) (replicate (length xs) 0)) ≡ length xs
unfolding amounts_by bind
amounts-long s justification_step a b xs l p = length-replicate (length xs) 0
amounts-long s inactivity_step a b xs l p = refl
amounts-long s rewards_step a b xs l p =
    let r = books s a b p in
    rw r.are (nines-long r.eights _ (booked-eights a.validators r.eights r.long r.eight) ∙ omega (arith, r.long, l))
amounts-long s registry_step a b xs l p = refl
amounts-long s slashings_step a b xs l p =
    let r = takes s a b p in
    let n : length xs / 9 ≡ length a.validators = omega (arith, l) in
    rw r.are (nines-long (eights (length xs / 9) xs) r.ninths (eights-of (length xs / 9) xs r.ninths (omega arith) (r.long ∙ sym n)) ∙ omega (arith, long-eights (length xs / 9) xs, l))
amounts-long s effective_balances_step a b xs l p = refl
amounts-long s slashings_reset_step a b xs l p = refl
amounts-long s participation_flags_step a b xs l p = refl

-- At the end

record Chain (s : Settings) (a0 a8 : BeaconState) : Type 0 where
  a1 : BeaconState
  a2 : BeaconState
  a3 : BeaconState
  a4 : BeaconState
  a5 : BeaconState
  a6 : BeaconState
  a7 : BeaconState
  s1 : step s a0 justification_step ≡ value a1
  s2 : step s a1 inactivity_step ≡ value a2
  s3 : step s a2 rewards_step ≡ value a3
  s4 : step s a3 registry_step ≡ value a4
  s5 : step s a4 slashings_step ≡ value a5
  s6 : step s a5 effective_balances_step ≡ value a6
  s7 : step s a6 slashings_reset_step ≡ value a7
  s8 : step s a7 participation_flags_step ≡ value a8

chain : (s : Settings) (a : BeaconState) {e : BeaconState} → process_epoch s a ≡ value e → Chain s a e
unfolding limited_epoch limited_up_to fold_checked
chain s a p =
    let b1 = bound _ _ p in
    let b2 = bound _ _ b1.then in
    let b3 = bound _ _ b2.then in
    let b4 = bound _ _ b3.then in
    let b5 = bound _ _ b4.then in
    let b6 = bound _ _ b5.then in
    let b7 = bound _ _ b6.then in
    let b8 = bound _ _ b7.then in
    record {
      a1 = b1.first;
      a2 = b2.first;
      a3 = b3.first;
      a4 = b4.first;
      a5 = b5.first;
      a6 = b6.first;
      a7 = b7.first;
      s1 = b1.gave;
      s2 = b2.gave;
      s3 = b3.gave;
      s4 = b4.gave;
      s5 = b5.gave;
      s6 = b6.gave;
      s7 = b7.gave;
      s8 = b8.gave ∙ b8.then;
    }

pub amounts-end : (c : FullCall) {closing : BeaconState} → process_epoch (settings_of c) (state_of c.call) ≡ value closing → amounts_of (settings_of c) (state_of c.call) ≡ value (amounts_at c 8)
unfolding limited_up_to fold_checked bind amounts_at amounts_by limited_amounts
amounts-end c {closing} p =
    let s = settings_of c in
    let w = chain s (state_of c.call) p in
    let r = books s w.a2 w.a3 w.s3 in
    let t = takes s w.a4 w.a5 w.s5 in
    let zeros : List ℕ = map (λ (v : Validator). 0) w.a2.validators in
    let nine = booked-eights w.a2.validators r.eights r.long r.eight in
    let n : length (nines r.eights zeros) / 9 ≡ length r.eights = omega (arith, nines-long r.eights zeros nine) in
    rw (w.s1, w.s2, w.s3, w.s4, w.s5, w.s6, w.s7, r.are, t.are, n, eights-nines r.eights zeros nine)
