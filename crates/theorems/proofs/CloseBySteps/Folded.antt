-- The first n steps and one more.
use mathlib.Core.Path.{◌≡◌, refl, sym, ap, ◌∙◌}
use mathlib.Core.Bool.{Bool, true, false, false≢true}
use mathlib.Core.List.{List, [], ◌∷◌, ◌++◌}
use Prim.Native.Nat.{ℕ, zero, suc, ◌+◌, ◌<◌}
use native.Mathlib.Numerals.{add-one}
use lib.ListN.{take, drop, take-append-drop}
use lib.Seq.{take-suc, drop-cons}
use Rattle.definitions.specs.declared.Settings.{Settings}
use Rattle.definitions.specs.Record.{BeaconState}
use Rattle.definitions.specs.Checked.{value, refused, bind, fold_checked}
use Rattle.definitions.specs.declared.Refusal.{Refusal}
use Rattle.definitions.specs.Close.{Step, justification_step, inactivity_step, rewards_step, registry_step, slashings_step, effective_balances_step, slashings_reset_step, participation_flags_step, steps, step, close_up_to, limited_up_to, process_epoch, limited_epoch}
use Rattle.definitions_close.specs.CloseBySteps.{step_after}
use Rattle.laws.proofs.Frame.Frames.{frames}
use Rattle.laws.proofs.Loops.Iterated.{fold_checked-append}

module _ (s : Settings) (st : BeaconState) (n : ℕ) (l : n < 8) {at : BeaconState} (e : close_up_to n s st ≡ value at) where
  pub one_more : {next : BeaconState} → step s at (step_after n) ≡ value next → close_up_to (n + 1) s st ≡ value next
  unfolding limited_up_to fold_checked bind
  one_more q =
      ap (fold_checked (step s) st) (ap (λ (k : ℕ). take k steps) (add-one n) ∙ take-suc steps n participation_flags_step l)
      ∙ fold_checked-append (step s) st (take n steps) (step_after n ∷ [])
      ∙ rw (e, q)

  pub stopped : {r : Refusal} → step s at (step_after n) ≡ refused r → process_epoch s st ≡ refused r
  unfolding limited_epoch limited_up_to fold_checked bind
  stopped q =
      ap (fold_checked (step s) st) (sym (take-append-drop n steps) ∙ ap (λ (ks : List Step). take n steps ++ ks) (drop-cons steps n participation_flags_step l))
      ∙ fold_checked-append (step s) st (take n steps) (step_after n ∷ drop (suc n) steps)
      ∙ rw (e, q)

-- Only the first writes the finality

abbrev pub is_justification : Step → Bool
is_justification justification_step = true
is_justification inactivity_step = false
is_justification rewards_step = false
is_justification registry_step = false
is_justification slashings_step = false
is_justification effective_balances_step = false
is_justification slashings_reset_step = false
is_justification participation_flags_step = false

not_first : (n : ℕ) → is_justification (step_after (suc n)) ≡ false
not_first zero = refl
not_first (suc zero) = refl
not_first (suc (suc zero)) = refl
not_first (suc (suc (suc zero))) = refl
not_first (suc (suc (suc (suc zero)))) = refl
not_first (suc (suc (suc (suc (suc zero))))) = refl
not_first (suc (suc (suc (suc (suc (suc zero)))))) = refl
not_first (suc (suc (suc (suc (suc (suc (suc n))))))) = refl

pub same-finality : (s : Settings) (k : Step) (a b : BeaconState) → is_justification k ≡ false → step s a k ≡ value b → b.finality ≡ a.finality
same-finality s justification_step a b n p = absurd (false≢true (sym n))
same-finality s inactivity_step a b n p = ap (λ (st : BeaconState). st.finality) (frames s inactivity_step a b p)
same-finality s rewards_step a b n p = ap (λ (st : BeaconState). st.finality) (frames s rewards_step a b p)
same-finality s registry_step a b n p = ap (λ (st : BeaconState). st.finality) (frames s registry_step a b p)
same-finality s slashings_step a b n p = ap (λ (st : BeaconState). st.finality) (frames s slashings_step a b p)
same-finality s effective_balances_step a b n p = ap (λ (st : BeaconState). st.finality) (frames s effective_balances_step a b p)
same-finality s slashings_reset_step a b n p = ap (λ (st : BeaconState). st.finality) (frames s slashings_reset_step a b p)
same-finality s participation_flags_step a b n p = ap (λ (st : BeaconState). st.finality) (frames s participation_flags_step a b p)

pub later-finality : (s : Settings) (n : ℕ) (a b : BeaconState) → step s a (step_after (suc n)) ≡ value b → b.finality ≡ a.finality
later-finality s n a b p = same-finality s (step_after (suc n)) a b (not_first n) p
