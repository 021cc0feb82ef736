-- All ten: the first five, the deposits, and the rest by the two parts of the registry that the deposits leave.
use mathlib.Core.Path.{◌≡◌, ap, ◌∙◌}
use mathlib.Core.Bool.{true}
use mathlib.Core.List.{[], ◌∷◌, ◌++◌}
use Prim.Native.Nat.{ℕ}
use lib.ListN.{length, take, drop, take-append-drop}
use Rattle.definitions.specs.Lists.{all}
use Rattle.definitions.specs.Checked.{Checked, value, bind, fold_checked}
use Rattle.definitions.specs.Rules.{in_place}
use Rattle.definitions.specs.Close.{slashings_reset_step, participation_flags_step}
use Rattle.laws.proofs.Loops.Iterated.{fold_checked-append}
use Rattle.definitions_electra.specs.declared.ElectraRules.{ElectraRules}
use Rattle.definitions_electra.specs.Record.{ElectraState}
use Rattle.definitions_electra.specs.Evaluated.Electra.EpochProcessing.{kept, pending_deposits, pending_consolidations, effective_balances, steps, electra_step, close_up_to, process_epoch}
use Rattle.laws_electra.specs.Consolidations.{within}
use Rattle.electra_first.specs.First.{Five, five_by, after_five}
use Rattle.electra_first.proofs.Text.{then, bind-same, flat, up_to-five}
use Rattle.electra_steps.specs.Last.{Six, six_by, after_six, seven_eight, after_eight, after_ten}
use Rattle.electra_steps.proofs.Last.{sixth, at_once, bind-given, seventh-eighth, ninth-tenth}

-- what the deposits leave of the n that the record opened with: as many validators as credentials
pub record Parted (n : ℕ) (x : Six) : Type 0 where
  pub front : length (take n x.processing.registry.validators) ≡ n
  pub fits : length (take n x.processing.registry.compounding) ≡ length (take n x.processing.registry.validators)

module _ (r : ElectraRules) (n : ℕ) (st : ElectraState) (placed : all (within n) st.pending_consolidations ≡ true) where
  -- from the seventh on
  rest : (x : Six) → Parted n x → fold_checked (electra_step r) (after_six st x) (pending_consolidations ∷ effective_balances ∷ kept slashings_reset_step ∷ kept participation_flags_step ∷ []) ≡ bind (seven_eight r n st x) (λ y. value (after_ten r (after_eight (after_six st x) y)))
  rest x p =
      let reg = x.processing.registry in
      let two = seventh-eighth r st (take n reg.validators) (drop n reg.validators) reg.pubkeys (take n reg.compounding) (drop n reg.compounding) x.left (drop x.processing.next_deposit_index st.pending_deposits ++ x.processing.deposits_to_postpone) p.fits (rw p.front placed) (kept slashings_reset_step ∷ kept participation_flags_step ∷ []) in
      (rw (take-append-drop n reg.validators, take-append-drop n reg.compounding) at two)
      ∙ bind-same (seven_eight r n st x) (λ y. ninth-tenth r (after_eight (after_six st x) y))

  pub last-five : ((x : Six) → six_by r st ≡ value x → Parted n x) → fold_checked (electra_step r) st (pending_deposits ∷ pending_consolidations ∷ effective_balances ∷ kept slashings_reset_step ∷ kept participation_flags_step ∷ []) ≡ bind (six_by r st) (λ x. bind (seven_eight r n st x) (λ y. value (after_ten r (after_eight (after_six st x) y))))
  last-five h =
      then (electra_step r) st pending_deposits (pending_consolidations ∷ effective_balances ∷ kept slashings_reset_step ∷ kept participation_flags_step ∷ []) (six_by r st) (after_six st) (sixth r st)
      ∙ bind-given (six_by r st) (λ x e. rest x (h x e))

-- the whole
module _ (r : ElectraRules) (st : ElectraState) where
  abbrev five : Checked Five
  five = five_by r (in_place r.bellatrix r.settings) st.altair.finality st.churn st.altair.validators st.altair.slashings st.altair.block_roots

  pub whole : (n : ℕ) → all (within n) st.pending_consolidations ≡ true → ((v : Five) → five ≡ value v → (x : Six) → six_by r (after_five st v) ≡ value x → Parted n x) → process_epoch r st ≡ bind five (λ v. bind (six_by r (after_five st v)) (λ x. bind (seven_eight r n (after_five st v) x) (λ y. value (after_ten r (after_eight (after_six (after_five st v) x) y)))))
  unfolding process_epoch close_up_to
  whole n placed h =
      fold_checked-append (electra_step r) st (take 5 steps) (drop 5 steps)
      ∙ ap (λ (m : Checked ElectraState). bind m (λ s. fold_checked (electra_step r) s (drop 5 steps))) (up_to-five r st)
      ∙ flat five (λ v. value (after_five st v)) (λ s. fold_checked (electra_step r) s (drop 5 steps))
      ∙ bind-given five (λ v e. at_once (after_five st v) (λ s. fold_checked (electra_step r) s (drop 5 steps)) ∙ last-five r n (after_five st v) placed (h v e))
