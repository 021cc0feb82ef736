-- The registry between the steps of an accepted close, and the amounts by it: they add up.
use mathlib.Core.Path.{◌≡◌, sym, ap, ◌∙◌}
use mathlib.Core.List.{List, [], ◌∷◌, ◌++◌}
use Prim.Native.Nat.{ℕ, ◌+◌, ◌-◌, ◌*◌, ◌<◌}
use native.Mathlib.Omega.{arith}
use lib.ListN.{length, get_or}
use Rattle.definitions.specs.declared.Settings.{Settings}
use Rattle.definitions.specs.declared.ActivationLimit.{ActivationLimit}
use Rattle.definitions.specs.declared.Finality.{Finality}
use Rattle.definitions.specs.Record.{Validator, BeaconState}
use Rattle.definitions.specs.Updates.{with_validators, with_finality}
use Rattle.definitions.specs.Checked.{value}
use Rattle.definitions.specs.Rust.Phase0.EpochProcessing.{limited_registry_updates, process_effective_balance_updates}
use Rattle.definitions.specs.Rust.Altair.EpochProcessing.{process_inactivity_updates, process_rewards_and_penalties, process_slashings, process_participation_flag_updates}
use Rattle.definitions.specs.Close.{limited_up_to}
use Rattle.arithmetic.proofs.Laws.{bind-value}
use Rattle.definitions_close.specs.Amounts.{nines, limited_amounts}
use Rattle.laws_close.specs.Nine.{nine_of, rewards_in, taken_in, balance_at}
use Rattle.laws_close.proofs.Amounts.Nines.{Eights, nine-at, nines-long, front, last}
use Rattle.laws_close.proofs.Amounts.Kept.{Kept, kept_then, kept_same, scores-kept, registry-kept, effective-kept, rotation_kept}
use Rattle.laws_close.proofs.Amounts.Rewarded.{Rewarded, rewarded}
use Rattle.laws_close.proofs.Amounts.Slashed.{Slashed, slashed}

-- The registry between the steps
pub record Way (by : ActivationLimit) (s : Settings) (slot fin : ℕ) (slashings : List ℕ) (vs ws : List Validator) : Type 0 where
  pub scored : List Validator
  pub paid : List Validator
  pub updated : List Validator
  pub lessened : List Validator
  pub balanced : List Validator
  pub scores : process_inactivity_updates s slot fin vs ≡ value scored
  pub pays : process_rewards_and_penalties s s.inactivity_penalty_quotient_altair slot fin scored ≡ value paid
  pub registers : limited_registry_updates by s slot fin paid ≡ value updated
  pub slashes : process_slashings s s.proportional_slashing_multiplier_altair slot slashings updated ≡ value lessened
  pub balances : process_effective_balance_updates s lessened ≡ value balanced
  pub rotates : process_participation_flag_updates balanced ≡ ws

-- The amounts by it
module _ {by : ActivationLimit} {s : Settings} {slot fin : ℕ} {slashings : List ℕ} {vs ws : List Validator} (w : Way by s slot fin slashings vs ws) where
  pub by-rewards : Rewarded s s.inactivity_penalty_quotient_altair slot fin w.scored w.paid
  by-rewards = rewarded s _ slot fin w.scored w.pays

  pub by-slashings : Slashed s s.proportional_slashing_multiplier_altair slot slashings w.updated w.lessened
  by-slashings = slashed s _ slot slashings w.updated w.slashes

  k : Kept vs w.scored
  k = scores-kept s slot fin vs w.scores

  u : Kept w.paid w.updated
  u = registry-kept by s slot fin w.paid w.registers

  b : Kept w.lessened ws
  b = kept_then (effective-kept s w.lessened w.balances) (kept_then (rotation_kept w.balanced) (kept_same w.rotates))

  pub filled : List ℕ
  filled = nines by-rewards.eights by-slashings.ninths

  eights : Eights by-rewards.eights by-slashings.ninths
  eights = record { long = omega (arith, by-rewards.long, by-slashings.long, by-rewards.same, u.long); eight = λ i l. by-rewards.eight i (omega (arith, l, by-rewards.long)) }

  pub filled-long : length filled ≡ 9 * length vs
  unfolding filled
  filled-long = omega (arith, nines-long by-rewards.eights by-slashings.ninths eights, by-rewards.long, k.long)

  module _ (i : ℕ) (l : i < length vs) where
    pub in_scored : i < length w.scored
    in_scored = omega (arith, l, k.long)

    in_paid : i < length w.paid
    in_paid = omega (arith, in_scored, by-rewards.same)

    in_updated : i < length w.updated
    in_updated = omega (arith, in_paid, u.long)

    in_lessened : i < length w.lessened
    in_lessened = omega (arith, in_updated, by-slashings.same)

    abbrev e : List ℕ
    e = get_or by-rewards.eights i []

    pub filled-nine : nine_of filled i ≡ e ++ (get_or by-slashings.ninths i 0 ∷ [])
    unfolding filled
    filled-nine = nine-at by-rewards.eights by-slashings.ninths eights i (omega (arith, in_scored, by-rewards.long))

    -- what slashing took is what the balance after rewards is above the closing one
    pub filled-ninth : get_or by-slashings.ninths i 0 ≡ balance_at w.paid i - balance_at ws i
    filled-ninth = omega (arith, u.balance i in_paid, by-slashings.equal i in_updated, b.balance i in_lessened)

    eight-long : length e ≡ 8
    eight-long = by-rewards.eight i in_scored

    pub filled-equal : balance_at vs i + rewards_in (nine_of filled i) ≡ balance_at ws i + taken_in (nine_of filled i)
    filled-equal =
        let x = get_or by-slashings.ninths i 0 in
        let at : (j : ℕ) → j < 8 → get_or (e ++ (x ∷ [])) j 0 ≡ get_or e j 0 = λ j h. front e (x ∷ []) j (omega (arith, h, eight-long)) in
        let ninth : get_or (e ++ (x ∷ [])) 8 0 ≡ x = ap (λ (n : ℕ). get_or (e ++ (x ∷ [])) n 0) (sym eight-long) ∙ last e x in
        rw (filled-nine, at 0 (omega arith), at 1 (omega arith), at 2 (omega arith), at 3 (omega arith), at 4 (omega arith), at 5 (omega arith), at 6 (omega arith), at 7 (omega arith), ninth)
        (omega (arith, k.balance i l, by-rewards.equal i in_scored, u.balance i in_paid, by-slashings.equal i in_updated, b.balance i in_lessened))

pub amounts-by : (by : ActivationLimit) (s : Settings) (st : BeaconState) (f : Finality) {ws : List Validator} (w : Way by s f.slot f.finalized_checkpoint.epoch st.slashings st.validators ws) → limited_up_to by 2 s st ≡ value (with_validators w.scored (with_finality f st)) → limited_up_to by 4 s st ≡ value (with_validators w.updated (with_finality f st)) → limited_amounts by s st ≡ value (filled w)
unfolding limited_amounts filled
amounts-by by s st f w two four = bind-value _ two ∙ bind-value _ (by-rewards w).are ∙ bind-value _ four ∙ bind-value _ (by-slashings w).are
