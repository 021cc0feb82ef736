-- Every accepted close: its amounts are a value, they add up, and the eight of rewards are those of the delta leaves, cut.
use mathlib.Core.Path.{◌≡◌, refl, ap, ◌∙◌}
use mathlib.Core.List.{List}
use lib.ListN.{take}
use Rattle.definitions.specs.declared.ActivationLimit.{ActivationLimit}
use Rattle.definitions.specs.declared.Settings.{Settings}
use Rattle.definitions.specs.declared.Finality.{Finality}
use Rattle.definitions.specs.Record.{Validator, BeaconState}
use Rattle.definitions.specs.Updates.{with_validators, with_finality}
use Rattle.definitions.specs.Checked.{Checked, value, refused, bind, fold_checked}
use Rattle.definitions.specs.Rust.Phase0.EpochProcessing.{limited_registry_updates, process_effective_balance_updates}
use Rattle.definitions.specs.Rust.Altair.EpochProcessing.{process_justification_and_finalization, process_inactivity_updates, process_rewards_and_penalties, process_slashings}
use Rattle.definitions.specs.Close.{on_validators, limited_step, limited_up_to, limited_epoch}
use Rattle.laws.proofs.Checked.{not_value, value_same}
use Rattle.arithmetic.proofs.Laws.{bind-value}
use Rattle.theorems.specs.Amounts.Laws.{Accounted}
use Rattle.laws_close.proofs.Amounts.Nines.{first-eight}
use Rattle.laws_close.proofs.Amounts.Way.{Way, by-rewards, filled, filled-long, in_scored, filled-nine, filled-equal, amounts-by}

-- The eight steps, and the registry between them

record On (st : BeaconState) (m : Checked (List Validator)) (rest : BeaconState → Checked BeaconState) (done : BeaconState) : Type 0 where
  vs : List Validator
  gave : m ≡ value vs
  then : rest (with_validators vs st) ≡ value done

on : (st : BeaconState) (m : Checked (List Validator)) (rest : BeaconState → Checked BeaconState) {done : BeaconState} → bind (on_validators st m) rest ≡ value done → On st m rest done
unfolding bind
on st (value vs) rest e = record { vs = vs; gave = refl; then = e }
on st (refused r) rest e = absurd (not_value e)

record Justified (st : BeaconState) (m : Checked Finality) (rest : BeaconState → Checked BeaconState) (done : BeaconState) : Type 0 where
  finality : Finality
  gave : m ≡ value finality
  then : rest (with_finality finality st) ≡ value done

justified : (st : BeaconState) (m : Checked Finality) (rest : BeaconState → Checked BeaconState) {done : BeaconState} → bind (bind m (λ f. value (with_finality f st))) rest ≡ value done → Justified st m rest done
unfolding bind
justified st (value f) rest e = record { finality = f; gave = refl; then = e }
justified st (refused r) rest e = absurd (not_value e)

record Eight (l : ActivationLimit) (s : Settings) (st done : BeaconState) : Type 0 where
  f : Finality
  way : Way l s f.slot f.finalized_checkpoint.epoch st.slashings st.validators done.validators
  found : limited_up_to l 2 s st ≡ value (with_validators way.scored (with_finality f st))
  later : limited_up_to l 4 s st ≡ value (with_validators way.updated (with_finality f st))

eight-steps : (l : ActivationLimit) (s : Settings) (st : BeaconState) {done : BeaconState} → limited_epoch l s st ≡ value done → Eight l s st done
unfolding limited_epoch limited_up_to fold_checked limited_step bind
eight-steps l s st {done} e =
    let a = justified st (process_justification_and_finalization s st.block_roots st.finality st.validators) _ e in
    let f = a.finality in
    let base = with_finality f st in
    let scores = on base (process_inactivity_updates s f.slot f.finalized_checkpoint.epoch st.validators) _ a.then in
    let pays = on (with_validators scores.vs base) (process_rewards_and_penalties s s.inactivity_penalty_quotient_altair f.slot f.finalized_checkpoint.epoch scores.vs) _ scores.then in
    let registers = on (with_validators pays.vs base) (limited_registry_updates l s f.slot f.finalized_checkpoint.epoch pays.vs) _ pays.then in
    let slashes = on (with_validators registers.vs base) (process_slashings s s.proportional_slashing_multiplier_altair f.slot st.slashings registers.vs) _ registers.then in
    let balances = on (with_validators slashes.vs base) (process_effective_balance_updates s slashes.vs) _ slashes.then in
    record {
      f = f;
      way =
          record {
            scored = scores.vs;
            paid = pays.vs;
            updated = registers.vs;
            lessened = slashes.vs;
            balanced = balances.vs;
            scores = scores.gave;
            pays = pays.gave;
            registers = registers.gave;
            slashes = slashes.gave;
            balances = balances.gave;
            rotates = ap (λ (c : BeaconState). c.validators) (value_same balances.then);
          };
      found = bind-value _ (bind-value _ a.gave) ∙ bind-value _ (bind-value _ scores.gave);
      later = bind-value _ (bind-value _ a.gave) ∙ bind-value _ (bind-value _ scores.gave) ∙ bind-value _ (bind-value _ pays.gave) ∙ bind-value _ (bind-value _ registers.gave);
    }

pub accounted : (l : ActivationLimit) (s : Settings) (opening : BeaconState) {closing : BeaconState} → limited_epoch l s opening ≡ value closing → Accounted l s opening closing
accounted l s opening {closing} h =
    let a = eight-steps l s opening h in
    let w = a.way in
    record {
      filled = filled w;
      are = amounts-by l s opening a.f w a.found a.later;
      long = filled-long w;
      equal = filled-equal w;
      found = with_validators w.scored (with_finality a.f opening);
      finds = a.found;
      leaves = λ n i b.
          (let c = (by-rewards w).leaves n i (in_scored w i b) in
          record {
            source = c.source;
            target = c.target;
            head = c.head;
            inactivity = c.inactivity;
            source_is = c.source_is;
            target_is = c.target_is;
            head-is = c.head-is;
            inactivity-is = c.inactivity-is;
            cut = ap (take 8) (filled-nine w i b) ∙ first-eight _ _ ((by-rewards w).eight i (in_scored w i b)) ∙ c.cut;
          });
    }
