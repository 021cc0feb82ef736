-- What an accepted close says of what it was handed.
use mathlib.Core.Bool.{true, ◌||◌}
use mathlib.Core.Path.{◌≡◌, refl}
use Prim.Native.Nat.{◌<◌}
use borrow.Author.Tests.{eqb-true}
use lib.ListN.{length}
use Rattle.definitions.specs.Rules.{is_altair, good_bellatrix, good_rules}
use Rattle.definitions.specs.Refusals.{registry_shaped, good_settings}
use Rattle.definitions.specs.Record.{decode}
use Rattle.definitions.specs.declared.Raised.{Raised}
use Rattle.definitions.specs.Checked.{Checked, value, refused, code_of}
use Rattle.definitions.specs.Raised.{raised_totals, raised_unless_refused}
use Rattle.definitions.specs.Close.{Call, close_tests, limited_tests, closed, close}
use Rattle.laws.proofs.Checked.{number_not_zero}
use Rattle.laws.proofs.Tests.{both, in_order-value}
use Rattle.refusals.proofs.Laws.{good-settings}
use Rattle.laws_file.proofs.Codes.{no-refusal}
use Rattle.refusals.proofs.Answers.{tested}

-- where nothing is refused, the totals' flags are told
raised-told : {A : Type 0} (m : Checked A) (raised : Raised) → code_of m ≡ 0 → raised_unless_refused m raised ≡ raised
unfolding raised_unless_refused
raised-told (value a) raised e = refl
raised-told (refused r) raised e = absurd (number_not_zero r e)

-- the tests passed where what comes after them is a value
pub record Accepted (c : Call) : Type 0 where
  pub epochs : 0 < c.rules.settings.slots_per_epoch
  pub shaped : registry_shaped c.registry ≡ true
  pub alike : length c.closing_registry ≡ length c.registry
  pub raised : (close c).raised ≡ raised_totals c.rules.settings c.finality.slot (decode c.registry)

pub accepted : (c : Call) → (close c).refusal ≡ 0 → Accepted c
unfolding close closed limited_tests good_rules
accepted c e =
    let s = c.rules.settings in
    let p = in_order-value _ _ _ (tested (close_tests c) _ (no-refusal (closed c) e)) in
    let good = (both (good_settings s) (is_altair c.rules || good_bellatrix c.rules.bellatrix) (p.settings 0)).0 in
    record {
      epochs = (good-settings s good).positive.slots_per_epoch;
      shaped = p.shaped 1;
      alike = eqb-true _ _ (p.shaped 4);
      raised = raised-told (closed c) (raised_totals s c.finality.slot (decode c.registry)) e;
    }
