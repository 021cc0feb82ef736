-- The weighing is two epochs' tests, one after the other, and the outcome.
use mathlib.Core.Path.{◌≡◌, refl, ap}
use mathlib.Core.Bool.{Bool, true, false, cond}
use mathlib.Core.List.{List}
use Prim.Native.Nat.{ℕ}
use Rattle.std.specs.Prelude.{is_some}
use Rattle.std.specs.declared.option.Option.{Option}
use Rattle.std.specs.declared.option.Option.TheVariants.{Some, None}
use Rattle.std.specs.Option.{unwrap_or}
use Rattle.definitions.specs.declared.Finality.{Finality}
use Rattle.definitions.specs.declared.Settings.{Settings}
use Rattle.definitions.specs.Checked.{Checked, value, refused, bind}
use Rattle.definitions.specs.Document.Phase0.EpochProcessing.{weighed}
use Rattle.definitions.specs.Rust.Phase0.Helpers.{get_current_epoch, get_previous_epoch}
use Rattle.definitions.specs.Rust.Phase0.EpochProcessing.{is_justified, root_where, weigh_justification_and_finalization}
use Rattle.weighing.specs.Tests.{test_epoch}

-- a root is read only where its test passed
abbrev pub outcome : Settings → Finality → List ℕ → Option (List ℕ) → Option (List ℕ) → Finality
outcome s old none p c = weighed (get_previous_epoch s old.slot) (get_current_epoch s old.slot) (is_some p) (is_some c) (unwrap_or p none) (unwrap_or c none) old

read-where : (s : Settings) (old : Finality) (none : List ℕ) (p c : Bool) (a b : List ℕ) → weighed (get_previous_epoch s old.slot) (get_current_epoch s old.slot) p c a b old ≡ outcome s old none (cond p (Some a) None) (cond c (Some b) None)
unfolding weighed
read-where s old none true true a b = refl
read-where s old none true false a b = refl
read-where s old none false true a b = refl
read-where s old none false false a b = refl

-- an epoch's test, and what is done with its root
test-bind : {B : Type 0} (s : Settings) (roots : List ℕ) (state_slot epoch target total : ℕ) (k : Bool → List ℕ → Checked B) (l : Option (List ℕ) → Checked B) → ((p : Bool) (a : List ℕ) → k p a ≡ l (cond p (Some a) None)) → bind (is_justified target total) (λ p. bind (root_where p s roots state_slot epoch) (k p)) ≡ bind (test_epoch s roots state_slot epoch target total) l
unfolding test_epoch bind
test-bind {B} s roots state_slot epoch target total k l h = go (is_justified target total)
  where
    rest : (p : Bool) (m : Checked (List ℕ)) → bind m (k p) ≡ bind {A = Option (List ℕ)} (bind m (λ a. value (cond p (Some a) None))) l
    rest p (value a) = h p a
    rest p (refused r) = refl

    go : (m : Checked Bool) → bind m (λ p. bind (root_where p s roots state_slot epoch) (k p)) ≡ bind {A = Option (List ℕ)} (bind m (λ p. bind (root_where p s roots state_slot epoch) (λ a. value (cond p (Some a) None)))) l
    go (value p) = rest p (root_where p s roots state_slot epoch)
    go (refused r) = refl

module _ (s : Settings) (roots : List ℕ) (old : Finality) (total previous current : ℕ) (none : List ℕ) where
  pub by_tests : weigh_justification_and_finalization s roots old total previous current ≡ bind (test_epoch s roots old.slot (get_previous_epoch s old.slot) previous total) (λ p. bind (test_epoch s roots old.slot (get_current_epoch s old.slot) current total) (λ c. value (outcome s old none p c)))
  unfolding weigh_justification_and_finalization
  by_tests =
      test-bind s roots old.slot _ previous total _ _ (λ p a.
      test-bind s roots old.slot _ current total _ _ (λ c b. ap value (read-where s old none p c a b)))
