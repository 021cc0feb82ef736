-- The weighing asks for each of two epochs: does the test pass, and where it does, which root?
use Rattle.std.specs.Prelude.{cond, List, ℕ}
use Rattle.std.specs.declared.option.Option.{Option}
use Rattle.std.specs.declared.option.Option.TheVariants.{Some, None}
use Rattle.definitions.specs.declared.Settings.{Settings}
use Rattle.definitions.specs.Checked.{Checked, value, bind}
use Rattle.definitions.specs.Rust.Phase0.EpochProcessing.{is_justified, root_where}

-- the test, then the root
unfoldable pub test_epoch : Settings → List ℕ → ℕ → ℕ → ℕ → ℕ → Checked (Option (List ℕ))
test_epoch s roots state_slot epoch target total =
    bind (is_justified target total) (λ passed.
    bind (root_where passed s roots state_slot epoch) (λ root.
    value (cond passed (Some root) None)))
