-- The four tests by runs of bits, the last one first.
use mathlib.Core.Path.{◌≡◌}
use mathlib.Core.Bool.{cond, ◌&&◌}
use Prim.Native.Nat.{ℕ, ◌+◌, ◌/◌, ◌%◌}
use lib.Dec.{eqb}
use Rattle.definitions.specs.declared.Finality.{Finality}
use Rattle.definitions_close.specs.FinalizingTest.{last_test}
use Rattle.finality.proofs.Runs.{run_0_1, run_0_2, run_1_2, run_1_3}

abbrev pub last_test_by_runs : ℕ → ℕ → Finality → ℕ
last_test_by_runs epoch bits old =
    let previous = old.previous_justified_checkpoint in
    let current = old.current_justified_checkpoint in
    cond (eqb (bits % 4) 3 && eqb (current.epoch + 1) epoch) 4
    (cond (eqb (bits % 8) 7 && eqb (current.epoch + 2) epoch) 3
    (cond (eqb (bits / 2 % 4) 3 && eqb (previous.epoch + 2) epoch) 2
    (cond (eqb (bits / 2 % 8) 7 && eqb (previous.epoch + 3) epoch) 1 0)))

pub last_test_by_runs_lem : (epoch bits : ℕ) (old : Finality) → last_test epoch bits old ≡ last_test_by_runs epoch bits old
unfolding last_test
last_test_by_runs_lem epoch bits old = rw (run_0_1 bits, run_0_2 bits, run_1_2 bits, run_1_3 bits)
