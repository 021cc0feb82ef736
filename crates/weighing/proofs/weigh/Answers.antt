use mathlib.Core.List.{List, []}
use Prim.Native.Nat.{ℕ}
use lib.ListN.{replicate}
use mathlib.Core.Path.{ap}
use Rattle.definitions.specs.Checked.{value}
use Rattle.arithmetic.proofs.Laws.{next, passes-on}
use Rattle.weighing.proofs.Passed.{weigh-passed}
use Rattle.weighing.proofs.Weighed.{by_tests}
use Rattle.weighing.proofs.weigh.Goals as goal

abbrev no_bytes : List ℕ
no_bytes = replicate 32 0

pub previous_epoch-previous_epoch-requires : goal.previous_epoch-previous_epoch-requires
previous_epoch-previous_epoch-requires c = (weigh-passed _ _ _ c.requires).settings.good.positive.slots_per_epoch

pub current_epoch-current_epoch-requires : goal.current_epoch-current_epoch-requires
current_epoch-current_epoch-requires c = (weigh-passed _ _ _ c.requires).settings.good.positive.slots_per_epoch

pub test_epoch-requires : goal.test_epoch-requires
test_epoch-requires c = let p = weigh-passed _ _ _ c.requires in record { roots_len = p.long; slots_per_historical_root_nonzero = p.settings.shape.roots.least }

pub test_epoch-requires-2 : goal.test_epoch-requires-2
test_epoch-requires-2 c = let p = weigh-passed _ _ _ c.requires in record { roots_len = p.long; slots_per_historical_root_nonzero = p.settings.shape.roots.least }

pub weighed-requires : goal.weighed-requires
weighed-requires c = let p = (weigh-passed _ _ _ c.requires).finality in record { justification_bits_bound = p.bits; previous_justified_checkpoint_bound = (p.previous, p.current) }

pub returns-in_err-p : goal.returns-in_err-p
returns-in_err-p c =
    let p = rw c.previous_epoch-previous_epoch.ensures at c.test_epoch.ensures in
    rw (by_tests _ _ _ _ _ _ []) (passes-on _ p c.in_err-p.was c.from_residual.ensures)

pub returns-in_err-c : goal.returns-in_err-c
returns-in_err-c c =
    let p = rw c.previous_epoch-previous_epoch.ensures at c.test_epoch.ensures in
    let q = rw c.current_epoch-current_epoch.ensures at c.test_epoch-2.ensures in
    rw (by_tests _ _ _ _ _ _ []) (next _ p c.in_ok-p.was (passes-on _ q c.in_err-c.was c.from_residual-in_err-c.ensures))

pub returns : goal.returns
returns c =
    let p = rw c.previous_epoch-previous_epoch.ensures at c.test_epoch.ensures in
    let q = rw c.current_epoch-current_epoch.ensures at c.test_epoch-2.ensures in
    let e =
    rw (c.previous_epoch-previous_epoch.ensures, c.current_epoch-current_epoch.ensures, c.is_some.ensures, c.is_some-2.ensures, c.unwrap_or-previous_root.ensures, c.unwrap_or-current_root.ensures) at c.weighed.ensures
    in
    rw (by_tests _ _ _ _ _ _ no_bytes) (next _ p c.in_ok-p.was (next _ q c.in_ok-c.was (ap value e)))
