use mathlib.Core.Path.{sym, refl, ◌∙◌}
use borrow.Author.Tests.{ne_eqb}
use Rattle.definitions.specs.Checked.{bind}
use Rattle.definitions.specs.Rust.Altair.EpochProcessing.{process_inactivity_updates}
use Rattle.laws.proofs.Encode.{encode-decode}
use Rattle.refusals.proofs.Laws.{good-settings}
use Rattle.arithmetic.proofs.Laws.{carried}
use Rattle.laws.proofs.Loops.Ran.{ran-value, ran-refused}
use Rattle.participation.proofs.inactivity.inactivity_core.Goals as goal

pub current_epoch-current-requires : goal.current_epoch-current-requires
current_epoch-current-requires c = (good-settings _ c.requires.s_value).positive.slots_per_epoch

pub returns-then-current-eq0 : goal.returns-then-current-eq0
unfolding process_inactivity_updates
returns-then-current-eq0 c = rw (← c.current_epoch-current.ensures, c.if-current-eq0.true) (ran-value (sym (encode-decode _ _ c.requires.registry_len)))

pub inactivity_leak-requires : goal.inactivity_leak-requires
inactivity_leak-requires c = (good-settings _ c.requires.s_value).positive.slots_per_epoch

pub returns-in_err-leaking : goal.returns-in_err-leaking
unfolding process_inactivity_updates bind
returns-in_err-leaking c =
    let k = sym c.inactivity_leak.ensures ∙ c.in_err-leaking.was in
    rw (carried _ c.from_residual.ensures, ← c.current_epoch-current.ensures, ne_eqb _ _ c.if-current-eq0.false, k) (ran-refused refl)

pub previous_epoch-previous-requires : goal.previous_epoch-previous-requires
previous_epoch-previous-requires c = (good-settings _ c.requires.s_value).positive.slots_per_epoch

pub returns : goal.returns
unfolding process_inactivity_updates bind
returns c =
    let k = sym c.inactivity_leak.ensures ∙ c.in_ok-leaking.was in
    rw (← c.current_epoch-current.ensures, ne_eqb _ _ c.if-current-eq0.false, k, ← c.previous_epoch-previous.ensures) c.update_scores.ensures
