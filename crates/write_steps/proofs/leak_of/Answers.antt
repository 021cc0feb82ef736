use mathlib.Core.Path.{sym, ◌∙◌}
use Rattle.write_steps.proofs.Leak.{leak-none, leak-some}
use Rattle.write_steps.proofs.leak_of.Goals as goal

pub returns-then-current-eq0 : goal.returns-then-current-eq0
returns-then-current-eq0 c = sym (leak-none c.args.s c.args.state_slot c.args.finalized_epoch (sym c.requires.1 ∙ c.if-current-eq0.true))

pub returns : goal.returns
returns c = rw (leak-some c.args.s c.args.state_slot c.args.finalized_epoch (λ z. c.if-current-eq0.false (c.requires.1 ∙ z))) c.inactivity_leak.ensures
