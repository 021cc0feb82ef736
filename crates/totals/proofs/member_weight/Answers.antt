use mathlib.Core.Path.{sym, ◌∙◌}
use Rattle.totals.proofs.member_weight.Goals as goal

pub returns-then-is_member : goal.returns-then-is_member
returns-then-is_member c = rw (sym c.is_member.ensures ∙ c.if-is_member.true)

pub returns : goal.returns
returns c = rw (sym c.is_member.ensures ∙ c.if-is_member.false)
