use mathlib.Core.Bool.{Bool, true, false, cond}
use mathlib.Core.Path.{◌≡◌, refl, sym, ◌∙◌}
use Rattle.definitions.specs.Checked.{Checked, value, refused}
use Rattle.std.specs.Prelude.{is_ok, is_err}
use Rattle.refusals.proofs.buffers.put_back.Goals as goal

kept : (m : Checked (Unit {0})) {A : Type 0} {a : A} (b : A) → is_err m ≡ false → a ≡ cond (is_ok m) a b
kept (value u) b e = refl
kept (refused p) b e = cc

back : (m : Checked (Unit {0})) {A : Type 0} (a : A) {b c : A} → is_err m ≡ true → c ≡ b → c ≡ cond (is_ok m) a b
back (value u) a e h = cc
back (refused p) a e h = h

pub returns-then-is_err : goal.returns-then-is_err
returns-then-is_err c = back c.args.done _ (sym c.is_err.ensures.value ∙ c.if-is_err.true) c.copy.ensures

pub returns-else-is_err : goal.returns-else-is_err
returns-else-is_err c = kept c.args.done _ (sym c.is_err.ensures.value ∙ c.if-is_err.false)
