use mathlib.Core.Bool.{Bool, true, false, cond}
use mathlib.Core.Path.{◌≡◌, refl}
use Rattle.std.specs.Prelude.{is_ok}
use Rattle.definitions.specs.Checked.{Checked, value, refused}
use Rattle.definitions.specs.declared.Refusal.TheVariants.{BadSettings}
use Rattle.definitions.specs.Rules.{good_rules, good_bellatrix}
use Rattle.refusals.specs.Refusal.{rules_refusal}
use Rattle.store.proofs.store_entries.good_rules.Goals as goal

asked : (t : Bool) → is_ok (cond {A = Checked (Unit {0})} t (value tt) (refused BadSettings)) ≡ t
asked true = refl
asked false = refl

pub returns : goal.returns
unfolding good_rules rules_refusal
returns c = rw (c.good_settings.ensures, c.is_ok.ensures.value, c.rules_refusal.ensures, asked (good_bellatrix c.args.rules.bellatrix))
