-- What the code answers is what the definition's tests do. `x` is what the tests by the settings answered, or those by the rules.
use mathlib.Core.Path.{◌≡◌, refl, ◌∙◌}
use mathlib.Core.Bool.{Bool, true, false, cond, ◌&&◌, ◌||◌}
use mathlib.Core.List.{List, ◌∷◌, ◌++◌}
use lib.Dec.{leb, eqb}
use Rattle.definitions.specs.declared.Rules.{Rules}
use Rattle.definitions.specs.declared.ActivationLimit.{ActivationLimit}
use Rattle.definitions.specs.Lists.{every}
use Rattle.definitions.specs.Checked.{Checked, refused, code_of}
use Rattle.definitions.specs.declared.Refusal.TheVariants.{BadShape, BadSettings}
use Rattle.definitions.specs.Refusals.{in_order, settings_shaped, good_settings}
use Rattle.definitions.specs.Rules.{«BELLATRIX», is_altair, rules_shaped, good_bellatrix, good_rules}
use Rattle.definitions.specs.Close.{good_limit}
use Rattle.laws.proofs.Tests.{tested, settings-tested}
use Rattle.refusals.specs.Refusal.{rules_refusal, limit_refusal}

-- under 1 the settings' a and the others' d, under 2 the settings' g and the others' m; the fork's f stands beside a, the pair's p beside g
in_their_order : (a f d g p m c : Bool) → let x = tested (a && d) (g && m) c in cond f (cond (eqb (code_of x) 1) x (cond p x (refused BadSettings))) (refused BadShape) ≡ tested ((a && f) && d) ((g && p) && m) c
in_their_order true true true true true true true = refl
in_their_order true true true true true true false = refl
in_their_order true true true true true false c = refl
in_their_order true true true true false true true = refl
in_their_order true true true true false true false = refl
in_their_order true true true true false false c = refl
in_their_order true true true false true m c = refl
in_their_order true true true false false m c = refl
in_their_order true true false g p m c = refl
in_their_order true false d g p m c = refl
in_their_order false true d g p m c = refl
in_their_order false false d g p m c = refl

-- beside what is tested besides settings, fork and pair
pub rules-tested : (r : Rules) (others more recorded : List Bool) {x y : Checked (Unit {0})} → y ≡ rules_refusal r x → x ≡ in_order (settings_shaped r.settings ∷ others) (good_settings r.settings ∷ more) recorded → y ≡ in_order (rules_shaped r ∷ others) (good_rules r ∷ more) recorded
unfolding rules_refusal rules_shaped good_rules in_order every
rules-tested r others more recorded e f =
    e ∙ rw f (in_their_order (settings_shaped r.settings) (leb r.fork «BELLATRIX») (every others) (good_settings r.settings) (is_altair r || good_bellatrix r.bellatrix) (every more) (every recorded))

-- beside what is tested besides the limit
pub limit-tested : (limit : ActivationLimit) (shaped settings recorded : List Bool) {x y : Checked (Unit {0})} → y ≡ limit_refusal limit x → x ≡ in_order shaped settings recorded → y ≡ in_order shaped (settings ++ good_limit limit) recorded
unfolding limit_refusal
limit-tested limit shaped settings recorded e f = e ∙ settings-tested shaped settings (good_limit limit) recorded f
