-- The tests of a call that is lent rules, from what its tests by the settings answered; and with a limit of activations, from what those by
-- the rules answered.
use Rattle.std.specs.Prelude.{cond, ◌||◌, leb, eqb}
use Rattle.definitions.specs.declared.Rules.{Rules}
use Rattle.definitions.specs.declared.ActivationLimit.{ActivationLimit}
use Rattle.definitions.specs.declared.Refusal.TheVariants.{BadShape, BadSettings}
use Rattle.definitions.specs.Checked.{Checked, refused, code_of}
use Rattle.definitions.specs.Lists.{every}
use Rattle.definitions.specs.Rules.{«BELLATRIX», is_altair, good_bellatrix}
use Rattle.definitions.specs.Close.{good_limit}

unfoldable pub rules_refusal : Rules → Checked (Unit {0}) → Checked (Unit {0})
rules_refusal r by_settings =
    let by_pair = cond (is_altair r || good_bellatrix r.bellatrix) by_settings (refused BadSettings) in
    cond (leb r.fork «BELLATRIX») (cond (eqb (code_of by_settings) 1) by_settings by_pair) (refused BadShape)

unfoldable pub limit_refusal : ActivationLimit → Checked (Unit {0}) → Checked (Unit {0})
limit_refusal limit by_rules = cond (eqb (code_of by_rules) 1) by_rules (cond (every (good_limit limit)) by_rules (refused BadSettings))
