-- The Bellatrix pair, tested as under fork 1.
use mathlib.Core.Bool.{Bool, true, false, cond}
use mathlib.Core.Path.{◌≡◌, refl}
use Rattle.std.specs.Prelude.{is_ok}
use Rattle.definitions.specs.declared.Settings.{Settings}
use Rattle.definitions.specs.declared.Bellatrix.{Bellatrix}
use Rattle.definitions.specs.declared.Refusal.TheVariants.{BadSettings}
use Rattle.definitions.specs.Checked.{Checked, value, refused}
use Rattle.definitions.specs.Rules.{good_bellatrix}
use Rattle.refusals.specs.Refusal.{rules_refusal}

pub good-pair : (s : Settings) (b : Bellatrix) {x : Checked (Unit {0})} → x ≡ rules_refusal (record { settings = s; fork = 1; bellatrix = b }) (value tt) → is_ok x ≡ good_bellatrix b
unfolding rules_refusal
good-pair s b e = rw e (go (good_bellatrix b))
  where
    go : (t : Bool) → is_ok (cond {A = Checked (Unit {0})} t (value tt) (refused BadSettings)) ≡ t
    go true = refl
    go false = refl
