-- What the tests of a close give. `x` is what the code of its tests but for the entries answered.
use mathlib.Core.Bool.{Bool, true, false, cond, ◌&&◌}
use mathlib.Core.List.{List, [], ◌∷◌, ◌++◌}
use mathlib.Core.Path.{◌≡◌, refl, sym, ◌∙◌}
use Prim.Native.Nat.{ℕ}
use borrow.Author.Tests.{eqb-true, lt-ltb}
use lib.ListN.{length}
use Rattle.definitions.specs.declared.Settings.{Settings}
use Rattle.definitions.specs.declared.ActivationLimit.{ActivationLimit}
use Rattle.definitions.specs.declared.Finality.{Finality}
use Rattle.definitions.specs.Lists.{every}
use Rattle.definitions.specs.declared.Refusal.{Refusal}
use Rattle.definitions.specs.declared.Refusal.TheVariants.{BadRecord}
use Rattle.definitions.specs.Checked.{Checked, value, refused}
use Rattle.definitions.specs.Refusals.{in_order, settings_shaped, roots_shaped, good_settings, good_finality, good_registry}
use Rattle.definitions.specs.LeafRefusals.{weigh_tests}
use Rattle.definitions.specs.Rules.{settings_under, good_rules}
use Rattle.definitions.specs.Close.{Call, limited_tests}
use Rattle.laws.proofs.Rules.{by-fork, shaped-under, good-under}
use Rattle.laws.proofs.Checked.{not_value}
use Rattle.laws.proofs.Tests.{tested, every_append, and_true, in_order-value}
use Rattle.refusals.specs.Refusal.{limit_refusal}
use Rattle.refusals.proofs.Laws.{registry-shaped, good-finality}
use Rattle.refusals.proofs.rules.Tests.{limit-tested}
use Rattle.registry_close.specs.Worked.{Tested}
use Rattle.close.specs.Worked.{record_tests, limited_record_tests}

pub record Lent (c : Call) : Type 0 where
  pub opening : Tested (settings_under c.rules) c.finality c.registry c.slashings c.roots
  pub closing_registry : length c.closing_registry ≡ length c.registry
  pub closing_slashings : length c.closing_slashings ≡ length c.slashings

weighed : (s : Settings) (roots : List ℕ) (f : Finality) → settings_shaped s ≡ true → roots_shaped s roots ≡ true → good_settings s ≡ true → good_finality f ≡ true → weigh_tests s roots f ≡ value tt
unfolding weigh_tests in_order every
weighed s roots f a b c d = rw (a, b, c, d)

pub lent : (by : ActivationLimit) (c : Call) {x : Checked (Unit {0})} → x ≡ limited_record_tests by c → x ≡ value tt → Lent c
unfolding limited_record_tests
lent by c e z =
    let r = c.rules in
    let p = in_order-value _ _ _ (sym e ∙ z) in
    let shaped = shaped-under r (p.shaped 0) in
    let good = good-under r (p.settings 0) in
    let roots : roots_shaped (settings_under r) c.roots ≡ true = by-fork r (λ t. roots_shaped t c.roots ≡ true) (p.shaped 2) (p.shaped 2) in
    record {
      opening =
          record {
            settings = record { shaped = shaped; good = good; small = lt-ltb _ _ (good-finality c.finality (p.recorded 0)).slot };
            finality = p.recorded 0;
            weighs = weighed (settings_under r) c.roots c.finality shaped roots good (p.recorded 0);
            registry = (registry-shaped c.registry (p.shaped 1)).long;
            slashings = by-fork r (λ t. length c.slashings ≡ t.epochs_per_slashings_vector) (eqb-true _ _ (p.shaped 3)) (eqb-true _ _ (p.shaped 3));
          };
      closing_registry = eqb-true _ _ (p.shaped 4);
      closing_slashings = eqb-true _ _ (p.shaped 5);
    }

-- The limit's test, after those by the rules
pub limit_record : (by : ActivationLimit) (c : Call) {x y : Checked (Unit {0})} → y ≡ limit_refusal by x → x ≡ record_tests c → y ≡ limited_record_tests by c
unfolding limited_record_tests
limit_record by c e f = limit-tested by _ (good_rules c.rules ∷ []) _ e f

-- A test of 3 made after the others
module _ (shaped settings recorded : List Bool) (last : Bool) where
  still-refused : {p : Refusal} → in_order shaped settings recorded ≡ refused p → in_order shaped settings (recorded ++ (last ∷ [])) ≡ refused p
  unfolding in_order
  still-refused {p} e = rw (every_append recorded (last ∷ [])) (go (every shaped) (every settings) (every recorded) e)
    where
      go : (a b c : Bool) → tested a b c ≡ refused p → tested a b (c && every (last ∷ [])) ≡ refused p
      go true true true e = absurd (not_value (sym e))
      go true true false e = e
      go true false c e = e
      go false b c e = e

  then-tested : in_order shaped settings recorded ≡ value tt → in_order shaped settings (recorded ++ (last ∷ [])) ≡ cond last (value tt) (refused BadRecord)
  unfolding in_order every
  then-tested e = rw (every_append recorded (last ∷ []), and_true last) (go (every shaped) (every settings) (every recorded) last e)
    where
      go : (a b c d : Bool) → tested a b c ≡ value tt → tested a b (c && d) ≡ cond d (value tt) (refused BadRecord)
      go true true true true e = refl
      go true true true false e = refl
      go true true false d e = absurd (not_value e)
      go true false c d e = absurd (not_value e)
      go false b c d e = absurd (not_value e)

-- With the entries' test, these are the tests of the close

module _ (by : ActivationLimit) (c : Call) {x : Checked (Unit {0})} (e : x ≡ limited_record_tests by c) where
  pub record_refused : {p : Refusal} → x ≡ refused p → limited_tests by c ≡ refused p
  unfolding limited_record_tests limited_tests
  record_refused z = still-refused _ _ _ (good_registry c.registry) (sym e ∙ z)

  pub entries-tested : x ≡ value tt → {y : Checked (Unit {0})} → y ≡ cond (good_registry c.registry) (value tt) (refused BadRecord) → y ≡ limited_tests by c
  unfolding limited_record_tests limited_tests
  entries-tested z h = h ∙ sym (then-tested _ _ _ (good_registry c.registry) (sym e ∙ z))
