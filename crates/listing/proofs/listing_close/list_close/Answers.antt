use mathlib.Core.Path.{sym, ap, ◌∙◌}
use native.Mathlib.Omega.{arith}
use Rattle.definitions.specs.Rules.{altair_rules}
use Rattle.definitions.specs.Close.{Call, Outcome}
use Rattle.close.specs.Called.{called}
use Rattle.definitions_file.specs.Lines.{close_text, accepted_text}
use Rattle.listing.proofs.listing_close.Accepted.{Accepted, accepted}
use Rattle.listing.proofs.listing_close.Printed.{printed-refused, printed-text}
use Rattle.definitions.specs.declared.Finality.{Finality}
use Rattle.definitions.specs.declared.Settings.{Settings}
use Prim.Native.Nat.{ℕ}
use mathlib.Core.List.{List}
use Rattle.listing.proofs.listing_close.list_close.Goals.{Else-closed-ne0}
use Rattle.listing.proofs.listing_close.list_close.Goals as goal

abbrev handed : Settings → Finality → List ℕ → List ℕ → List ℕ → List ℕ → List ℕ → Call
handed s' finality registry slashings roots closing_registry closing_slashings = called (altair_rules s') finality registry slashings roots closing_registry closing_slashings

passed : (c : Else-closed-ne0) → Accepted (handed c.args.s c.args.finality c.args.registry.now c.args.slashings.now c.args.roots.now c.args.closing_registry.now c.args.closing_slashings.now)
passed c = accepted _ (sym (ap (λ (o : Outcome). o.refusal) c.close_as_altair-closed.ensures) ∙ c.if-closed-ne0.false)

pub returns-then-closed-ne0 : goal.returns-then-closed-ne0
returns-then-closed-ne0 c =
    let p = c.put_refused.ensures in
    record { text = rw (printed-refused (handed c.args.s c.args.finality c.args.registry.now c.args.slashings.now c.args.roots.now c.args.closing_registry.now c.args.closing_slashings.now) c.close_as_altair-closed.ensures c.if-closed-ne0.true) p.put; inside = omega (arith, p.upper_bound, c.requires) }

pub put_close-requires : goal.put_close-requires
put_close-requires c =
    let a = passed (goal.at.put_close-requires c).Else-closed-ne0 in
    record { slots_per_epoch_nonzero = a.epochs; registry_value = (a.shaped, omega (arith, a.alike, c.close_as_altair-closed.auto.closing_registry)); registry_in_bounds = c.requires }

pub returns : goal.returns
unfolding close_text accepted_text
returns c =
    let closed = c.close_as_altair-closed.ensures in
    let flags = ap (λ (o : Outcome). o.raised) closed ∙ (passed (goal.at.returns c).Else-closed-ne0).raised in
    record { text = rw (printed-text (handed c.args.s c.args.finality c.args.registry.now c.args.slashings.now c.args.roots.now c.args.closing_registry.now c.args.closing_slashings.now) closed c.if-closed-ne0.false) (rw (← flags) at c.put_close.ensures.put); inside = c.put_close.ensures.upper_bound }
