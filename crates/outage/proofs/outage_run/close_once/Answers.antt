use mathlib.Core.Path.{sym, ap, ◌∙◌}
use native.Mathlib.Omega.{arith}
use Rattle.definitions.specs.Rules.{altair_rules}
use Rattle.definitions_file.specs.File.{Contents, contents_with}
use Rattle.definitions.specs.Close.{Call, Outcome}
use Rattle.close.specs.Called.{called}
use Rattle.refusals.proofs.Laws.{registry-shaped}
use Rattle.listing.proofs.listing_close.Accepted.{accepted}
use Rattle.definitions_file.specs.OutageRun.{head_of}
use Rattle.outage.proofs.outage_run.Once.{once-refused, once_closed}
use Rattle.definitions.specs.declared.Finality.{Finality}
use Rattle.definitions.specs.declared.Settings.{Settings}
use Prim.Native.Nat.{ℕ}
use mathlib.Core.List.{List}
use Rattle.outage.proofs.outage_run.close_once.Goals as goal

abbrev handed : Settings → Finality → List ℕ → List ℕ → List ℕ → Contents
handed s' finality registry roots slashings = contents_with s' finality registry roots slashings

abbrev called_with : Settings → Finality → List ℕ → List ℕ → List ℕ → List ℕ → List ℕ → Call
called_with s' finality registry slashings roots closing_registry closing_slashings = called (altair_rules s') finality registry slashings roots closing_registry closing_slashings

pub returns-then-closed-ne0 : goal.returns-then-closed-ne0
returns-then-closed-ne0 c =
    once-refused (handed c.args.s c.args.finality c.args.registry.now c.args.roots.now c.args.slashings.now) c.args.closing_registry.now c.args.closing_slashings.now c.requires.entries c.requires.sums c.close_as_altair-closed.ensures c.if-closed-ne0.true

pub head_core-h-requires : goal.head_core-h-requires
head_core-h-requires c =
    let h = accepted (called_with c.args.s c.args.finality c.args.registry.now c.args.slashings.now c.args.roots.now c.args.closing_registry.now c.args.closing_slashings.now) (sym (ap (λ (o : Outcome). o.refusal) c.close_as_altair-closed.ensures) ∙ c.if-closed-ne0.false) in
    record { slots_per_epoch_nonzero = h.epochs; opening_len = (registry-shaped _ h.shaped).long }

pub put_head-last-requires : goal.put_head-last-requires
put_head-last-requires c =
    omega (arith, c.requires.heads)

pub copy_from_slice-requires : goal.copy_from_slice-requires
copy_from_slice-requires c =
    omega (arith, c.close_as_altair-closed.auto.closing_registry, c.requires.entries)

pub copy_from_slice-requires-2 : goal.copy_from_slice-requires-2
copy_from_slice-requires-2 c =
    omega (arith, c.close_as_altair-closed.auto.closing_slashings, c.requires.sums)

pub returns : goal.returns
unfolding head_of
returns c =
    let p = c.put_head-last.ensures in
    let e = c.close_as_altair-closed.ensures in
    let z = c.if-closed-ne0.false in
    let flags = ap (λ (o : Outcome). o.raised) e ∙ (accepted (called_with c.args.s c.args.finality c.args.registry.now c.args.slashings.now c.args.roots.now c.args.closing_registry.now c.args.closing_slashings.now) (sym (ap (λ (o : Outcome). o.refusal) e) ∙ z)).raised in
    rw (c.copy_from_slice.ensures.after, c.copy_from_slice-2.ensures.after)
    (once_closed (handed c.args.s c.args.finality c.args.registry.now c.args.roots.now c.args.slashings.now) c.args.closing_registry.now c.args.closing_slashings.now c.requires.entries c.requires.sums e z (rw (c.head_core-h.ensures, ← flags) at p.put) (omega (arith, p.upper_bound)))
