use mathlib.Core.Path.{◌≡◌}
use Prim.Native.Nat.{◌<◌}
use native.Mathlib.Omega.{arith}
use borrow.Author.Tests.{lt-ltb, le-ltb, eq-eqb, ne_eqb}
use Rattle.laws.specs.Cut.{admit_one, queued_before, queued_at}
use Rattle.laws.proofs.Encode.{ten}
use Rattle.refusals.proofs.All.{fails, passes}
use Rattle.definitions.specs.Record.{decode_one}
use mathlib.Core.Path.{ap}
use mathlib.Core.Bool.{not}
use Rattle.registry.proofs.activation.admit_entry.Goals as goal

pub returns-then-not-entry_is_eligible_for_activation : goal.returns-then-not-entry_is_eligible_for_activation
unfolding admit_one queued_before queued_at
returns-then-not-entry_is_eligible_for_activation c =
    let t = fails c.entry_is_eligible_for_activation.ensures (ap not c.if-not-entry_is_eligible_for_activation.true) in
    record { after = rw t (ten c.args.entry.now c.requires); value = rw t (omega arith) }

pub returns-then-bound-since : goal.returns-then-bound-since
unfolding admit_one queued_before queued_at
returns-then-bound-since c =
    let x = (decode_one c.args.entry.now).activation_eligibility_epoch in
    let bound = c.args.bound in
    let t = passes c.entry_is_eligible_for_activation.ensures (ap not c.if-not-entry_is_eligible_for_activation.false) in
    let h : bound < x = c.if-bound-since.true in
    let n = ne_eqb x bound (λ e. omega arith) in
    record { after = rw (t, le-ltb x bound (omega arith), n) (ten c.args.entry.now c.requires); value = rw (t, n) (omega arith) }

pub returns-then-since-bound : goal.returns-then-since-bound
unfolding admit_one queued_before queued_at
returns-then-since-bound c =
    let x = (decode_one c.args.entry.now).activation_eligibility_epoch in
    let bound = c.args.bound in
    let t = passes c.entry_is_eligible_for_activation.ensures (ap not c.if-not-entry_is_eligible_for_activation.false) in
    let h : x < bound = c.if-since-bound.true in
    record { after = rw (t, lt-ltb x bound h, ten c.args.entry.now c.requires); value = rw (t, ne_eqb x bound (λ e. omega arith)) (omega arith) }

pub returns-then-left-eq0 : goal.returns-then-left-eq0
unfolding admit_one queued_before queued_at
returns-then-left-eq0 c =
    let x = (decode_one c.args.entry.now).activation_eligibility_epoch in
    let bound = c.args.bound in
    let t = passes c.entry_is_eligible_for_activation.ensures (ap not c.if-not-entry_is_eligible_for_activation.false) in
    let h : x ≡ bound = omega (arith, c.if-since-bound.false, c.if-bound-since.false) in
    let q = eq-eqb x bound h in
    record { after = rw (t, le-ltb x bound (omega arith), q, c.if-left-eq0.true) (ten c.args.entry.now c.requires); value = rw (t, q) (omega arith) }

pub returns : goal.returns
unfolding admit_one queued_before queued_at
returns c =
    let x = (decode_one c.args.entry.now).activation_eligibility_epoch in
    let bound = c.args.bound in
    let t = passes c.entry_is_eligible_for_activation.ensures (ap not c.if-not-entry_is_eligible_for_activation.false) in
    let h : x ≡ bound = omega (arith, c.if-since-bound.false, c.if-bound-since.false) in
    let q = eq-eqb x bound h in
    record { after = rw (t, le-ltb x bound (omega arith), q, lt-ltb 0 c.args.left (omega arith), ten c.args.entry.now c.requires); value = rw (t, q) }
