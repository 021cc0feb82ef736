use mathlib.Core.Path.{◌≡◌, refl, sym, ◌∙◌}
use mathlib.Core.Bool.{true, false, false≢true, true≢false}
use native.Mathlib.Omega.{arith}
use Rattle.std.specs.Prelude.{is_err}
use Rattle.definitions.specs.Checked.{Checked, value, refused}
use Rattle.definitions_file.specs.File.{Contents, contents_of, contents_with, good_header}
use Rattle.round_trip.proofs.file_round_trips.Types.{typed}
use Rattle.round_trip.proofs.file_round_trips.RoundTrips.{written-roots}
use Rattle.definitions.specs.declared.Finality.{Finality}
use Rattle.definitions.specs.declared.Settings.{Settings}
use Prim.Native.Nat.{ℕ}
use mathlib.Core.List.{List}
use Rattle.round_trip.proofs.file_round_trips.write_then_roots.Goals.{Else-is_err}
use Rattle.round_trip.proofs.file_round_trips.write_then_roots.Goals as goal

abbrev contents : Settings → Finality → List ℕ → List ℕ → List ℕ → Contents
contents settings finality registry roots slashings = contents_with settings finality registry roots slashings

accepted : (m : Checked (Unit {0})) → is_err m ≡ false → m ≡ value tt
accepted (value u) e = refl
accepted (refused p) e = absurd (true≢false e)

back : (c : Else-is_err) → let bytes = c.write_file-written.new.file in (good_header bytes ≡ true) × ((contents_of bytes).roots ≡ c.args.roots.now)
back c =
    let w = c.write_file-written.ensures in
    let e = sym w.value ∙ accepted c.write_file-written.result (sym c.is_err.ensures.value ∙ c.if-is_err.false) in
    let t = typed (contents c.args.settings c.args.finality c.args.registry.now c.args.roots.now c.args.slashings.now) c.args.queue c.args.file.now e c.well_formed.1.0 (λ i. (c.shared_slice_known-1.given i).fits) (λ i. (c.shared_slice_known-2-1.given i).fits) (λ i. (c.shared_slice_known-3-1.given i).fits) in
    written-roots (contents c.args.settings c.args.finality c.args.registry.now c.args.roots.now c.args.slashings.now) c.args.queue c.args.file.now t (record { last = omega (arith, c.well_formed); number = omega (arith, c.well_formed) }) w.file_after e

pub returns-then-is_err : goal.returns-then-is_err
returns-then-is_err c p =
    absurd (false≢true (rw (c.write_file-written.ensures.value ∙ p.tests) at (sym c.is_err.ensures.value ∙ c.if-is_err.true)))

pub file_roots-requires : goal.file_roots-requires
file_roots-requires c = (back (goal.at.file_roots-requires c).Else-is_err).0

pub returns : goal.returns
returns c p = c.file_roots.ensures ∙ (back (goal.at.returns c).Else-is_err).1
