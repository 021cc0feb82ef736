use mathlib.Core.Path.{ap, ◌∙◌}
use native.Mathlib.Omega.{arith}
use Rattle.definitions_file.specs.File.{Contents, ReadOutcome, contents_with}
use Rattle.round_trip.specs.RoundTrip.{TypedQueue}
use Rattle.round_trip.proofs.file_round_trips.Types.{typed}
use Rattle.round_trip.proofs.file_round_trips.RoundTrips.{read_back}
use Rattle.definitions.specs.declared.Finality.{Finality}
use Rattle.definitions.specs.declared.Settings.{Settings}
use Prim.Native.Nat.{ℕ}
use mathlib.Core.List.{List}
use Rattle.round_trip.proofs.file_round_trips.write_then_read.Goals.{Start}
use Rattle.round_trip.proofs.file_round_trips.write_then_read.Goals as goal

abbrev contents : Settings → Finality → List ℕ → List ℕ → List ℕ → Contents
contents settings finality registry roots slashings = contents_with settings finality registry roots slashings

pair : (c : Start) → TypedQueue c.args.queue
pair c = record { last = omega (arith, c.well_formed); number = omega (arith, c.well_formed) }

pub returns : goal.returns
returns c p =
    let a = c.args in
    let e = c.read_file.ensures in
    let t = typed (contents c.args.settings c.args.finality c.args.registry.now c.args.roots.now c.args.slashings.now) a.queue a.file.now p.tests c.well_formed.1.0 (λ i. (c.shared_slice_known-1.given i).fits) (λ i. (c.shared_slice_known-2-1.given i).fits) (λ i. (c.shared_slice_known-3-1.given i).fits) in
    let same = read_back (contents c.args.settings c.args.finality c.args.registry.now c.args.roots.now c.args.slashings.now) a.queue a.file.now a.registry_read.now a.slashings_read.now t (pair (goal.at.returns c).Start) c.write_file.ensures.file_after p in
    record {
      accepted = e.refusal_value ∙ ap (λ (o : ReadOutcome). o.refusal) same;
      to_end = e.position_value ∙ ap (λ (o : ReadOutcome). o.position) same;
      settings = e.settings_value ∙ ap (λ (o : ReadOutcome). o.contents.settings) same;
      finality = e.finality_value ∙ ap (λ (o : ReadOutcome). o.contents.finality) same;
      queue = e.queue_value ∙ ap (λ (o : ReadOutcome). o.queue) same;
      registry = e.registry_after ∙ ap (λ (o : ReadOutcome). o.contents.registry) same;
      slashings = e.slashings_after ∙ ap (λ (o : ReadOutcome). o.contents.slashings) same;
    }
