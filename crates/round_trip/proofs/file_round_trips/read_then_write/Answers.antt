use mathlib.Core.Path.{◌≡◌, sym, ap, ◌∙◌}
use Rattle.definitions.specs.Checked.{code_of}
use Rattle.definitions_file.specs.File.{Contents, read, contents_with}
use Rattle.round_trip.specs.RoundTrip.{Below}
use Rattle.record_file.proofs.Reading.{read-code, read-lengths}
use Rattle.round_trip.proofs.file_round_trips.RoundTrips.{contents-found, same_bytes}
use Rattle.round_trip.proofs.file_round_trips.read_then_write.Goals as goal

pub returns-then-read-ne0 : goal.returns-then-read-ne0
returns-then-read-ne0 c p = absurd (c.if-read-ne0.true (c.read_file-read.ensures.refusal_value ∙ read-code _ _ _ ∙ ap code_of p.tests))

pub file_roots-roots-requires : goal.file_roots-roots-requires
file_roots-roots-requires c = (read-lengths _ _ _ (c.read_file-read.ensures.refusal_value ∙ read-code _ _ _) c.if-read-ne0.false).header

pub returns : goal.returns
returns c p =
    let a = c.args in
    let found = c.read_file-read in
    let e = found.ensures in
    let k : Contents = contents_with found.result.settings found.result.finality found.new.registry c.file_roots-roots.result.now found.new.slashings in
    let roots = c.file_roots-roots.ensures ∙ sym (ap (λ (x : Contents). x.roots) (contents-found a.bytes.now a.registry.now a.slashings.now p.tests)) in
    let same : k ≡ (read a.bytes.now a.registry.now a.slashings.now).contents = λ i. record { settings = e.settings_value i; finality = e.finality_value i; registry = e.registry_after i; roots = roots i; slashings = e.slashings_after i } in
    let bytes : Below 256 a.bytes.now = record { each = λ i l. (c.shared_slice_known-1.given i).fits } in
    same_bytes _ _ _ _ k found.result.queue bytes same e.queue_value (c.code.ensures ∙ ap code_of c.write_file.ensures.value) c.write_file.ensures.file_after p
