use mathlib.Core.Path.{sym, ap, ◌∙◌}
use native.Mathlib.Omega.{arith}
use Rattle.definitions.specs.Checked.{code_of}
use Rattle.definitions_file.specs.File.{Contents, contents_of, read}
use Rattle.record_file.proofs.Reading.{Lengths, read-refused, read-accepted, read-lengths, registry-part, slashings-part}
use Prim.Native.Nat.{ℕ}
use mathlib.Core.List.{List}
use Rattle.record_file.proofs.read_file.Goals.{In_default}
use Rattle.record_file.proofs.read_file.Goals as goal

abbrev Long : List ℕ → List ℕ → List ℕ → Type 0
Long bytes registry slashings = Lengths bytes registry slashings

lengths : (c : In_default) → Long c.args.bytes.now c.args.registry.now c.args.slashings.now
lengths c = read-lengths _ _ _ (ap code_of c.read_tests-tested.ensures.is) (ap code_of c.in_default.is)

pub returns-in-Err : goal.returns-in-Err
unfolding read
returns-in-Err c =
    let t = c.read_tests-tested.ensures in
    let g = read-refused _ _ _ (sym t.is ∙ c.in-Err.is) c.number.ensures in
    let settings = c.no_settings.ensures ∙ sym (ap (λ (k : Contents). k.settings) g.contents) in
    let finality = c.no_finality.ensures ∙ sym (ap (λ (k : Contents). k.finality) g.contents) in
    let registry = sym (ap (λ (k : Contents). k.registry) g.contents) in
    let slashings = sym (ap (λ (k : Contents). k.slashings) g.contents) in
    record { refusal_value = g.number; position_value = t.place; settings_value = settings; finality_value = finality; queue_value = t.pair; registry_after = registry; slashings_after = slashings }

pub registry_at-from-requires : goal.registry_at-from-requires
registry_at-from-requires c = (lengths (goal.at.registry_at-from-requires c).In_default).header

pub overflow_mul-slashings_at : goal.overflow_mul-slashings_at
overflow_mul-slashings_at c =
    omega (arith, lengths (goal.at.overflow_mul-slashings_at c).In_default, c.well_formed)

pub read_numbers-requires-2 : goal.read_numbers-requires-2
read_numbers-requires-2 c =
    omega (arith, lengths (goal.at.read_numbers-requires-2 c).In_default)

pub returns : goal.returns
unfolding read contents_of
returns c =
    let t = c.read_tests-tested.ensures in
    let l = lengths (goal.at.returns c).In_default in
    let g = read-accepted _ _ _ (ap code_of t.is) (ap code_of c.in_default.is) in
    let settings = c.read_settings-settings.ensures ∙ sym (ap (λ (k : Contents). k.settings) g.contents) in
    let finality = c.read_finality-finality.ensures ∙ sym (ap (λ (k : Contents). k.finality) g.contents) in
    let registry = (rw c.registry_at-from.ensures at c.read_numbers.ensures) ∙ registry-part l ∙ sym (ap (λ (k : Contents). k.registry) g.contents) in
    let slashings = c.read_numbers-2.ensures ∙ slashings-part l ∙ sym (ap (λ (k : Contents). k.slashings) g.contents) in
    record { refusal_value = g.number; position_value = t.place; settings_value = settings; finality_value = finality; queue_value = t.pair; registry_after = registry; slashings_after = slashings }

pub read_settings-settings-requires : goal.read_settings-settings-requires
read_settings-settings-requires c = omega (arith, lengths (goal.at.read_settings-settings-requires c).In_default)

pub read_finality-finality-requires : goal.read_finality-finality-requires
read_finality-finality-requires c = omega (arith, lengths (goal.at.read_finality-finality-requires c).In_default)

pub overflow_sub-slashings_at : goal.overflow_sub-slashings_at
overflow_sub-slashings_at c = omega (arith, lengths (goal.at.overflow_sub-slashings_at c).In_default)

pub read_numbers-requires : goal.read_numbers-requires
read_numbers-requires c = omega (arith, lengths (goal.at.read_numbers-requires c).In_default, c.registry_at-from.ensures)
