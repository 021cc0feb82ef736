use mathlib.Core.Path.{◌≡◌, ap, ◌∙◌}
use Prim.Native.Nat.{◌+◌, ◌-◌}
use native.Mathlib.Omega.{arith}
use lib.ListN.{take, drop}
use Rattle.definitions_file.specs.File.{from_little_endian}
use Rattle.fields.proofs.Bytes.{number-read}
use Rattle.fields.proofs.reader.number_at.Goals as goal

pub returns : goal.returns
returns c =
    let a = c.args in
    let eight : a.at + 8 - a.at ≡ 8 = omega arith in
    let copied : c.copy_from_slice.new.self ≡ take 8 (drop a.at a.bytes.now) = rw eight at c.copy_from_slice.ensures.after in
    c.from_le_bytes.ensures ∙ number-read c.copy_from_slice.new.self c.copy_from_slice.auto.self ∙ ap from_little_endian copied
