use mathlib.Core.Path.{◌∙◌}
use native.Mathlib.Omega.{arith}
use Rattle.definitions_file.specs.File.{little_endian}
use Rattle.laws_file.proofs.Numbers.{length_little}
use Rattle.fields.proofs.Bytes.{written-number}
use Rattle.fields.proofs.Stores.{sets-copied}
use Rattle.fields.proofs.put_number.Goals as goal

pub returns : goal.returns
returns c =
    let a = c.args in
    let long = length_little 8 a.n in
    sets-copied a.file.now (little_endian 8 a.n) a.at _ (c.copy_from_slice.ensures.after ∙ c.to_le_bytes.ensures ∙ written-number a.n) (omega (arith, long)) (omega (arith, long))
