use mathlib.Core.Path.{◌≡◌, refl}
use native.Mathlib.Omega.{arith}
use borrow.Author.Rules.{rules}
use lib.ListN.{length}
use Rattle.definitions_file.specs.File.{little_endian}
use Rattle.laws_file.proofs.Numbers.{length_little}
use Rattle.fields.proofs.Stores.{stored-first, stored_more}
use Rattle.fields.proofs.put_checkpoint.Goals as goal

pub put_bytes-requires : goal.put_bytes-requires
put_bytes-requires c =
    let e : length c.args.c.root ≡ 32 = search rules in
    omega arith

pub returns : goal.returns
returns c =
    let a = c.args in
    let epoch = stored-first a.file.now a.at (little_endian 8 a.c.epoch) (length_little 8 a.c.epoch) c.put_number.ensures in
    (stored_more epoch a.c.root refl refl refl c.put_bytes.ensures).is
