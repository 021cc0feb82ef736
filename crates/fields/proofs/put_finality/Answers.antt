use mathlib.Core.Path.{◌≡◌, refl}
use borrow.Author.Rules.{rules}
use lib.ListN.{length}
use Rattle.definitions_file.specs.File.{little_endian, checkpoint_to_bytes}
use Rattle.laws_file.proofs.Numbers.{length_little}
use Rattle.fields.proofs.Bytes.{length-checkpoint}
use Rattle.fields.proofs.Stores.{stored-first, stored_more}
use Rattle.fields.proofs.put_finality.Goals.{Start}
use Rattle.fields.proofs.put_finality.Goals as goal

previous-root : (c : Start) → length c.args.f.previous_justified_checkpoint.root ≡ 32
previous-root c = search rules

current-root : (c : Start) → length c.args.f.current_justified_checkpoint.root ≡ 32
current-root c = search rules

finalized-root : (c : Start) → length c.args.f.finalized_checkpoint.root ≡ 32
finalized-root c = search rules

pub returns : goal.returns
returns c =
    let a = c.args in
    let f = a.f in
    let slot = stored-first a.file.now a.at (little_endian 8 f.slot) (length_little 8 f.slot) c.put_number.ensures in
    let bits = stored_more slot (little_endian 8 f.justification_bits) (length_little 8 f.justification_bits) refl refl c.put_number-2.ensures in
    let previous = stored_more bits (checkpoint_to_bytes f.previous_justified_checkpoint) (length-checkpoint f.previous_justified_checkpoint (previous-root (goal.at.returns c).Start)) refl refl c.put_checkpoint.ensures in
    let current = stored_more previous (checkpoint_to_bytes f.current_justified_checkpoint) (length-checkpoint f.current_justified_checkpoint (current-root (goal.at.returns c).Start)) refl refl c.put_checkpoint-2.ensures in
    (stored_more current (checkpoint_to_bytes f.finalized_checkpoint) (length-checkpoint f.finalized_checkpoint (finalized-root (goal.at.returns c).Start)) refl refl c.put_checkpoint-3.ensures).is
