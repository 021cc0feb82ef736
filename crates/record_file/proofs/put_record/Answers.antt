use mathlib.Core.Path.{refl, ◌∙◌}
use native.Mathlib.Omega.{arith}
use borrow.Author.Rules.{rules}
use Rattle.definitions_file.specs.File.{numbers_to_bytes, file_of, contents_with}
use Rattle.laws_file.proofs.Numbers.{length_to_bytes}
use Rattle.laws_file.proofs.Tests.{count_in}
use Rattle.fields.proofs.Stores.{stored-first, stored_more, sets-whole}
use Rattle.record_file.specs.Sized.{head_of}
use Rattle.record_file.proofs.Writing.{Rooted, head-long}
use Rattle.record_file.proofs.put_record.Goals.{Start}
use Rattle.record_file.proofs.put_record.Goals as goal

rooted : (c : Start) → Rooted c.args.finality
rooted c = search rules

pub returns : goal.returns
unfolding file_of head_of
returns c =
    let a = c.args in
    let k = contents_with a.settings a.finality a.registry.now a.roots.now a.slashings.now in
    let sized = c.requires in
    let h = head_of a.settings a.finality a.queue (count_in k) in
    let one = stored-first a.file.now 0 h (head-long a.settings a.queue (count_in k) (rooted (goal.at.returns c).Start)) c.put_head.ensures in
    let two = stored_more one (numbers_to_bytes k.registry) (length_to_bytes k.registry) refl refl c.put_numbers.ensures in
    let three = stored_more two k.roots refl refl (omega (arith, sized)) c.put_bytes.ensures in
    let four = stored_more three (numbers_to_bytes k.slashings) (length_to_bytes k.slashings) refl (omega (arith, sized)) c.put_numbers-2.ensures in
    four.is ∙ sets-whole a.file.now (file_of k a.queue) (omega (arith, four.long, sized))
