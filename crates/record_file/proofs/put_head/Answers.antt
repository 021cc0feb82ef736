use mathlib.Core.Path.{◌≡◌, refl}
use mathlib.Core.List.{List}
use Prim.Native.Nat.{ℕ}
use borrow.Author.Rules.{rules}
use Rattle.definitions.specs.Refusals.{settings_numbers}
use Rattle.definitions_file.specs.File.{header, numbers_to_bytes, finality_to_bytes, queue_to_bytes}
use Rattle.laws_file.proofs.Numbers.{length_to_bytes}
use Rattle.fields.proofs.Bytes.{length-queue}
use Rattle.fields.proofs.Stores.{stored-first, stored_more}
use Rattle.record_file.specs.Sized.{head_of}
use Rattle.record_file.proofs.Writing.{Rooted, finality-long}
use Rattle.definitions.specs.declared.Settings.{Settings}
use Rattle.record_file.proofs.put_head.Goals.{After-header_of-head, Start}
use Rattle.record_file.proofs.put_head.Goals as goal

rooted : (c : Start) → Rooted c.args.finality
rooted c = search rules

abbrev numbers : Settings → ℕ → List ℕ
numbers settings validators = let s = settings in header 2 validators s.slots_per_historical_root s.epochs_per_slashings_vector

head : (c : After-header_of-head) → c.header_of-head.result ≡ numbers c.args.settings c.args.validators
head c = c.header_of-head.ensures

pub returns : goal.returns
unfolding head_of
returns c =
    let a = c.args in
    let s = settings_numbers a.settings in
    let h = numbers c.args.settings c.args.validators in
    let one = stored-first a.file.now 0 (numbers_to_bytes h) (length_to_bytes h) (rw (head (goal.at.returns c).After-header_of-head) at c.put_numbers.ensures) in
    let two = stored_more one (numbers_to_bytes s) (length_to_bytes s) refl refl c.put_settings.ensures in
    let three = stored_more two (finality_to_bytes a.finality) (finality-long (rooted (goal.at.returns c).Start)) refl refl c.put_finality.ensures in
    (stored_more three (queue_to_bytes a.queue) (length-queue a.queue) refl refl c.put_queue.ensures).is
