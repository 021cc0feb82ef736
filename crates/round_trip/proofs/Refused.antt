-- What a refused call leaves, and that an accepted read goes to the end.
use borrow.Author.Tests.{le-ltb}
use lib.ListN.{length}
use Rattle.definitions.specs.Checked.{bind}
use Rattle.definitions_file.specs.File.{little_endian, read_file, position, read, written}
use Rattle.round_trip.specs.Refused.{ReadRefused, WriteRefused, ReadToEnd}
use Rattle.laws_file.proofs.Passed.{read-passed, good-header}

pub read-refused : ReadRefused
unfolding read read_file bind little_endian
read-refused bytes registry slashings r e =
    record {
      number = rw e;
      settings = rw e;
      finality = rw e;
      queue = rw e;
      roots = rw e;
      registry = rw e;
      slashings = rw e;
    }

pub write_refused : WriteRefused
unfolding written bind
write_refused c q file r e = rw e

pub read-to_end : ReadToEnd
unfolding position
read-to_end bytes registry slashings c e =
    let p = read-passed bytes registry slashings e in
    rw (le-ltb (length bytes) 80 (good-header bytes p.header).enough, p.header, p.shaped, p.settings, p.finality, p.registry, p.queue)
