-- Calls of `altair_close_shelf` that came back, file by file: demand 2, and what each part holds by the number of its file. `Learnt` is the
-- function's own contract.
use mathlib.Core.List.{List}
use mathlib.Core.Path.{◌≡◌}
use Prim.Native.Nat.{ℕ, ◌<◌}
use contract.Lifetimes.{Lfts}
use borrow.Fn.Kinds.{Dens, res_t, ended_of}
use denote.Triple.Clauses.{AtExit}
use lib.ListN.{length}
use Rattle.definitions.specs.declared.Bellatrix.{Bellatrix}
use Rattle.definitions_file.specs.Shelf.{Shelf, shelf_of}
use Rattle.theorems.specs.Shelf.Files.{OnShelf, Defined, file_on, ShelfCall}
use Rattle.theorems.proofs.Shelf.Parts.{shelf-calls}
use Rattle.exports.proofs.shelves.altair_close_shelf.Kinds as kinds
use Rattle.exports.proofs.shelves.altair_close_shelf.Reads as reads

-- a call that came back, and that the contract holds of it
pub record Came : Type 0 where
  pub lifetimes : Lfts 6
  pub lent : Dens lifetimes kinds.ps
  pub answer : (res_t kinds.r lifetimes).Denot
  pub end : AtExit (ended_of 6 kinds.ps kinds.r) lifetimes
  pub holds : reads.Learnt lifetimes lent answer end

abbrev pub shelf : Came → Shelf
shelf c =
    let a = c.lent in
    let b = a.1.1.1 in
    shelf_of a.0.now a.1.0.now a.1.1.0.now b.0.now b.1.0.now b.1.1.0.now

abbrev pub fork : Came → ℕ
fork c = c.lent.1.1.1.1.1.1.0

abbrev pub pair : Came → Bellatrix
pair c = c.lent.1.1.1.1.1.1.1.0

abbrev pub answers_of : Came → List ℕ
answers_of c = c.end.1.1.1.1.1.0.now

abbrev pub closing_of : Came → List ℕ
closing_of c = c.end.1.1.0.now

pub demand2_altair_close_shelf : (c : Came) → ShelfCall (fork c) (pair c) (shelf c) (answers_of c) (closing_of c) c.answer
demand2_altair_close_shelf c =
    shelf-calls (fork c) (pair c) (shelf c) (answers_of c) (closing_of c) c.answer c.holds.0 c.holds.1.0 c.holds.1.1.0

-- a file of a call that was not refused whole
pub record FileCame : Type 0 where
  pub call : Came
  pub accepted : call.answer ≡ 0
  pub number : ℕ
  pub within : number < length (shelf call).lengths

abbrev pub file_came : FileCame → OnShelf
file_came f = let c = f.call in file_on (fork c) (pair c) (shelf c) (answers_of c) (closing_of c) f.number

pub file-defined : (f : FileCame) → Defined (file_came f)
file-defined f = (demand2_altair_close_shelf f.call).defined f.accepted f.number f.within
