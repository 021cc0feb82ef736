use mathlib.Core.Path.{sym}
use native.Mathlib.Omega.{arith}
use borrow.Author.Tests.{eq-eqb, ne_eqb}
use Rattle.definitions_file.specs.File.{file_length}
use Rattle.file_refusals.proofs.file_header.as_long.Goals as goal

pub returns-then-length-from : goal.returns-then-length-from
returns-then-length-from c = let a = c.args in sym (ne_eqb a.length (file_length a.version a.validators a.roots a.slashings) (λ e. omega arith))

pub returns-then-from_validators-validators : goal.returns-then-from_validators-validators
returns-then-from_validators-validators c = let a = c.args in sym (ne_eqb a.length (file_length a.version a.validators a.roots a.slashings) (λ e. omega arith))

pub returns-then-from_roots-roots : goal.returns-then-from_roots-roots
returns-then-from_roots-roots c = let a = c.args in sym (ne_eqb a.length (file_length a.version a.validators a.roots a.slashings) (λ e. omega arith))

pub returns-then-from_slashings-slashings : goal.returns-then-from_slashings-slashings
returns-then-from_slashings-slashings c = let a = c.args in sym (ne_eqb a.length (file_length a.version a.validators a.roots a.slashings) (λ e. omega arith))

pub returns-then-slashings-from_slashings : goal.returns-then-slashings-from_slashings
returns-then-slashings-from_slashings c = let a = c.args in sym (ne_eqb a.length (file_length a.version a.validators a.roots a.slashings) (λ e. omega arith))

pub returns : goal.returns
returns c = let a = c.args in sym (eq-eqb a.length (file_length a.version a.validators a.roots a.slashings) (omega arith))
