use Prim.Native.Nat.{◌+◌, ◌*◌, ◌≤◌}
use native.Mathlib.Omega.{arith}
use lib.ListN.{length}
use Rattle.definitions_close.specs.Calls.{lent, new_entry}
use Rattle.store.proofs.Added.{added-refused, added-accepted}
use Rattle.store.proofs.Passed.{addition_passed}
use Rattle.store.proofs.add_rules.Goals.{In_default}
use Rattle.store.proofs.add_rules.Goals as goal

-- there is room
space : (c : In_default) → let a = c.args in 23 * a.count + 23 ≤ length a.store.now
space c =
    let a = c.args in
    (addition_passed (lent a.store.now a.count) (new_entry a.start a.rules) c.addition_tests.ensures c.in_default.is).shape.space

pub returns-in-Err : goal.returns-in-Err
returns-in-Err c =
    let a = c.args in
    added-refused (lent a.store.now a.count) (new_entry a.start a.rules) c.addition_tests.ensures c.in-Err.is c.number.ensures

pub overflow_mul-a : goal.overflow_mul-a
overflow_mul-a c = let p = space (goal.at.overflow_mul-a c).In_default in omega arith

pub overflow_add-b : goal.overflow_add-b
overflow_add-b c = let p = space (goal.at.overflow_add-b c).In_default in omega arith

pub offset_bounds-store-a : goal.offset_bounds-store-a
offset_bounds-store-a c = let p = space (goal.at.offset_bounds-store-a c).In_default in omega arith

pub slice_bounds-put_entry-end : goal.slice_bounds-put_entry-end
slice_bounds-put_entry-end c = let p = space (goal.at.slice_bounds-put_entry-end c).In_default in omega arith

pub overflow_add-result : goal.overflow_add-result
overflow_add-result c = let p = space (goal.at.overflow_add-result c).In_default in omega arith

pub returns : goal.returns
returns c =
    let a = c.args in
    added-accepted a.store.now a.count (new_entry a.start a.rules) c.addition_tests.ensures c.in_default.is c.put_entry.ensures
