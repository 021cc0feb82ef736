use mathlib.Core.Path.{◌≡◌}
use Prim.Native.Nat.{◌-◌, ◌*◌}
use native.Mathlib.Omega.{arith}
use lib.Seq.{length-take-le}
use Rattle.electra_close.proofs.queues_by_front.Goals as goal

pub write_queues-requires : goal.write_queues-requires
write_queues-requires c =
    let p = c.requires in
    let a = 10 * c.args.n in
    let z : a - 0 ≡ a = omega arith in
    let t = length-take-le a c.args.registry.now p.n_in_bounds.0 in
    rw z (record { registry_len = (omega (arith, t), p.n_in_bounds.1); index_in_bounds = p.index_in_bounds; consolidations_len = p.pairs_len; closing_consolidations_len = p.closing_pairs_len })

pub returns : goal.returns
returns c =
    let a = 10 * c.args.n in
    let z : a - 0 ≡ a = omega arith in
    let h = c.write_queues.ensures in
    rw z at h
