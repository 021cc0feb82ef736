use Prim.Native.Nat.{◌-◌}
use native.Mathlib.Omega.{arith}
use lib.ListN.{length, drop, length-drop}
use lib.Seq.{take_all}
use Rattle.store.proofs.store_entries.entry_rules.Goals as goal

pub returns : goal.returns
returns c =
    let e = c.args.entry.now in
    rw (c.settings_from-settings.ensures, take_all (length e - 2) (drop 2 e) (simp length-drop (omega arith)))
