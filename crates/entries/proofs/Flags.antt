-- Who participates, by its three tests.
use mathlib.Core.Bool.{Bool, true, false, ◌&&◌, not}
use mathlib.Core.Path.{◌≡◌, refl}

pub slashed-never : (active flag : Bool) → false ≡ (active && flag && not true)
slashed-never true true = refl
slashed-never true false = refl
slashed-never false flag = refl

pub unslashed-by_flag : {r flag : Bool} → r ≡ flag → r ≡ (true && flag && not false)
unslashed-by_flag {r} {flag} e = rw e (go flag)
  where
    go : (flag : Bool) → flag ≡ (true && flag && not false)
    go true = refl
    go false = refl
