-- The orders of a list are as many as are counted.
use mathlib.Core.Path.{◌≡◌, refl, ap}
use mathlib.Core.List.{List}
use Prim.Native.Nat.{ℕ, zero, suc}
use lib.ListN.{length, drop}
use Rattle.definitions_close.specs.Orders.{orders_in}

pub orders-long : (i : ℕ) (xs : List ℕ) → length (orders_in i xs) ≡ i
unfolding orders_in
orders-long zero xs = refl
orders-long (suc i) xs = ap suc (orders-long i (drop 2 xs))
