-- A checked operation gives the plain result where that fits, and refuses where it does not.
use mathlib.Core.Path.{◌≡◌}
use Prim.Native.Nat.{ℕ, ◌+◌, ◌*◌, ◌^◌, ◌≤◌, ◌<◌}
use borrow.Author.Tests.{lt-ltb, le-ltb}
use Rattle.definitions.specs.Checked.{value, refused, add64, mul64}
use Rattle.definitions.specs.declared.Refusal.TheVariants.{Overflow}

pub add64-fits : (a b : ℕ) → a + b < 2 ^ 64 → add64 a b ≡ value (a + b)
unfolding add64
add64-fits a b h = rw (lt-ltb (a + b) (2 ^ 64) h)

pub add64-leaves : (a b : ℕ) → 2 ^ 64 ≤ a + b → add64 a b ≡ refused Overflow
unfolding add64
add64-leaves a b h = rw (le-ltb (a + b) (2 ^ 64) h)

pub mul64-fits : (a b : ℕ) → a * b < 2 ^ 64 → mul64 a b ≡ value (a * b)
unfolding mul64
mul64-fits a b h = rw (lt-ltb (a * b) (2 ^ 64) h)
