-- What a reader must believe, from the ground up. docs/ARCHITECTURE.md says what stands in each file. The notation:
-- `f x y` is a call, `λ x. e` a function, `v.field` a field; `a_b` is one name, `2_000` the number 2000, `tt` nothing at all.
-- `cond t a b` is a where t holds and else b; the tests `leb`, `ltb`, `eqb` are at most, below, equal, joined by `&&`, `||`, `not`.
-- Numbers have no upper end: `a - b` stops at 0, `a / b` is rounded down, `a % b` is the rest; 64 bits are said by `add64` and its like.
-- Lists: `[]`, `x ∷ xs`, `xs ++ ys`; `get_or xs i d` is number i, counted from 0, or d past the end, and `set xs i x` puts x there.
-- `Checked A` is an A or a refusal, the code's `Result<A, Refusal>`: `value a` is its `Ok(a)`, `refused r` its `Err(r)`.
-- `bind m (λ x. rest)` is `let x = m?; rest`. `abbrev`, `unfoldable` and `pub` are the checker's affair.
-- Types: `ℕ` are the numbers from 0 (`zero`, `suc n` is n + 1), `ℤ` the integers (`pos n`, and `negsuc n` is -1 - n); `Bool`, `List A`, `String`, `Unit`.
-- `A → B` is a function, and of statements: B follows from A. `(x : A) → B` is for every x, and so is `{x : A} → B`, where a call leaves x out.
-- `A × B` is both, `(x : A) × B` that there is such an x, its parts are `.0` and `.1`; `A ⊎ B` is one of the two; `⊥` never holds: `A → ⊥` is not A.
-- `a ≡ b`: they are the same; `a ≢ b`: they are not. `a ≤ b` and `a < b` are of numbers, `T b` says that the test b holds; `2 ^ n` is a power.
-- A `record` has fields, given by `record { field = e; .. }`; a record of statements says all of them. A `data` has cases; of statements, one holds.
-- `let x = e in r` names e in r; `module _ (x : A) where` gives x to all below it; `x'` is a name; `use P.{a}` takes the name a from the file P.
-- Lists besides: `map f xs`, `foldl f b xs` from the front, `zip_with`, `length`, `take n`, `drop n`, `replicate n x`; `sets xs i ys` puts ys at i.
-- A contract, `ensures { .. }`, is of the answer, `result`; `x.now` is what a lent slice holds, `x.old` and `x.new` what it held before the call and after it.
pub mod Lists
pub mod Record
pub mod Updates
pub mod Checked
pub mod Mainnet
pub mod Document
pub mod Rust
pub mod Answers
pub mod ExitQueue
pub mod Raised
pub mod Refusals
pub mod RegisterOrder
pub mod LeafRefusals
pub mod Rules
pub mod Close
pub mod Closes
pub mod NetChange
pub mod Plain
