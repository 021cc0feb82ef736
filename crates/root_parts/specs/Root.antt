-- A root as the lookup's two functions give it.
use Rattle.std.specs.Prelude.{cond, List, ℕ, eqb, length}
use Rattle.definitions.specs.declared.PlainRoot.{PlainRoot}
use Rattle.definitions.specs.Plain.{no_root}

-- from the number and the bytes that the lookup's two functions answer
unfoldable pub root_given : ℕ → List ℕ → PlainRoot
root_given refusal bytes = record { refusal = refusal; root = cond (eqb (length bytes) 32) bytes no_root }
