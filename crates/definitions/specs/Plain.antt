-- What the plain answers hold: a value, or a refusal's number and zeros.
use Rattle.std.specs.Prelude.{cond, Bool, List, ℕ, replicate}
use Rattle.definitions.specs.declared.Deltas.{Deltas}
use Rattle.definitions.specs.declared.Total.{Total}
use Rattle.definitions.specs.Checked.{Checked, value, refused, number_of, code_of, settle}
use Rattle.definitions.specs.declared.PlainNumber.{PlainNumber}
use Rattle.definitions.specs.declared.PlainTruth.{PlainTruth}
use Rattle.definitions.specs.declared.PlainDeltas.{PlainDeltas}
use Rattle.definitions.specs.declared.PlainTotal.{PlainTotal}
use Rattle.definitions.specs.declared.PlainRoot.{PlainRoot}

unfoldable pub plain_number : Checked ℕ → PlainNumber
plain_number (value x) = record { refusal = 0; value = x }
plain_number (refused r) = record { refusal = number_of r; value = 0 }

unfoldable pub plain_truth : Checked Bool → PlainTruth
plain_truth (value b) = record { refusal = 0; value = cond b 1 0 }
plain_truth (refused r) = record { refusal = number_of r; value = 0 }

unfoldable pub plain_deltas : Checked Deltas → PlainDeltas
plain_deltas (value d) = record { refusal = 0; reward = d.reward; penalty = d.penalty }
plain_deltas (refused r) = record { refusal = number_of r; reward = 0; penalty = 0 }

unfoldable pub plain_total : Checked Total → PlainTotal
plain_total (value t) = record { refusal = 0; balance = t.balance; raised = t.raised }
plain_total (refused r) = record { refusal = number_of r; balance = 0; raised = 0 }

abbrev pub no_root : List ℕ
no_root = replicate 32 0

-- a lookup's answer: the root's 32 bytes, or the refusal's number and zeros
unfoldable pub plain_root : Checked (List ℕ) → PlainRoot
plain_root m = record { refusal = code_of m; root = settle m no_root }
