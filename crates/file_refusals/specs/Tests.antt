-- The tests of reading and of writing, in the words of definitions_file, File.antt.
use Rattle.std.specs.Prelude.{◌≡◌, Bool, cond, not, List, [], ◌∷◌, ℕ, eqb, length}
use Rattle.definitions.specs.declared.ExitQueue.{ExitQueue}
use Rattle.definitions.specs.Record.{decode}
use Rattle.definitions.specs.Checked.{Checked, value, refused, bind, settle}
use Rattle.definitions.specs.declared.Refusal.{Refusal}
use Rattle.definitions.specs.Refusals.{in_order, good_settings, good_finality}
use Rattle.definitions.specs.ExitQueue.{is_queue_of, queue_test}
use Rattle.file_refusals.specs.declared.Tested.{Tested}
use Rattle.definitions_file.specs.File.{queue_at, contents_of, queue_in, no_queue, file_shaped, read_tests, position, read}

-- the most that the number at k of an entry may be
abbrev pub limit_at : ℕ → ℕ
limit_at k = cond (eqb k 1) 1 (cond (eqb k 7) 255 (cond (eqb k 8) 255 18446744073709551615))

-- 1, 2 and 3 of reading, by whether the registry's numbers are good
abbrev pub other_tests : List ℕ → List ℕ → List ℕ → Bool → Checked (Unit {0})
other_tests bytes registry slashings whole =
    let c = contents_of bytes in
    in_order (file_shaped bytes registry slashings ∷ []) (good_settings c.settings ∷ []) (good_finality c.finality ∷ whole ∷ [])

-- the answer of the tests of reading, where reading stopped, and the pair
pub record Answered (bytes registry slashings : List ℕ) (tested : Checked (Unit {0})) (at : ℕ) (queue : ExitQueue) : Type 0 where
  pub is : tested ≡ read_tests bytes registry slashings
  pub place : at ≡ position bytes registry slashings
  pub pair : queue ≡ (read bytes registry slashings).queue

abbrev pub nothing_at : Refusal → ℕ → Tested
nothing_at refusal at = record { tested = refused refusal; position = at; queue = no_queue }

-- the same of test 8 alone, which is the last
pub record QueueAnswered (bytes : List ℕ) (tested : Checked (Unit {0})) (at : ℕ) (queue : ExitQueue) : Type 0 where
  pub is : tested ≡ queue_test (queue_in bytes) (decode (contents_of bytes).registry)
  pub place : at ≡ cond (not (is_queue_of (queue_in bytes) (decode (contents_of bytes).registry))) queue_at (length bytes)
  pub pair : queue ≡ settle (bind (queue_test (queue_in bytes) (decode (contents_of bytes).registry)) (λ _. value (queue_in bytes))) no_queue
