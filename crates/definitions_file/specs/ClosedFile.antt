-- The close of one file of a shelf, as if no other stood beside it. Document 02, R-5, and R-8: version 1 files "on a shelf .. get 6".
use Rattle.std.specs.Prelude.{cond, ◌&&◌, List, [], ◌∷◌, ℕ, leb, eqb}
use Rattle.definitions.specs.declared.Bellatrix.{Bellatrix}
use Rattle.definitions.specs.declared.Rules.{Rules}
use Rattle.definitions.specs.Record.{BeaconState, encode, decode}
use Rattle.definitions.specs.Checked.{Checked, refused, bind, code_of}
use Rattle.definitions.specs.declared.Refusal.TheVariants.{BadFile}
use Rattle.definitions.specs.Refusals.{in_order, good_finality, good_registry, after_tests, closing_buffer}
use Rattle.definitions.specs.Rules.{«BELLATRIX», settings_under, good_rules}
use Rattle.definitions.specs.ExitQueue.{queue_of, queue_test}
use Rattle.definitions.specs.Close.{process_epoch}
use Rattle.definitions_file.specs.File.{Contents, version_of, contents_of, queue_in, good_header, file_shaped, file_of}

-- "One fork is named for all, with its pair": the settings are the file's
abbrev pub rules_in : ℕ → Bellatrix → List ℕ → Rules
rules_in fork pair file = record { settings = (contents_of file).settings; fork = fork; bellatrix = pair }

abbrev pub state_in : List ℕ → BeaconState
state_in file =
    let c = contents_of file in
    record { finality = c.finality; validators = decode c.registry; slashings = c.slashings; block_roots = c.roots }

-- 6, also of version 1, then 1 with the fork, 2 with the pair, 3, and 8
unfoldable pub file_tests : ℕ → Bellatrix → List ℕ → Checked (Unit {0})
file_tests fork pair file =
    let c = contents_of file in
    let shaped = file_shaped file c.registry c.slashings ∷ leb fork «BELLATRIX» ∷ [] in
    let others = in_order shaped (good_rules (rules_in fork pair file) ∷ []) (good_finality c.finality ∷ good_registry c.registry ∷ []) in
    cond (good_header file && eqb (version_of file) 2) (bind others (λ _. queue_test (queue_in file) (decode c.registry))) (refused BadFile)

-- the eight steps, as in every close
abbrev pub work : ℕ → Bellatrix → List ℕ → Checked BeaconState
work fork pair file = process_epoch (settings_under (rules_in fork pair file)) (state_in file)

-- the closed record: settings and roots stay
abbrev pub closed_contents : List ℕ → BeaconState → Contents
closed_contents file after =
    record {
      settings = (contents_of file).settings;
      finality = after.finality;
      registry = encode after.validators;
      roots = (contents_of file).roots;
      slashings = after.slashings;
    }

-- as a file, which is of version 2 and as long
abbrev pub closed_file : List ℕ → BeaconState → List ℕ
closed_file file after = file_of (closed_contents file after) (queue_of after.validators)

-- "answers a number for each, 0 for closed"
unfoldable pub answer_for : ℕ → Bellatrix → List ℕ → ℕ
answer_for fork pair file = code_of (after_tests (file_tests fork pair file) (work fork pair file))

-- "a file that gets 4 or 5 leaves its own bytes in its part, any other refusal leaves the part untouched"
unfoldable pub part_for : ℕ → Bellatrix → List ℕ → List ℕ → List ℕ
part_for fork pair file part = closing_buffer (closed_file file) (file_tests fork pair file) (work fork pair file) file part
