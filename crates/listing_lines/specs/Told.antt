-- The line of one validator once its tests have passed.
use Rattle.std.specs.Prelude.{List, [], ◌∷◌, ℕ, get_or}
use Rattle.definitions.specs.Record.{decode, nobody}
use Rattle.definitions.specs.Checked.{Checked, value, bind}
use Rattle.definitions.specs.Refusals.{in_order, registry_shaped, same_length}
use Rattle.definitions.specs.LeafRefusals.{is_index}
use Rattle.definitions_file.specs.declared.Line.{Line}
use Rattle.definitions.specs.NetChange.{net_change}
use Rattle.definitions_file.specs.ListingAnswers.{line_numbers}

abbrev pub line_told : List ℕ → List ℕ → ℕ → Checked Line
line_told opening closing index =
    bind (net_change (get_or (decode opening) index nobody).balance (get_or (decode closing) index nobody).balance) (λ change.
    value (line_numbers opening closing index change))

-- the tests under 1 alone
unfoldable pub line_shaped : List ℕ → List ℕ → ℕ → Checked (Unit {0})
line_shaped opening closing index = in_order (registry_shaped opening ∷ same_length opening closing ∷ is_index index opening ∷ []) [] []
