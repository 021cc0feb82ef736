-- Nine amounts of each validator: what they say of one.
use Rattle.std.specs.Prelude.{List, ℕ, ◌+◌, ◌*◌, get_or, take, drop}
use Rattle.definitions.specs.Record.{Validator, nobody}

-- the nine numbers of the validator at i
abbrev pub nine_of : List ℕ → ℕ → List ℕ
nine_of xs i = take 9 (drop (9 * i) xs)

abbrev pub rewards_in : List ℕ → ℕ
rewards_in nine = get_or nine 0 0 + get_or nine 2 0 + get_or nine 4 0 + get_or nine 6 0

abbrev pub taken_in : List ℕ → ℕ
taken_in nine = get_or nine 1 0 + get_or nine 3 0 + get_or nine 5 0 + get_or nine 7 0 + get_or nine 8 0

abbrev pub balance_at : List Validator → ℕ → ℕ
balance_at vs i = (get_or vs i nobody).balance
