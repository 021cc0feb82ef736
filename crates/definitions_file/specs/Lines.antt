-- The lines of a listing, as bytes. Document 01, "The listing program", and document 02, R-1 and R-7.
use Rattle.std.specs.Prelude.{cond, List, [], ◌∷◌, ◌++◌, ℕ, suc, eqb}
use Prim.Native.Char.{code}
use Prim.Native.String.{String, [] as empty, ◌∷◌ as ◌then◌}
use Rattle.std.proofs.Math.IntN.{sub_ℕ}
use Rattle.definitions.specs.declared.Raised.{Raised}
use Rattle.definitions.specs.Record.{Validator, decode}
use Rattle.definitions.specs.Document.Phase0.Helpers.{get_current_epoch}
use Rattle.definitions.specs.Checked.{code_of}
use Rattle.definitions.specs.Close.{Call, Outcome, charged}
use Rattle.definitions_file.specs.Decimal.{decimal, signed_decimal}
use Rattle.definitions.specs.NetChange.{change_tests}

-- the bytes of a text of ASCII characters
abbrev pub ascii : String → List ℕ
ascii empty = []
ascii (c then cs) = code c ∷ ascii cs

-- five numbers, each behind its label
abbrev pub row : List ℕ → ℕ → List ℕ → ℕ → List ℕ → ℕ → List ℕ → ℕ → List ℕ → ℕ → List ℕ
row a k b l c m d n e o =
    (a ++ decimal k) ++ (b ++ decimal l) ++ (c ++ decimal m) ++ (d ++ decimal n) ++ (e ++ decimal o)

-- 02, R-7: "three figures 0 or 1 after charged", for active, previous and current
abbrev pub raised_figures : Raised → List ℕ
raised_figures raised =
    (ascii " " ++ decimal raised.active) ++ (ascii " " ++ decimal raised.previous) ++ (ascii " " ++ decimal raised.current)

-- "epoch, current justified epoch, finalized epoch and bits after, and charged", and which totals were raised
abbrev pub head_line : ℕ → ℕ → ℕ → ℕ → ℕ → Raised → List ℕ
head_line epoch justified finalized bits charged raised =
    row (ascii "epoch ") epoch (ascii " justified ") justified (ascii " finalized ") finalized (ascii " bits ") bits (ascii " charged ") charged
    ++ raised_figures raised ++ ascii "\n"

-- "index, opening balance, closing balance, and effective balance and score after the close", and closing minus opening
abbrev pub validator_line : ℕ → ℕ → ℕ → ℕ → ℕ → List ℕ
validator_line index opening closing effective score =
    row (ascii "") index (ascii " ") opening (ascii " ") closing (ascii " ") effective (ascii " ") score
    ++ (ascii " " ++ signed_decimal (sub_ℕ closing opening)) ++ ascii "\n"

-- a line for each validator, from the one numbered `index` on
unfoldable pub lines : ℕ → List Validator → List Validator → List ℕ
lines index [] closing = []
lines index (before ∷ opening) [] = []
lines index (before ∷ opening) (after ∷ closing) =
    validator_line index before.balance after.balance after.effective_balance after.inactivity_score
    ++ lines (suc index) opening closing

-- "`refused` and the number"
abbrev pub refused_line : ℕ → List ℕ
refused_line number = ascii "refused " ++ decimal number ++ ascii "\n"

abbrev pub or_refused : ℕ → List ℕ → List ℕ
or_refused refusal text = cond (eqb refusal 0) text (refused_line refusal)

-- "prints the close": checkpoints and bits after it, charged of the opening, and what the close raised
unfoldable pub close_text : Call → Outcome → List ℕ
close_text c out =
    let s = c.rules.settings in
    let state_slot = c.finality.slot in
    let after = out.finality in
    head_line (get_current_epoch s state_slot) after.current_justified_checkpoint.epoch after.finalized_checkpoint.epoch after.justification_bits (charged s state_slot (decode c.registry)) out.raised
    ++ lines 0 (decode c.registry) (decode out.closing_registry)

-- 02: 7 is "tested after the close", and "the listing is then only `refused 7`"
unfoldable pub accepted_text : Call → Outcome → List ℕ
accepted_text c out =
    let changes = change_tests (decode c.registry) (decode out.closing_registry) in
    or_refused (code_of changes) (close_text c out)

abbrev pub close_printed : Call → Outcome → List ℕ
close_printed c out = or_refused out.refusal (accepted_text c out)
