-- Closes one after the other, up to the first that is refused. Document 02, R-12: "one head line per close", and "ends at the first refusal".
use Rattle.std.specs.Prelude.{cond, List, [], ◌++◌, ℕ, zero, suc, eqb}
use Rattle.definitions.specs.Record.{decode}
use Rattle.definitions_file.specs.File.{Contents}
use Rattle.definitions.specs.Document.Phase0.Helpers.{get_current_epoch}
use Rattle.definitions.specs.Close.{Call, Outcome, close, charged}
use Rattle.definitions_file.specs.Lines.{head_line}
use Rattle.definitions_file.specs.Listing.{closing}
use Rattle.definitions_file.specs.OutageInput.{Plan}
use Rattle.definitions_file.specs.OutagePreparation.{prepared}

-- the listing's first line
unfoldable pub head_of : Call → Outcome → List ℕ
head_of c out =
    let s = c.rules.settings in
    let state_slot = c.finality.slot in
    let after = out.finality in
    head_line (get_current_epoch s state_slot) after.current_justified_checkpoint.epoch after.finalized_checkpoint.epoch after.justification_bits (charged s state_slot (decode c.registry)) out.raised

-- the record that a close leaves; roots stay
abbrev pub closed_with : Contents → Outcome → Contents
closed_with c out =
    record {
      settings = c.settings;
      finality = out.finality;
      registry = out.closing_registry;
      roots = c.roots;
      slashings = out.closing_slashings;
    }

-- How closes went: 0 or the number of the one that was refused, the head lines of those before it, and the record as it then stands
pub record Run : Type 0 where
  pub refusal : ℕ
  pub heads : List ℕ
  pub contents : Contents

abbrev pub run_of : ℕ → List ℕ → Contents → Run
run_of refusal heads contents = record { refusal = refusal; heads = heads; contents = contents }

-- what one close comes to: where it is refused, the record that it was handed stands
unfoldable pub close_once : Contents → Run
close_once c =
    let out = close (closing c) in
    cond (eqb out.refusal 0) (run_of 0 (head_of (closing c) out) (closed_with c out)) (run_of out.refusal [] c)

-- head lines of earlier closes
abbrev pub behind : List ℕ → Run → Run
behind heads r = run_of r.refusal (heads ++ r.heads) r.contents

unfoldable pub and_then : Run → (Contents → Run) → Run
and_then r next = cond (eqb r.refusal 0) (behind r.heads (next r.contents)) r

unfoldable pub run : Plan → ℕ → Contents → Run
run p zero c = run_of 0 [] c
run p (suc epochs) c = and_then (close_once (prepared p c)) (run p epochs)
