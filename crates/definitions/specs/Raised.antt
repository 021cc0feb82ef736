-- 02, R-7: a total balance "together with a yes or no: the plain sum was below one increment". Yes is 1, no is 0.
use Rattle.std.specs.Prelude.{cond, List, map, ℕ, ◌+◌, leb, ltb}
use Rattle.definitions.specs.declared.Settings.{Settings}
use Rattle.definitions.specs.declared.Finality.{Finality}
use Rattle.definitions.specs.declared.Total.{Total}
use Rattle.definitions.specs.declared.Raised.{Raised}
use Rattle.definitions.specs.declared.CloseAnswer.{CloseAnswer}
use Rattle.definitions.specs.Lists.{sum}
use Rattle.definitions.specs.Record.{Validator, GENESIS_EPOCH}
use Rattle.definitions.specs.Checked.{Checked, value, refused, bind, code_of, settle}
use Rattle.definitions.specs.Rust.Phase0.Helpers.{get_current_epoch, get_previous_epoch, get_active_validator_indices, get_total_balance}
use Rattle.definitions.specs.Rust.Altair.Helpers.{TIMELY_TARGET_FLAG_INDEX, get_unslashed_participating_indices}

unfoldable pub was_raised : Settings → List Validator → ℕ
was_raised s members = cond (ltb (sum (map (λ v. v.effective_balance) members)) s.effective_balance_increment) 1 0

unfoldable pub total_with_raised : Settings → List Validator → Checked Total
total_with_raised s members = bind (get_total_balance s members) (λ total. value (record { balance = total; raised = was_raised s members }))

abbrev pub none_raised : Raised
none_raised = record { active = 0; previous = 0; current = 0 }

-- "for active, previous and current totals"; "up to epoch 1 they are 0 0 0"
unfoldable pub raised_totals : Settings → ℕ → List Validator → Raised
raised_totals s state_slot vs =
    let current_epoch = get_current_epoch s state_slot in
    let target = get_unslashed_participating_indices s state_slot vs TIMELY_TARGET_FLAG_INDEX in
    cond (leb current_epoch (GENESIS_EPOCH + 1)) none_raised
    (record {
      active = was_raised s (get_active_validator_indices vs current_epoch);
      previous = was_raised s (target (get_previous_epoch s state_slot));
      current = was_raised s (target current_epoch);
    })

-- "no on refusal"
unfoldable pub raised_unless_refused : {A : Type 0} → Checked A → Raised → Raised
raised_unless_refused (value a) raised = raised
raised_unless_refused (refused r) raised = none_raised

-- the answer of justification and of the close; `old` is the finality handed in
abbrev pub close_answer_for : Checked Finality → Finality → Raised → CloseAnswer
close_answer_for m old raised = record { refusal = code_of m; finality = settle m old; raised = raised_unless_refused m raised }
