-- What the lines tell, as numbers: refusal 0, or the refusal's number and zeros.
use Rattle.std.specs.Prelude.{List, [], ◌∷◌, ℕ, ℤ, pos, get_or}
use Rattle.definitions.specs.declared.Settings.{Settings}
use Rattle.definitions.specs.declared.Finality.{Finality}
use Rattle.definitions.specs.Record.{decode, nobody}
use Rattle.definitions.specs.Checked.{Checked, value, refused, number_of, bind}
use Rattle.definitions.specs.Refusals.{in_order, settings_shaped, registry_shaped, same_length, is_small, good_settings, good_finality, good_validator, good_registry, after_tests}
use Rattle.definitions.specs.LeafRefusals.{is_index}
use Rattle.definitions.specs.Document.Phase0.Helpers.{get_current_epoch}
use Rattle.definitions.specs.Raised.{none_raised, raised_totals}
use Rattle.definitions.specs.Close.{charged}
use Rattle.definitions_file.specs.declared.Head.{Head}
use Rattle.definitions_file.specs.declared.Line.{Line}
use Rattle.definitions.specs.NetChange.{net_change}

-- The head line, of the opening's slot and registry and of the closing's finality

unfoldable pub head_tests : Settings → ℕ → Finality → List ℕ → Checked (Unit {0})
head_tests s state_slot closing opening =
    in_order (settings_shaped s ∷ registry_shaped opening ∷ []) (good_settings s ∷ []) (good_finality closing ∷ is_small state_slot ∷ good_registry opening ∷ [])

abbrev pub head_numbers : Settings → ℕ → Finality → List ℕ → Head
head_numbers s state_slot closing opening =
    record {
      refusal = 0;
      epoch = get_current_epoch s state_slot;
      justified_epoch = closing.current_justified_checkpoint.epoch;
      finalized_epoch = closing.finalized_checkpoint.epoch;
      justification_bits = closing.justification_bits;
      charged = charged s state_slot (decode opening);
      raised = raised_totals s state_slot (decode opening);
    }

abbrev pub no_head : ℕ → Head
no_head refusal =
    record { refusal = refusal; epoch = 0; justified_epoch = 0; finalized_epoch = 0; justification_bits = 0; charged = 0; raised = none_raised }

abbrev pub head_for : Checked Head → Head
head_for (value h) = h
head_for (refused r) = no_head (number_of r)

abbrev pub head_of : Settings → ℕ → Finality → List ℕ → Head
head_of s state_slot closing opening =
    head_for (after_tests (head_tests s state_slot closing opening) (value (head_numbers s state_slot closing opening)))

-- The line of one validator

-- test 3 is asked of the validator that the line is of, in either registry: of all of them, a listing would take N passes
unfoldable pub line_tests : List ℕ → List ℕ → ℕ → Checked (Unit {0})
line_tests opening closing index =
    let before = get_or (decode opening) index nobody in
    let after = get_or (decode closing) index nobody in
    in_order (registry_shaped opening ∷ same_length opening closing ∷ is_index index opening ∷ []) [] (good_validator before ∷ good_validator after ∷ [])

abbrev pub line_numbers : List ℕ → List ℕ → ℕ → ℤ → Line
line_numbers opening closing index change =
    let before = get_or (decode opening) index nobody in
    let after = get_or (decode closing) index nobody in
    record {
      refusal = 0;
      index = index;
      opening_balance = before.balance;
      closing_balance = after.balance;
      effective_balance = after.effective_balance;
      inactivity_score = after.inactivity_score;
      net_change = change;
    }

abbrev pub no_line : ℕ → Line
no_line refusal =
    record {
      refusal = refusal;
      index = 0;
      opening_balance = 0;
      closing_balance = 0;
      effective_balance = 0;
      inactivity_score = 0;
      net_change = pos 0;
    }

abbrev pub line_for : Checked Line → Line
line_for (value l) = l
line_for (refused r) = no_line (number_of r)

-- 1, 3, then 7 where the validator's net change does not fit
abbrev pub line_of : List ℕ → List ℕ → ℕ → Line
line_of opening closing index =
    let before = get_or (decode opening) index nobody in
    let after = get_or (decode closing) index nobody in
    let told = bind (net_change before.balance after.balance) (λ change. value (line_numbers opening closing index change)) in
    line_for (after_tests (line_tests opening closing index) told)
