-- The registry step reads of a state its slot, its finalized epoch, its validators and its churn, and writes the last two: so it is the same in
-- every state that has these.
use mathlib.Core.Path.{◌≡◌, refl, sym, ap, ◌∙◌}
use mathlib.Core.Bool.{Bool, true, false, cond, ◌&&◌}
use mathlib.Core.List.{List, [], ◌∷◌}
use Prim.Native.Nat.{ℕ}
use lib.Dec.{leb, eqb}
use lib.ListN.{length, get_or, set}
use Rattle.definitions.specs.Lists.{range}
use Rattle.definitions.specs.Record.{Validator, FAR_FUTURE_EPOCH, nobody}
use Rattle.definitions.specs.Updates.{with_eligibility, with_activation, with_exit}
use Rattle.definitions.specs.Checked.{Checked, value, refused, bind, add64, fold_checked}
use Rattle.definitions.specs.Rust.Phase0.Helpers.{is_active_validator, is_eligible_for_activation, compute_activation_exit_epoch}
use Rattle.definitions_electra.specs.declared.ElectraRules.{ElectraRules}
use Rattle.definitions_electra.specs.declared.ExitChurn.{ExitChurn}
use Rattle.definitions_electra.specs.Record.{ElectraState, with_vs, with_churn}
use Rattle.definitions_electra.specs.Document.Electra.Helpers.{is_eligible_for_activation_queue}
use Rattle.definitions_electra.specs.Document.Electra.EpochProcessing.{current_epoch_of, finalized_epoch_of}
use Rattle.definitions_electra.specs.Evaluated.Electra.Helpers.{compute_exit_epoch_and_update_churn, initiate_validator_exit}
use Rattle.definitions_electra.specs.Evaluated.Electra.EpochProcessing.{update_registry_at, process_registry_updates}
use Rattle.definitions_electra.specs.Calls.{lent_state, lent_finality, no_churn, no_deposit_numbers}
use Rattle.electra_registry.specs.Updates.{Exiting, exiting, exiting_in}
use Rattle.electra_first.specs.Taken.{exits_of}

-- validators and churn put into a state
abbrev pub put_in : ElectraState → Exiting → ElectraState
put_in st e = with_churn e.churn (with_vs e.validators st)

-- a state with no more than the step reads
abbrev base : List Validator → ElectraState → ElectraState
base vs st = lent_state (lent_finality st.altair.finality.slot (finalized_epoch_of st)) vs [] [] no_churn no_deposit_numbers [] []

module _ (r : ElectraRules) (least : ℕ) (e : Exiting) (i : ℕ) where
  abbrev v : Validator
  v = get_or e.validators i nobody

  -- a turn by its tests and by what it works out
  unfoldable shape : Bool → Bool → Bool → Bool → Checked ℕ → Checked ExitChurn → ElectraState → Checked ElectraState
  shape queued ejected eligible stays m x st =
      cond queued (bind m (λ next. value (with_vs (set e.validators i (with_eligibility next (get_or e.validators i nobody))) st)))
      (cond ejected
      (cond stays
      (bind x (λ after.
      bind (add64 after.earliest_exit_epoch r.settings.min_validator_withdrawability_delay) (λ w.
      value (with_churn after (with_vs (set e.validators i (with_exit after.earliest_exit_epoch w (get_or e.validators i nobody))) st)))))
      (value st))
      (cond eligible (value (with_vs (set e.validators i (with_activation least (get_or e.validators i nobody))) st)) (value st)))

  module _ (st st' : ElectraState) where
    shape_in : (queued ejected eligible stays : Bool) (m : Checked ℕ) (x : Checked ExitChurn) → shape queued ejected eligible stays m x (put_in st e) ≡ bind (exiting_in (shape queued ejected eligible stays m x (put_in st' e))) (λ e'. value (put_in st e'))
    unfolding shape bind
    shape_in true ejected eligible stays (value next) x = refl
    shape_in true ejected eligible stays (refused p) x = refl
    shape_in false true eligible true m (refused p) = refl
    shape_in false true eligible false m x = refl
    shape_in false false true stays m x = refl
    shape_in false false false stays m x = refl
    shape_in false true eligible true m (value after) = later (add64 after.earliest_exit_epoch r.settings.min_validator_withdrawability_delay)
      where
        later : (y : Checked ℕ) → bind y (λ w. value (with_churn after (with_vs (set e.validators i (with_exit after.earliest_exit_epoch w (get_or e.validators i nobody))) (put_in st e)))) ≡ bind (exiting_in (bind y (λ w. value (with_churn after (with_vs (set e.validators i (with_exit after.earliest_exit_epoch w (get_or e.validators i nobody))) (put_in st' e)))))) (λ e'. value (put_in st e'))
        later (value w) = refl
        later (refused p) = refl

  turn-shape : (st : ElectraState) → update_registry_at r least (put_in st e) i ≡ shape (is_eligible_for_activation_queue r.electra v) (is_active_validator v (current_epoch_of r st) && leb v.effective_balance r.settings.ejection_balance) (is_eligible_for_activation (finalized_epoch_of st) v) (eqb v.exit_epoch FAR_FUTURE_EPOCH) (add64 (current_epoch_of r st) 1) (compute_exit_epoch_and_update_churn r st.altair.finality.slot e.validators e.churn v.effective_balance) (put_in st e)
  unfolding update_registry_at initiate_validator_exit shape
  turn-shape st = refl

-- turns on validators and churn alone, as the state that has no more makes them
abbrev turn_in : ElectraRules → ℕ → ElectraState → Exiting → ℕ → Checked Exiting
turn_in r least b e i = exiting_in (update_registry_at r least (put_in b e) i)

fold_in : {S E : Type 0} (f : S → ℕ → Checked S) (g : E → ℕ → Checked E) (put : E → S) → ((e : E) (i : ℕ) → f (put e) i ≡ bind (g e i) (λ e'. value (put e'))) → (e : E) (is : List ℕ) → fold_checked f (put e) is ≡ bind (fold_checked g e is) (λ e'. value (put e'))
unfolding fold_checked bind
fold_in f g put h e [] = refl
fold_in {S} {E} f g put h e (i ∷ is) = rw (h e i) (go (g e i) (λ e'. fold_in f g put h e' is))
  where
    go : (m : Checked E) → ((e' : E) → fold_checked f (put e') is ≡ bind (fold_checked g e' is) (λ e''. value (put e''))) → bind (bind m (λ e'. value (put e'))) (λ c. fold_checked f c is) ≡ bind (bind m (λ c. fold_checked g c is)) (λ e'. value (put e'))
    go (value e') k = k e'
    go (refused p) k = refl

module _ (r : ElectraRules) (st : ElectraState) where
  abbrev b : ElectraState
  b = base st.altair.validators st

  turns : (least : ℕ) (e : Exiting) (i : ℕ) → update_registry_at r least (put_in st e) i ≡ bind (turn_in r least b e i) (λ e'. value (put_in st e'))
  turns least e i = rw (turn-shape r least e i st, turn-shape r least e i b) (shape_in r least e i st b _ _ _ _ _ _)

  turns-base : (least : ℕ) (e : Exiting) (i : ℕ) → update_registry_at r least (put_in b e) i ≡ bind (turn_in r least b e i) (λ e'. value (put_in b e'))
  turns-base least e i = rw (turn-shape r least e i b) (shape_in r least e i b b _ _ _ _ _ _)

  pub registry_in : process_registry_updates r st ≡ bind (exits_of r st.altair.finality.slot (finalized_epoch_of st) st.churn st.altair.validators) (λ e. value (put_in st e))
  unfolding process_registry_updates exits_of bind
  registry_in = go (compute_activation_exit_epoch r.settings (current_epoch_of r st))
    where
      start : Exiting
      start = exiting st.altair.validators st.churn

      is : List ℕ
      is = range 0 (length st.altair.validators)

      back : (m : Checked Exiting) → m ≡ exiting_in (bind m (λ e. value (put_in b e)))
      back (value e) = refl
      back (refused p) = refl

      go : (m : Checked ℕ) → bind m (λ least. fold_checked (update_registry_at r least) (put_in st start) is) ≡ bind (exiting_in (bind m (λ least. fold_checked (update_registry_at r least) (put_in b start) is))) (λ e. value (put_in st e))
      go (refused p) = refl
      go (value least) =
          fold_in (update_registry_at r least) (turn_in r least b) (put_in st) (turns least) start is
          ∙ ap (λ (m : Checked Exiting). bind m (λ e. value (put_in st e))) (back (fold_checked (turn_in r least b) start is) ∙ ap exiting_in (sym (fold_in (update_registry_at r least) (turn_in r least b) (put_in b) (turns-base least) start is)))
