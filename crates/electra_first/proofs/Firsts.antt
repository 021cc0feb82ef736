-- Justification, then the four.
use mathlib.Core.Path.{◌≡◌, sym, ap, ◌∙◌}
use mathlib.Core.List.{List}
use Prim.Native.Nat.{ℕ}
use Rattle.definitions.specs.declared.Settings.{Settings}
use Rattle.definitions.specs.declared.Finality.{Finality}
use Rattle.definitions.specs.Record.{decode}
use Rattle.definitions.specs.Checked.{Checked, value, refused, bind}
use Rattle.definitions.specs.declared.Refusal.{Refusal}
use Rattle.definitions.specs.Raised.{raised_totals}
use Rattle.definitions.specs.Rust.Altair.EpochProcessing.{process_justification_and_finalization}
use Rattle.definitions.specs.Close.{justification_step, limited_step}
use Rattle.definitions_close.specs.FinalizingTest.{finalizing_test}
use Rattle.definitions_electra.specs.declared.ElectraRules.{ElectraRules}
use Rattle.definitions_electra.specs.declared.ExitChurn.{ExitChurn}
use Rattle.laws.proofs.Checked.{Bound, bound, value_same}
use Rattle.laws.proofs.Frame.Slot.{slot_step}
use Rattle.arithmetic.proofs.Laws.{bind-value, bind-refused}
use Rattle.justification.specs.declared.Justified.{Justified}
use Rattle.justification.specs.Given.{justified_by}
use Rattle.electra_first.specs.declared.First.{First}
use Rattle.electra_first.specs.First.{Four, four_by, FourRan, Five, five_by, first_of, FirstHeld, FirstRan}
use Rattle.electra_first.proofs.Stops.{first-lost, not_given}

module _ (r : ElectraRules) (s : Settings) (f : Finality) (churn : ExitChurn) (registry slashings roots : List ℕ) {j : Checked Justified} (told : j ≡ justified_by s roots f (decode registry)) where
  abbrev justifies : Checked Finality
  justifies = process_justification_and_finalization s roots f (decode registry)

  abbrev five : Checked Five
  five = five_by r s f churn (decode registry) slashings roots

  abbrev with_raised : Finality → Justified
  with_raised g = record { finality = g; raised = raised_totals s f.slot (decode registry) }

  refuses : {p : Refusal} {x : Checked First} {after amounts : List ℕ} → five_by r s f churn (decode registry) slashings roots ≡ refused p → x ≡ refused p → FirstRan s f (decode registry) (five_by r s f churn (decode registry) slashings roots) after amounts x
  refuses e h = record { is = h ∙ sym (bind-refused _ e); held = λ v q. absurd (not_given e q) }

  pub first-refused : {p : Refusal} {x : Checked First} {after amounts : List ℕ} → j ≡ refused p → x ≡ refused p → FirstRan s f (decode registry) (five_by r s f churn (decode registry) slashings roots) after amounts x
  unfolding five_by
  first-refused e h = refuses (bind-refused _ (first-lost justifies with_raised (sym told ∙ e))) h

  module _ {x : Justified} (e : j ≡ value x) where
    way : Bound (process_justification_and_finalization s roots f (decode registry)) (λ g. value (with_raised g)) x
    way = bound justifies (λ g. value (with_raised g)) (sym told ∙ e)

    same : with_raised way.first ≡ x
    same = value_same way.then

    pub justified : process_justification_and_finalization s roots f (decode registry) ≡ value x.finality
    justified = way.gave ∙ ap (λ (k : Justified). value k.finality) same

    raises : x.raised ≡ raised_totals s f.slot (decode registry)
    raises = sym (ap (λ (k : Justified). k.raised) same)

    -- the slot stays
    pub slot_kept : x.finality.slot ≡ f.slot
    unfolding limited_step bind
    slot_kept = slot_step s justification_step (record { finality = f; validators = decode registry; slashings = slashings; block_roots = roots }) (record { finality = x.finality; validators = decode registry; slashings = slashings; block_roots = roots }) (rw justified)

    abbrev four : Checked Four
    four = four_by r s x.finality.slot x.finality.finalized_checkpoint.epoch slashings churn (decode registry)

    abbrev made : Four → Five
    made w = record { finality = x.finality; four = w }

    five-is : five_by r s f churn (decode registry) slashings roots ≡ bind (four_by r s x.finality.slot x.finality.finalized_checkpoint.epoch slashings churn (decode registry)) (λ w. value (made w))
    unfolding five_by
    five-is = bind-value _ justified

    module _ {after amounts : List ℕ} {u : Checked ExitChurn} (h : FourRan s x.finality.slot x.finality.finalized_checkpoint.epoch (four_by r s x.finality.slot x.finality.finalized_checkpoint.epoch slashings churn (decode registry)) after amounts u) where
      -- the four are refused
      pub four-stop : {p : Refusal} {y : Checked First} → u ≡ refused p → y ≡ refused p → FirstRan s f (decode registry) (five_by r s f churn (decode registry) slashings roots) after amounts y
      four-stop z k =
          let lost = first-lost four (λ w. w.taken.updated.churn) (sym h.is ∙ z) in
          refuses (five-is ∙ bind-refused _ lost) k

      pub first_goes : {moved : ExitChurn} {test : ℕ} → u ≡ value moved → test ≡ finalizing_test s f (value x.finality) → FirstRan s f (decode registry) (five_by r s f churn (decode registry) slashings roots) after amounts (value (record { finality = x.finality; raised = x.raised; test = test; churn = moved }))
      first_goes {moved} {test} z t = by b.first b.gave (value_same (sym b.then))
        where
          b : Bound (four_by r s x.finality.slot x.finality.finalized_checkpoint.epoch slashings churn (decode registry)) (λ w. value w.taken.updated.churn) moved
          b = bound four (λ w. value w.taken.updated.churn) (sym h.is ∙ z)

          by : (w : Four) → four ≡ value w → moved ≡ w.taken.updated.churn → FirstRan s f (decode registry) (five_by r s f churn (decode registry) slashings roots) after amounts (value (record { finality = x.finality; raised = x.raised; test = test; churn = moved }))
          by w g c =
              let told-by : ◌≡◌ {A = First} (record { finality = x.finality; raised = x.raised; test = test; churn = moved }) (first_of s f (decode registry) (made w)) = λ i. record { finality = x.finality; raised = raises i; test = t i; churn = c i } in
              let e : five ≡ value (made w) = five-is ∙ bind-value _ g in
              let whole : FirstHeld s (made w) after amounts = record { registry = h.held w g; nine = h.books w g } in
              record { is = ap value told-by ∙ sym (bind-value _ e); held = λ v q. (let m = value_same (sym e ∙ q) in rw m at whole) }
