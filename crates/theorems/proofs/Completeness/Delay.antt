-- What is asked before the Rust's loops and in the document's: the finality delay, of one validator.
use mathlib.Core.Path.{◌≡◌, refl}
use mathlib.Core.Bool.{Bool, true, false, ◌&&◌, ◌||◌, false≢true}
use mathlib.Core.List.{List}
use mathlib.Core.Logic.{◌⊎◌, inl, inr, ⊎_elim}
use Prim.Native.Nat.{ℕ, ◌/◌, ◌<◌}
use borrow.Author.Tests.{leb-false, lt-leb}
use lib.Dec.{leb}
use Rattle.definitions.specs.declared.Settings.{Settings}
use Rattle.definitions.specs.declared.Deltas.{Deltas}
use Rattle.definitions.specs.Record.{Validator}
use Rattle.definitions.specs.Checked.{value, refused, bind, sub64}
use Rattle.definitions.specs.declared.Refusal.TheVariants.{Overflow}
use Rattle.definitions.specs.Document.Phase0.Helpers.{is_active_validator, get_current_epoch, get_previous_epoch}
use Rattle.definitions.specs.Document.Phase0.EpochProcessing as document
use Rattle.definitions.specs.Document.Phase0.EpochProcessing.{is_eligible}
use Rattle.definitions.specs.Document.Altair.Helpers.{is_unslashed_participating}
use Rattle.definitions.specs.Rust.Phase0.EpochProcessing.{is_in_inactivity_leak, get_finality_delay}
use Rattle.definitions.specs.Rust.Altair.Helpers.{FlagTotals, flag_totals, flag_index_deltas, get_flag_index_deltas}
use Rattle.definitions.specs.Rust.Altair.EpochProcessing.{update_inactivity_score}
use Rattle.theorems.specs.Completeness.ListByList as by_lists
use Rattle.theorems.specs.Completeness.DocumentIn64Bits as in64
use Rattle.theorems.specs.Completeness.DocumentIn64Bits.{FlagTotals as Totals}
use Rattle.theorems.specs.Completeness.Rows.{hits}
use Rattle.theorems.specs.Completeness.Complete.{LeafParts, CompleteLeaf}
use Rattle.agreement.proofs.Deltas.{flag-totals}
use Rattle.theorems.proofs.Completeness.Laws.{bind-value, bind-through, Never, never-refused, never_first, never-then, refuses, refused_or_parted}
use Rattle.theorems.proofs.Completeness.Agrees.{delta-agrees}
use Rattle.laws.proofs.Checked.{bind-bind, map-alike}

-- it answers, or the delay is below 0
pub data Delay (s : Settings) (state_slot finalized_epoch : ℕ) : Type 0 where
  answered : is_in_inactivity_leak s state_slot finalized_epoch ≡ value (document.is_in_inactivity_leak s state_slot finalized_epoch) → Delay s state_slot finalized_epoch
  below : get_previous_epoch s state_slot < finalized_epoch → Delay s state_slot finalized_epoch

pub delay : (s : Settings) (state_slot finalized_epoch : ℕ) → Delay s state_slot finalized_epoch
unfolding is_in_inactivity_leak get_finality_delay document.is_in_inactivity_leak document.get_finality_delay sub64 bind
delay s state_slot finalized_epoch = go (leb finalized_epoch previous) refl
  where
    previous : ℕ
    previous = get_previous_epoch s state_slot

    go : (t : Bool) → leb finalized_epoch previous ≡ t → Delay s state_slot finalized_epoch
    go true e = answered (rw e)
    go false e = below (leb-false finalized_epoch previous e)

-- It answers: the two places are one

-- what the Rust hands to its loop
abbrev with_leak : Settings → ℕ → ℕ → Totals → FlagTotals
with_leak s state_slot finalized_epoch t =
    record {
      participating_increments = t.participating / s.effective_balance_increment;
      total_active_balance = t.active;
      leaking = document.is_in_inactivity_leak s state_slot finalized_epoch;
    }

module _ (s : Settings) (state_slot finalized_epoch : ℕ) (l : is_in_inactivity_leak s state_slot finalized_epoch ≡ value (document.is_in_inactivity_leak s state_slot finalized_epoch)) where
  pub score-same : (v : Validator) → update_inactivity_score s (get_current_epoch s state_slot) (get_previous_epoch s state_slot) (document.is_in_inactivity_leak s state_slot finalized_epoch) v ≡ in64.update_inactivity_score s state_slot finalized_epoch v
  unfolding update_inactivity_score in64.update_inactivity_score bind
  score-same v = rw l

  pub totals-same : (vs : List Validator) (flag_index : ℕ) → flag_totals s state_slot finalized_epoch vs flag_index ≡ bind (in64.flag_totals s state_slot vs flag_index) (λ t. value (with_leak s state_slot finalized_epoch t))
  unfolding flag_totals in64.flag_totals
  totals-same vs flag_index = simp (l, bind-bind, bind-value)

  pub deltas-same : (flag_index : ℕ) (t : Totals) (v : Validator) → flag_index_deltas s (get_current_epoch s state_slot) (get_previous_epoch s state_slot) flag_index (with_leak s state_slot finalized_epoch t) v ≡ in64.flag_index_deltas s state_slot finalized_epoch flag_index t v
  unfolding flag_index_deltas in64.flag_index_deltas bind
  deltas-same flag_index t v = rw l

  pub list_same : (vs : List Validator) (flag_index : ℕ) → by_lists.get_flag_index_deltas s state_slot finalized_epoch vs flag_index ≡ in64.get_flag_index_deltas s state_slot finalized_epoch vs flag_index
  unfolding by_lists.get_flag_index_deltas in64.get_flag_index_deltas
  list_same vs flag_index =
      rw (totals-same vs flag_index) (bind-through _ _ _ (λ t. map-alike (deltas-same flag_index t) vs))

  delta-same : (vs : List Validator) (flag_index : ℕ) (v : Validator) → get_flag_index_deltas s state_slot finalized_epoch vs flag_index v ≡ in64.deltas_of_one s state_slot finalized_epoch vs flag_index v
  unfolding get_flag_index_deltas in64.deltas_of_one
  delta-same vs flag_index v = rw (totals-same vs flag_index) (bind-through _ _ _ (λ t. deltas-same flag_index t v))

-- It does not: the Rust refuses, and the document at those whom it asks about

must_miss : (t : Bool) → (t ≡ true → ⊥) → t ≡ false
must_miss true h = absurd (h refl)
must_miss false h = refl

-- who hits a flag is eligible
active-eligible : (active flag unslashed other : Bool) → (active && flag && unslashed) ≡ true → (active || other) ≡ true
active-eligible true f u o e = refl
active-eligible false f u o e = absurd (false≢true e)

hit_eligible : (s : Settings) (state_slot flag_index : ℕ) (v : Validator) → hits s state_slot flag_index v ≡ true → is_eligible (get_previous_epoch s state_slot) v ≡ true
unfolding is_unslashed_participating is_eligible
hit_eligible s state_slot flag_index v h = active-eligible (is_active_validator v (get_previous_epoch s state_slot)) _ _ _ h

module _ (s : Settings) (state_slot finalized_epoch : ℕ) (a : get_previous_epoch s state_slot < finalized_epoch) where
  pub leak-refused : is_in_inactivity_leak s state_slot finalized_epoch ≡ refused Overflow
  unfolding is_in_inactivity_leak get_finality_delay sub64 bind
  leak-refused = rw (lt-leb finalized_epoch (get_previous_epoch s state_slot) a)

  pub score-refused : (v : Validator) → is_eligible (get_previous_epoch s state_slot) v ≡ true → Never (in64.update_inactivity_score s state_slot finalized_epoch v)
  unfolding in64.update_inactivity_score
  score-refused v p = rw (p, leak-refused) (never-then _ (λ score. never_first _ never-refused))

  pub totals-refused : (vs : List Validator) (flag_index : ℕ) → flag_totals s state_slot finalized_epoch vs flag_index ≡ refused Overflow
  unfolding flag_totals
  totals-refused vs flag_index =
      refuses (flag-totals s _ _ _ flag_index)
      (rw leak-refused (never-then _ (λ p. never-then _ (λ t. never_first _ never-refused))))

  pub deltas-refused : (flag_index : ℕ) (t : Totals) (v : Validator) → hits s state_slot flag_index v ≡ true → Never (in64.flag_index_deltas s state_slot finalized_epoch flag_index t v)
  unfolding in64.flag_index_deltas
  deltas-refused flag_index t v h =
      rw (hit_eligible s state_slot flag_index v h, h, leak-refused) (never-then _ (λ base. never_first _ never-refused))

  pub delta-refused : (vs : List Validator) (flag_index : ℕ) (v : Validator) → get_flag_index_deltas s state_slot finalized_epoch vs flag_index v ≡ refused Overflow
  unfolding get_flag_index_deltas bind
  delta-refused vs flag_index v = rw (totals-refused vs flag_index)

  missed : (vs : List Validator) (flag_index : ℕ) (v : Validator) {d : Deltas} → in64.deltas_of_one s state_slot finalized_epoch vs flag_index v ≡ value d → hits s state_slot flag_index v ≡ false
  unfolding in64.deltas_of_one
  missed vs flag_index v e = must_miss _ (λ h. (never-then (in64.flag_totals s state_slot vs flag_index) (λ t. deltas-refused flag_index t v h)).never _ e)

leaf-complete : (s : Settings) (state_slot finalized_epoch : ℕ) (vs : List Validator) (flag_index : ℕ) (v : Validator) → Delay s state_slot finalized_epoch → (get_flag_index_deltas s state_slot finalized_epoch vs flag_index v ≡ in64.deltas_of_one s state_slot finalized_epoch vs flag_index v) ⊎ LeafParts s state_slot finalized_epoch vs flag_index v
leaf-complete s state_slot finalized_epoch vs flag_index v (answered l) = inl (delta-same s state_slot finalized_epoch l vs flag_index v)
leaf-complete s state_slot finalized_epoch vs flag_index v (below a) =
    let r = delta-refused s state_slot finalized_epoch a vs flag_index v in
    ⊎_elim (λ p. inl p) (λ p. inr (record { row = record { ahead = a; missed = p.0 }; rust = r; document = p.1 }))
    (refused_or_parted (in64.deltas_of_one s state_slot finalized_epoch vs flag_index v) r (delta-agrees s state_slot finalized_epoch vs flag_index v) (λ _. missed s state_slot finalized_epoch a vs flag_index v))

pub complete-leaf : CompleteLeaf
complete-leaf s state_slot finalized_epoch vs flag_index v = leaf-complete s state_slot finalized_epoch vs flag_index v (delay s state_slot finalized_epoch)
