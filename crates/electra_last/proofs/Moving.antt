-- Consolidations, then effective balances.
use mathlib.Core.Path.{◌≡◌, refl, sym, ap, ap₂, ◌∙◌}
use mathlib.Core.List.{List}
use Prim.Native.Nat.{ℕ, ◌/◌}
use lib.ListN.{length}
use Rattle.definitions.specs.Record.{Validator, encode, decode}
use Rattle.definitions.specs.declared.Refusal.{Refusal}
use Rattle.definitions.specs.Checked.{Checked, value, refused, bind}
use Rattle.laws.specs.Ran.{Ran}
use Rattle.laws.proofs.Loops.Ran.{ran-by}
use Rattle.laws.proofs.Checked.{value_same, not_value}
use Rattle.laws.proofs.Encode.{decode-encode}
use Rattle.definitions_electra.specs.declared.ElectraRules.{ElectraRules}
use Rattle.definitions_electra.specs.Document.Electra.EpochProcessing.{Consolidating}
use Rattle.definitions_electra.specs.Evaluated.Electra.EpochProcessing.{update_effective_balances}
use Rattle.electra_consolidations.specs.Consolidations.{consolidations, Consolidates}
use Rattle.electra_consolidations.specs.Moves.{moved_to, MovesBooked}
use Rattle.electra_last.specs.Moved.{Balanced, moved_by, MovedHeld, MovedRan}

module _ (r : ElectraRules) (next n : ℕ) (compounding registry pairs : List ℕ) {moved before amounts : List ℕ} {d : Checked ℕ} (c : Consolidates (consolidations next (decode registry) pairs) (length pairs / 2) moved d) (b : MovesBooked next n registry moved pairs before amounts d) where
  abbrev Goal : List ℕ → Checked ℕ → Type 0
  Goal after x = MovedRan next n (decode registry) pairs (moved_by r next compounding (decode registry) pairs) after before amounts x

  -- the consolidations were refused
  pub moves-refused : {after : List ℕ} {p : Refusal} → d ≡ refused p → Goal after (refused p)
  unfolding moved_by bind
  moves-refused {after} {p} z = go (consolidations next (decode registry) pairs) (sym c.is ∙ z)
    where
      go : (m : Checked Consolidating) → bind m (λ q. value q.next_pending_consolidation) ≡ refused p → MovedRan next n (decode registry) pairs (bind m (λ q. bind (update_effective_balances r compounding q.validators) (λ ws. value (record { moved = q; balanced = ws })))) after before amounts (refused p)
      go (value q) e = absurd (not_value (sym e))
      go (refused w) e = record { is = sym e; most = λ count u. absurd (not_value u); framed = b.framed; held = λ x q. absurd (not_value q) }

  module _ {count : ℕ} (z : d ≡ value count) {after : List ℕ} {x : Checked (Unit {0})} (ran : Ran (update_effective_balances r compounding (decode moved)) after x) where
    -- effective balances were refused
    pub balances-refused : {p : Refusal} → x ≡ refused p → Goal after (refused p)
    unfolding moved_by bind
    balances-refused {p} y = go (consolidations next (decode registry) pairs) (sym c.is ∙ z) c.held
      where
        go : (m : Checked Consolidating) → bind m (λ q. value q.next_pending_consolidation) ≡ value count → ((q : Consolidating) → m ≡ value q → moved ≡ encode q.validators) → MovedRan next n (decode registry) pairs (bind m (λ q. bind (update_effective_balances r compounding q.validators) (λ ws. value (record { moved = q; balanced = ws })))) after before amounts (refused p)
        go (refused w) e h = absurd (not_value e)
        go (value q) e h =
            let back : decode moved ≡ q.validators = ap decode (h q refl) ∙ decode-encode q.validators in
            rw (rw back at (ran-by ran y)) (record { is = refl; most = λ count u. absurd (not_value u); framed = b.framed; held = λ x q. absurd (not_value q) })

    pub moves-balanced : x ≡ value tt → Goal after (value count)
    unfolding moved_by bind
    moves-balanced y = go (consolidations next (decode registry) pairs) (sym c.is ∙ z) c.held
      where
        go : (m : Checked Consolidating) → bind m (λ q. value q.next_pending_consolidation) ≡ value count → ((q : Consolidating) → m ≡ value q → moved ≡ encode q.validators) → MovedRan next n (decode registry) pairs (bind m (λ q. bind (update_effective_balances r compounding q.validators) (λ ws. value (record { moved = q; balanced = ws })))) after before amounts (value count)
        go (refused w) e h = absurd (not_value e)
        go (value q) e h = on (update_effective_balances r compounding q.validators) (rw (back, y) at ran)
          where
            back : decode moved ≡ q.validators
            back = ap decode (h q refl) ∙ decode-encode q.validators

            done : q.next_pending_consolidation ≡ count
            done = value_same e

            on : (m : Checked (List Validator)) → Ran m after (value tt) → MovedRan next n (decode registry) pairs (bind m (λ ws. value (record { moved = q; balanced = ws }))) after before amounts (value count)
            on (refused w) ran = absurd (not_value (sym ran.is))
            on (value ws) ran = record { is = ap value (sym done); most = λ k u. c.most k (z ∙ u); framed = b.framed; held = λ y u. by (value_same u) }
              where
                whole : MovedHeld next n (decode registry) pairs (record { moved = q; balanced = ws }) after before amounts
                whole = record { registry = ran.held ws refl; books = λ l. b.booked count z l ∙ ap₂ (λ (vs : List Validator) (k : ℕ). value (moved_to n vs k amounts)) back (sym done) }

                by : {y : Balanced} → record { moved = q; balanced = ws } ≡ y → MovedHeld next n (decode registry) pairs y after before amounts
                by u = rw u at whole
