-- The record after a preparation, part by part.
use mathlib.Core.List.{List}
use mathlib.Core.Path.{◌≡◌, ap, ◌∙◌}
use Prim.Native.Nat.{ℕ, ◌-◌, ◌≤◌}
use native.Mathlib.Omega.{arith}
use lib.ListN.{length}
use Rattle.definitions.specs.declared.Settings.{Settings}
use Rattle.definitions.specs.declared.Finality.{Finality}
use Rattle.definitions.specs.Record.{decode, encode}
use Rattle.definitions.specs.RegisterOrder.{map_below}
use Rattle.definitions.specs.Document.Phase0.Helpers.{get_current_epoch}
use Rattle.definitions_file.specs.OutageInput.{Plan}
use Rattle.definitions_file.specs.OutagePreparation.{last_slot_of_next, put_roots, with_flags_at, with_flags, with_slot, prepared}
use Rattle.laws.proofs.Encode.{length-decode}
use Rattle.registry.proofs.activation.Places.{Placed}
use Rattle.outage.specs.Ready.{Prepares}

-- the loop over the registry has ended
pub flags-all : (epoch : ℕ) (absences : List ℕ) {n : ℕ} {before : List ℕ} {i : ℕ} {after : List ℕ} → Placed (with_flags_at epoch absences) n before i after → i ≤ n → n ≤ i → after ≡ encode (with_flags epoch absences (decode before))
unfolding with_flags
flags-all epoch absences {n} {before} {i} p l m =
    let e : i ≡ length (decode before) = omega (arith, length-decode n before p.begun) in
    p.held ∙ ap (λ (k : ℕ). encode (map_below k (with_flags_at epoch absences) (decode before))) e

module _ (s : Settings) (p : Plan) (f : Finality) (registry roots : List ℕ) {new : ℕ} (e : new ≡ last_slot_of_next s f.slot) where
  pub prepares : {after : Finality} {new_registry new_roots : List ℕ} {epoch : ℕ} → after ≡ with_slot new f → epoch ≡ get_current_epoch s new → new_registry ≡ encode (with_flags epoch p.absences (decode registry)) → new_roots ≡ put_roots s.slots_per_historical_root p.root roots f.slot (new - f.slot) → Prepares s p f registry roots after new_registry new_roots
  unfolding prepared
  prepares a b c d = record { held = λ slashings. rw (a, c, d, b, e) }
