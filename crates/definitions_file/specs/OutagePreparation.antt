-- What happens to the record before each close. Document 02, R-12: "moves the slot to the last slot of the next epoch, puts the root at each
-- slot from the old one up to the one before the new, and sets current flags to 7, or 0 where the epoch to be closed lies in the absence".
use Rattle.std.specs.Prelude.{Bool, cond, ◌&&◌, List, ℕ, zero, suc, ◌+◌, ◌-◌, ◌*◌, ◌%◌, leb, length, get_or}
use Rattle.std.proofs.lemmas.List.Edits.{sets}
use Rattle.definitions.specs.declared.Settings.{Settings}
use Rattle.definitions.specs.declared.Finality.{Finality}
use Rattle.definitions.specs.Record.{Validator, decode, encode}
use Rattle.definitions.specs.Updates.{with_participation}
use Rattle.definitions.specs.RegisterOrder.{map_below}
use Rattle.definitions_file.specs.File.{Contents}
use Rattle.definitions.specs.Document.Phase0.Helpers.{get_current_epoch, compute_start_slot_at_epoch}
use Rattle.definitions_file.specs.OutageInput.{Plan}

-- the slot before the first one of the epoch after the next
unfoldable pub last_slot_of_next : Settings → ℕ → ℕ
last_slot_of_next s slot = compute_start_slot_at_epoch s (get_current_epoch s slot + 2) - 1

-- a slot's place is the slot modulo S
abbrev pub put_root : ℕ → List ℕ → List ℕ → ℕ → List ℕ
put_root S root roots slot = sets roots (32 * (slot % S)) root

-- at `count` slots, from `slot` on
unfoldable pub put_roots : ℕ → List ℕ → List ℕ → ℕ → ℕ → List ℕ
put_roots S root roots slot zero = roots
put_roots S root roots slot (suc count) = put_roots S root (put_root S root roots slot) (suc slot) count

-- "first above last means never"
abbrev pub is_away : ℕ → ℕ → ℕ → Bool
is_away epoch first last = leb first epoch && leb epoch last

unfoldable pub flags_at : ℕ → ℕ → ℕ → ℕ
flags_at epoch first last = cond (is_away epoch first last) 0 7

abbrev pub with_flags_at : ℕ → List ℕ → ℕ → Validator → Validator
with_flags_at epoch absences i v =
    with_participation v.previous_epoch_participation (flags_at epoch (get_or absences (2 * i) 0) (get_or absences (2 * i + 1) 0)) v

unfoldable pub with_flags : ℕ → List ℕ → List Validator → List Validator
with_flags epoch absences vs = map_below (length vs) (with_flags_at epoch absences) vs

abbrev pub with_slot : ℕ → Finality → Finality
with_slot slot f =
    record {
      slot = slot;
      justification_bits = f.justification_bits;
      previous_justified_checkpoint = f.previous_justified_checkpoint;
      current_justified_checkpoint = f.current_justified_checkpoint;
      finalized_checkpoint = f.finalized_checkpoint;
    }

unfoldable pub prepared : Plan → Contents → Contents
prepared p c =
    let s = c.settings in
    let old = c.finality.slot in
    let new = last_slot_of_next s old in
    record {
      settings = s;
      finality = with_slot new c.finality;
      registry = encode (with_flags (get_current_epoch s new) p.absences (decode c.registry));
      roots = put_roots s.slots_per_historical_root p.root c.roots old (new - old);
      slashings = c.slashings;
    }
