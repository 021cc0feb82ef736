-- Neither lookup of the two target epochs can overflow after the tests.
use mathlib.Core.Path.{◌≡◌, sym, ap, ◌∙◌}
use mathlib.Core.Bool.{false, true≢false}
use mathlib.Core.List.{List}
use Prim.Native.Nat.{ℕ, ◌+◌, ◌*◌, ◌^◌, ◌≤◌, ◌<◌}
use native.Mathlib.Omega.{arith}
use native.Mathlib.Decide.{dec_le}
use native.Mathlib.Nat.{mul-le-mul_right}
use Rattle.definitions.specs.declared.Settings.{Settings}
use Rattle.definitions.specs.Checked.{refused}
use Rattle.definitions.specs.declared.Refusal.TheVariants.{NoRoot}
use Rattle.definitions.specs.Rust.Phase0.Helpers.{compute_start_slot_at_epoch, get_current_epoch, get_previous_epoch, get_block_root, get_block_root_at_slot}
use Rattle.arithmetic.proofs.Laws.{bind-value}
use Rattle.epochs.proofs.roots.Lookups as lookups
use Rattle.definitions_votes.specs.Exact.{is_found}
use Rattle.votes.specs.Laws.{FourIsNoRoot}
use Rattle.votes.proofs.Passed.{votes-passed}
use Rattle.laws.proofs.Bounds.{previous-epoch, current-start}
use Rattle.laws.proofs.Fits.{add64-fits, mul64-fits}

module _ (s : Settings) (roots : List ℕ) (state_slot epoch : ℕ) (l : epoch * s.slots_per_epoch ≤ state_slot) (a : state_slot < 2 ^ 48) (b : s.slots_per_historical_root < 2 ^ 48) where
  at-start : get_block_root s roots state_slot epoch ≡ get_block_root_at_slot s roots state_slot (epoch * s.slots_per_epoch)
  unfolding get_block_root compute_start_slot_at_epoch
  at-start = bind-value (get_block_root_at_slot s roots state_slot) (mul64-fits epoch s.slots_per_epoch (omega arith))

  only-no_root : is_found (get_block_root s roots state_slot epoch) ≡ false → get_block_root s roots state_slot epoch ≡ refused NoRoot
  only-no_root h = go (dec_le state_slot (epoch * s.slots_per_epoch)) (dec_le state_slot (epoch * s.slots_per_epoch + s.slots_per_historical_root))
    where
      go : Dec (state_slot ≤ epoch * s.slots_per_epoch) → Dec (state_slot ≤ epoch * s.slots_per_epoch + s.slots_per_historical_root) → get_block_root s roots state_slot epoch ≡ refused NoRoot
      go (yes e) d = at-start ∙ lookups.late s roots state_slot (epoch * s.slots_per_epoch) e
      go (no e) (yes d) = absurd (true≢false (sym (ap is_found (at-start ∙ lookups.found s roots state_slot (epoch * s.slots_per_epoch) (omega arith) (add64-fits (epoch * s.slots_per_epoch) s.slots_per_historical_root (omega arith)) d)) ∙ h))
      go (no e) (no d) = at-start ∙ lookups.old s roots state_slot (epoch * s.slots_per_epoch) (omega arith) (add64-fits (epoch * s.slots_per_epoch) s.slots_per_historical_root (omega arith)) (omega arith)

previous-start : (s : Settings) (state_slot : ℕ) → get_previous_epoch s state_slot * s.slots_per_epoch ≤ state_slot
previous-start s state_slot =
    let m : get_previous_epoch s state_slot * s.slots_per_epoch ≤ get_current_epoch s state_slot * s.slots_per_epoch = mul-le-mul_right s.slots_per_epoch (previous-epoch s state_slot) in
    omega (arith, current-start s state_slot)

pub four_is_no_root : FourIsNoRoot
four_is_no_root s roots f registry marks z =
    let p = votes-passed s roots f registry marks z in
    record {
      previous = only-no_root s roots f.slot (get_previous_epoch s f.slot) (previous-start s f.slot) p.finality.slot p.small_roots;
      current = only-no_root s roots f.slot (get_current_epoch s f.slot) (current-start s f.slot) p.finality.slot p.small_roots;
    }
