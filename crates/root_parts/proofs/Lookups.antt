-- What a found root says of the lookup.
use mathlib.Core.Path.{◌≡◌, refl, sym}
use mathlib.Core.Bool.{Bool, true, false, cond, true≢false}
use mathlib.Core.List.{List, []}
use Prim.Native.Nat.{ℕ, ◌*◌, ◌^◌, ◌<◌}
use borrow.Author.Tests.{ltb-true}
use lib.Dec.{ltb}
use Rattle.std.specs.Prelude.{is_err}
use Rattle.definitions.specs.declared.Settings.{Settings}
use Rattle.definitions.specs.Checked.{Checked, value, refused, done, mul64}
use Rattle.definitions.specs.declared.Refusal.{Refusal}
use Rattle.definitions.specs.declared.Refusal.TheVariants.{Overflow}
use Rattle.definitions.specs.Refusals.{after_tests}
use Rattle.definitions.specs.LeafRefusals.{root_tests}
use Rattle.definitions.specs.Document.Phase0.Helpers as document
use Rattle.definitions.specs.Rust.Phase0.Helpers.{compute_start_slot_at_epoch, get_block_root_at_slot, get_block_root}
use Rattle.laws.proofs.Checked.{not_value, bound, mul64-value}
use Rattle.epochs.proofs.roots.Lookups.{slot-value}
use Rattle.epochs.proofs.roots.Passed.{RootPassed, root-passed}
use Rattle.root_parts.specs.Bytes.{bytes_of}

-- refused: no bytes
pub no_bytes : (m : Checked (List ℕ)) (x : Checked (Unit {0})) → x ≡ done m → is_err x ≡ true → [] ≡ bytes_of m
no_bytes (refused p) x e t = refl
no_bytes (value root) (refused q) e t = absurd (not_value e)
no_bytes (value root) (value u) e t = absurd (true≢false (sym t))

mul64-below : (a b : ℕ) {x : ℕ} → mul64 a b ≡ value x → a * b < 2 ^ 64
unfolding mul64
mul64-below a b {x} p = ltb-true _ _ (go (ltb (a * b) (2 ^ 64)) p)
  where
    go : (t : Bool) → cond t (value (a * b)) (refused Overflow) ≡ value x → t ≡ true
    go true p = refl
    go false p = absurd (not_value p)

pub record EpochValue (s : Settings) (roots : List ℕ) (epoch : ℕ) (root : List ℕ) : Type 0 where
  pub fits : epoch * s.slots_per_epoch < 2 ^ 64
  pub is : document.get_block_root s roots epoch ≡ root

pub epoch-value : (s : Settings) (roots : List ℕ) (state_slot epoch : ℕ) {root : List ℕ} → get_block_root s roots state_slot epoch ≡ value root → EpochValue s roots epoch root
unfolding get_block_root compute_start_slot_at_epoch document.get_block_root document.compute_start_slot_at_epoch
epoch-value s roots state_slot epoch p =
    let b = bound (mul64 epoch s.slots_per_epoch) (get_block_root_at_slot s roots state_slot) p in
    record {
      fits = mul64-below _ _ b.gave;
      is = rw (mul64-value epoch s.slots_per_epoch b.gave) (slot-value s roots state_slot _ b.then);
    }

-- the tests passed and there is a value
pub record Found (s : Settings) (roots : List ℕ) (state_slot : ℕ) (w : Checked (List ℕ)) : Type 0 where
  pub tests : RootPassed s roots state_slot
  pub root : List ℕ
  pub is : w ≡ value root
  pub after : after_tests (root_tests s roots state_slot) w ≡ value root

pub found_after : (s : Settings) (roots : List ℕ) (state_slot : ℕ) (w : Checked (List ℕ)) {x : Checked (Unit {0})} → x ≡ done (after_tests (root_tests s roots state_slot) w) → is_err x ≡ false → Found s roots state_slot w
unfolding after_tests
found_after s roots state_slot w {x} e z = go (after_tests (root_tests s roots state_slot) w) refl (e)
  where
    not_refused : (x : Checked (Unit {0})) {p : Refusal} → x ≡ refused p → is_err x ≡ false → ⊥
    not_refused (value u) h z = not_value (sym h)
    not_refused (refused r) h z = true≢false z

    go : (m : Checked (List ℕ)) → after_tests (root_tests s roots state_slot) w ≡ m → x ≡ done m → Found s roots state_slot w
    go (value root) q h =
        let b = bound (root_tests s roots state_slot) (λ _. w) q in
        record { tests = root-passed s roots state_slot refl b.gave; root = root; is = b.then; after = q }
    go (refused p) q h = absurd (not_refused x h z)
