-- A root that a lookup finds has 32 bytes, so it is handed back whole.
use mathlib.Core.Path.{◌≡◌, refl, sym, ap, ◌∙◌}
use mathlib.Core.List.{List}
use Prim.Native.Nat.{ℕ, ◌*◌, ◌<◌}
use native.Mathlib.Omega.{arith}
use native.Mathlib.Nat.{mod-lt}
use borrow.Author.Tests.{eq-eqb}
use lib.ListN.{length, length-take, length-drop}
use Rattle.definitions.specs.declared.Settings.{Settings}
use Rattle.definitions.specs.Checked.{Checked, value, refused, code_of, done}
use Rattle.definitions.specs.Refusals.{after_tests}
use Rattle.definitions.specs.LeafRefusals.{root_tests}
use Rattle.definitions.specs.Document.Phase0.Helpers as document
use Rattle.definitions.specs.Rust.Phase0.Helpers.{get_block_root_at_slot, get_block_root}
use Rattle.laws.proofs.Checked.{bound}
use Rattle.root_parts.specs.Bytes.{bytes_of}
use Rattle.epochs.proofs.roots.Passed.{root-passed}
use Rattle.epochs.proofs.roots.Lookups.{slot-value}
use Rattle.root_parts.proofs.Lookups.{epoch-value}
use Rattle.definitions.specs.Plain.{plain_root}
use Rattle.root_parts.specs.Root.{root_given}
use Rattle.definitions.specs.declared.PlainRoot.{PlainRoot}

-- the number of a lookup that answers no value: `x` by `code`, from what its `_refusal` answered
pub code-done : {A : Type 0} (m : Checked A) {x : ℕ} {r : Checked (Unit {0})} → x ≡ code_of r → r ≡ done m → x ≡ code_of m
code-done (value a) e h = e ∙ ap code_of h
code-done (refused q) e h = e ∙ ap code_of h

-- m gives 32 bytes, or nothing
abbrev Long : Checked (List ℕ) → Type 0
Long m = (root : List ℕ) → m ≡ value root → length root ≡ 32

given-root : (m : Checked (List ℕ)) → Long m → root_given (code_of m) (bytes_of m) ≡ plain_root m
unfolding root_given plain_root
given-root (value root) long = rw (eq-eqb _ _ (long root refl))
given-root (refused r) long = refl

-- from the number and the bytes that the two functions of a lookup m answered
answered : (m : Checked (List ℕ)) → Long m → {x : ℕ} {bytes : List ℕ} {r : PlainRoot} → r ≡ root_given x bytes → x ≡ code_of m → bytes ≡ bytes_of m → r ≡ plain_root m
answered m long e number found = e ∙ rw (number, found) (given-root m long)

module _ (s : Settings) (roots : List ℕ) (state_slot : ℕ) where
  slot-long : (slot : ℕ) → length roots ≡ 32 * s.slots_per_historical_root → 0 < s.slots_per_historical_root → length (document.get_block_root_at_slot s roots slot) ≡ 32
  unfolding document.get_block_root_at_slot
  slot-long slot l p = simp (length-take, length-drop) (omega (arith, mod-lt slot p))

  -- a lookup w that finds what the document's has at `slot`
  long_after : (w : Checked (List ℕ)) (slot : ℕ) → ((root : List ℕ) → w ≡ value root → document.get_block_root_at_slot s roots slot ≡ root) → Long (after_tests (root_tests s roots state_slot) w)
  unfolding after_tests
  long_after w slot at root e =
      let b = bound (root_tests s roots state_slot) (λ _. w) e in
      let t = root-passed s roots state_slot refl b.gave in
      let whole = slot-long slot t.long t.slot.settings.shape.roots.least in
      ap length (sym (at root b.then)) ∙ whole

  abbrev at_slot : ℕ → Checked (List ℕ)
  at_slot slot = after_tests (root_tests s roots state_slot) (get_block_root_at_slot s roots state_slot slot)

  abbrev at_epoch : ℕ → Checked (List ℕ)
  at_epoch epoch = after_tests (root_tests s roots state_slot) (get_block_root s roots state_slot epoch)

  module _ {x : ℕ} {bytes : List ℕ} {r : PlainRoot} (e : r ≡ root_given x bytes) where
    pub answered-at_slot : (slot : ℕ) → x ≡ code_of (at_slot slot) → bytes ≡ bytes_of (at_slot slot) → r ≡ plain_root (at_slot slot)
    answered-at_slot slot number found =
        answered (at_slot slot) (long_after _ slot (λ root. slot-value s roots state_slot slot)) e number found

    pub answered-at_epoch : (epoch : ℕ) → x ≡ code_of (at_epoch epoch) → bytes ≡ bytes_of (at_epoch epoch) → r ≡ plain_root (at_epoch epoch)
    unfolding document.get_block_root
    answered-at_epoch epoch number found =
        answered (at_epoch epoch)
        (long_after _ (document.compute_start_slot_at_epoch s epoch) (λ root g. (epoch-value s roots state_slot epoch g).is)) e number found
