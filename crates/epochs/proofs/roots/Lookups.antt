-- Where a lookup is refused, and where it finds a root.
use mathlib.Core.Path.{◌≡◌, refl, sym, ap, ◌∙◌}
use mathlib.Core.Bool.{Bool, true, false, cond}
use mathlib.Core.List.{List}
use Prim.Native.Nat.{ℕ, ◌≤◌, ◌<◌}
use borrow.Author.Tests.{lt-ltb, le-ltb, le-leb, lt-leb}
use lib.Dec.{leb, ltb}
use Rattle.definitions.specs.declared.Settings.{Settings}
use Rattle.definitions.specs.declared.Refusal.{Refusal}
use Rattle.definitions.specs.declared.Refusal.TheVariants.{NoRoot}
use Rattle.definitions.specs.Checked.{Checked, value, refused, done, bind, add64}
use Rattle.definitions.specs.Document.Phase0.Helpers as document
use Rattle.definitions.specs.Rust.Phase0.Helpers.{get_block_root_at_slot}
use Rattle.laws.proofs.Checked.{not_value, refused_same, value_same}

-- what is refused without its value is refused with it; `x` is what the code answered
pub refused-done : {A : Type 0} (m : Checked A) {x : Checked (Unit {0})} {p : Refusal} → x ≡ done m → x ≡ refused p → m ≡ refused p
refused-done (value a) e z = absurd (not_value (sym z ∙ e))
refused-done (refused q) e z = ap refused (refused_same (sym e ∙ z))

module _ (s : Settings) (roots : List ℕ) (state_slot slot : ℕ) where
  pub late : state_slot ≤ slot → get_block_root_at_slot s roots state_slot slot ≡ refused NoRoot
  unfolding get_block_root_at_slot
  late h = rw (le-leb _ _ h)

  module _ (earlier : slot < state_slot) where
    pub over : {p : Refusal} → add64 slot s.slots_per_historical_root ≡ refused p → get_block_root_at_slot s roots state_slot slot ≡ refused p
    unfolding get_block_root_at_slot bind
    over h = rw (lt-leb _ _ earlier, h)

    module _ {last : ℕ} (e : add64 slot s.slots_per_historical_root ≡ value last) where
      pub old : last < state_slot → get_block_root_at_slot s roots state_slot slot ≡ refused NoRoot
      unfolding get_block_root_at_slot bind
      old h = rw (lt-leb _ _ earlier, e, lt-ltb _ _ h)

      pub found : state_slot ≤ last → get_block_root_at_slot s roots state_slot slot ≡ value (document.get_block_root_at_slot s roots slot)
      unfolding get_block_root_at_slot bind
      found h = rw (lt-leb _ _ earlier, e, le-ltb _ _ h)

  -- a root that is found is the document's
  pub slot-value : {root : List ℕ} → get_block_root_at_slot s roots state_slot slot ≡ value root → document.get_block_root_at_slot s roots slot ≡ root
  unfolding get_block_root_at_slot bind
  slot-value {root} p = go (leb state_slot slot) (add64 slot s.slots_per_historical_root) p
    where
      tested : (t : Bool) → cond t (refused NoRoot) (value (document.get_block_root_at_slot s roots slot)) ≡ value root → document.get_block_root_at_slot s roots slot ≡ root
      tested true p = absurd (not_value p)
      tested false p = value_same p

      go : (t : Bool) (m : Checked ℕ) → cond t (refused NoRoot) (bind m (λ last. cond (ltb last state_slot) (refused NoRoot) (value (document.get_block_root_at_slot s roots slot)))) ≡ value root → document.get_block_root_at_slot s roots slot ≡ root
      go true m p = absurd (not_value p)
      go false (value last) p = tested (ltb last state_slot) p
      go false (refused r) p = absurd (not_value p)

  -- and where the lookup is not refused there is one
  pub slot-found : {x : Checked (Unit {0})} {u : Unit {0}} → x ≡ done (get_block_root_at_slot s roots state_slot slot) → x ≡ value u → get_block_root_at_slot s roots state_slot slot ≡ value (document.get_block_root_at_slot s roots slot)
  slot-found {x} {u} e z = go (get_block_root_at_slot s roots state_slot slot) refl e
    where
      go : (m : Checked (List ℕ)) → get_block_root_at_slot s roots state_slot slot ≡ m → x ≡ done m → get_block_root_at_slot s roots state_slot slot ≡ value (document.get_block_root_at_slot s roots slot)
      go (value root) q h = q ∙ ap value (sym (slot-value q))
      go (refused p) q h = absurd (not_value (sym h ∙ z))
