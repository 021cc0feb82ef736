-- What a step leaves of what the tests ask: ranges, lengths and roots.
use mathlib.Core.Path.{◌≡◌, refl, sym, ap, ◌∙◌}
use mathlib.Core.Bool.{Bool, true, false, cond, ◌&&◌}
use mathlib.Core.List.{List, [], ◌∷◌, map}
use Prim.Native.Nat.{ℕ, ◌+◌, ◌-◌, ◌*◌, ◌/◌, ◌%◌, ◌^◌, ◌≤◌, ◌<◌}
use native.Mathlib.Nat.{div-le_self}
use native.Mathlib.Omega.{arith}
use borrow.Author.Tests.{lt-ltb, le-leb, eqb-false}
use lib.Dec.{leb, eqb}
use lib.ListN.{length, length-map}
use Rattle.definitions.specs.declared.Settings.{Settings}
use Rattle.definitions.specs.declared.ActivationLimit.{ActivationLimit}
use Rattle.definitions.specs.declared.ActivationLimit.TheVariants.{Churn}
use Rattle.definitions.specs.declared.Checkpoint.{Checkpoint}
use Rattle.definitions.specs.declared.Finality.{Finality}
use Rattle.definitions.specs.Lists.{all, every}
use Rattle.definitions.specs.Record.{Validator, BeaconState, GENESIS_EPOCH}
use Rattle.definitions.specs.Updates.{with_effective_balance, with_balance, with_score, with_participation}
use Rattle.definitions.specs.Checked.{value}
use Rattle.definitions.specs.Refusals.{is_small, good_finality, good_validator}
use Rattle.definitions.specs.Document.Phase0.EpochProcessing.{bit, justified_bits, finalized_by, weighed}
use Rattle.definitions.specs.Document.Altair.EpochProcessing.{rotate_participation}
use Rattle.definitions.specs.Rust.Phase0.Helpers.{compute_epoch_at_slot, get_current_epoch, get_previous_epoch}
use Rattle.definitions.specs.Rust.Phase0.EpochProcessing.{weigh_justification_and_finalization}
use Rattle.definitions.specs.Rust.Altair.EpochProcessing.{process_justification_and_finalization, process_participation_flag_updates}
use Rattle.definitions.specs.Close.{Step, justification_step, inactivity_step, rewards_step, registry_step, slashings_step, effective_balances_step, slashings_reset_step, participation_flags_step, step, limited_step}
use Rattle.laws.proofs.Checked.{value_same, bound}
use Rattle.refusals.proofs.Laws.{GoodFinality, good-finality, good-validator}
use Rattle.laws.proofs.Tests.{both}
use Rattle.laws.specs.Frames.{each, without_epochs}
use Rattle.laws.proofs.Frame.Entries.{told}
use Rattle.laws.proofs.Frame.Frames.{limited-frames}
use Rattle.laws.proofs.Tests.{either}

-- Finality

small : {n : ℕ} → n < 2 ^ 48 → is_small n ≡ true
small {n} h = lt-ltb n (2 ^ 48) h

one_more : (x : ℕ) (t : Bool) → eqb (x / 2 ^ 0 % 2) 1 ≡ t → x ≤ 15 → cond t x (x + 2 ^ 0) ≤ 15
one_more x true e h = h
one_more x false e h = let n = eqb-false (x / 2 ^ 0 % 2) 1 e in omega arith

two-more : (x : ℕ) (t : Bool) → eqb (x / 2 ^ 1 % 2) 1 ≡ t → x ≤ 15 → cond t x (x + 2 ^ 1) ≤ 15
two-more x true e h = h
two-more x false e h = let n = eqb-false (x / 2 ^ 1 % 2) 1 e in omega arith

where_set : (t : Bool) {x y : ℕ} → x ≤ 15 → y ≤ 15 → cond t x y ≤ 15
where_set true h k = h
where_set false h k = k

bits_fit : (previous current : Bool) (bits : ℕ) → justified_bits previous current bits ≤ 15
unfolding justified_bits
bits_fit previous current bits =
    let moved : 2 * bits % 16 ≤ 15 = omega arith in
    let after = where_set previous (two-more (2 * bits % 16) (bit 1 (2 * bits % 16)) refl moved) moved in
    where_set current (one_more _ _ refl after) after

-- one of two checkpoints
either-small : (t : Bool) (x y : Checkpoint) → x.epoch < 2 ^ 48 → y.epoch < 2 ^ 48 → (cond t x y).epoch < 2 ^ 48
either-small true x y h k = h
either-small false x y h k = k

finalized-small : (epoch bits : ℕ) (old : Finality) → GoodFinality old → (finalized_by epoch bits old).epoch < 2 ^ 48
unfolding finalized_by
finalized-small epoch bits old g =
    let previous = old.previous_justified_checkpoint in
    let current = old.current_justified_checkpoint in
    let a : Bool = bit 1 bits && bit 2 bits && bit 3 bits && eqb (previous.epoch + 3) epoch in
    let b : Bool = bit 1 bits && bit 2 bits && eqb (previous.epoch + 2) epoch in
    let c : Bool = bit 0 bits && bit 1 bits && bit 2 bits && eqb (current.epoch + 2) epoch in
    let d : Bool = bit 0 bits && bit 1 bits && eqb (current.epoch + 1) epoch in
    let first = cond a previous old.finalized_checkpoint in
    let second = cond b previous first in
    let third = cond c current second in
    either-small d current third g.current
    (either-small c current second g.current (either-small b previous first g.previous (either-small a previous old.finalized_checkpoint g.previous g.finalized)))

joined : (f : Finality) → GoodFinality f → good_finality f ≡ true
unfolding good_finality every
joined f g =
    rw (small g.slot, le-leb f.justification_bits 15 g.bits, small g.previous, small g.current, small g.finalized)

weighed-good : (pe ce : ℕ) (p c : Bool) (pr cr : List ℕ) (old : Finality) → GoodFinality old → pe < 2 ^ 48 → ce < 2 ^ 48 → GoodFinality (weighed pe ce p c pr cr old)
unfolding weighed
weighed-good pe ce p c pr cr old g h k =
    record {
      slot = g.slot;
      bits = bits_fit p c old.justification_bits;
      previous = g.current;
      current = either-small c (record { epoch = ce; root = cr }) (cond p (record { epoch = pe; root = pr }) old.current_justified_checkpoint) k
          (either-small p (record { epoch = pe; root = pr }) old.current_justified_checkpoint h g.current);
      finalized = finalized-small ce (justified_bits p c old.justification_bits) old g;
    }

current-small : (s : Settings) (slot : ℕ) → slot < 2 ^ 48 → get_current_epoch s slot < 2 ^ 48
unfolding get_current_epoch compute_epoch_at_slot
current-small s slot h = omega (arith, div-le_self slot s.slots_per_epoch)

previous-small : (s : Settings) (slot : ℕ) → slot < 2 ^ 48 → get_previous_epoch s slot < 2 ^ 48
unfolding get_previous_epoch
previous-small s slot h = go (eqb (get_current_epoch s slot) 0)
  where
    go : (t : Bool) → cond t 0 (get_current_epoch s slot - 1) < 2 ^ 48
    go true = omega arith
    go false = omega (arith, current-small s slot h)

justified-good : (s : Settings) (roots : List ℕ) (f : Finality) (vs : List Validator) {g : Finality} → process_justification_and_finalization s roots f vs ≡ value g → good_finality f ≡ true → good_finality g ≡ true
unfolding process_justification_and_finalization weigh_justification_and_finalization
justified-good s roots f vs p h =
    either (λ g. good_finality g ≡ true) (leb (get_current_epoch s f.slot) (GENESIS_EPOCH + 1))
    (λ q. ap good_finality (sym (value_same q)) ∙ h)
    (λ q.
    let good = good-finality f h in
    let a = bound _ _ q in
    let b = bound _ _ a.then in
    let c = bound _ _ b.then in
    let d = bound _ _ c.then in
    let e = bound _ _ d.then in
    let g = bound _ _ e.then in
    let i = bound _ _ g.then in
    ap good_finality (sym (value_same i.then))
    ∙ joined _ (weighed-good _ _ d.first g.first e.first i.first f good (previous-small s f.slot good.slot) (current-small s f.slot good.slot)))
    p

-- The registry

all_map : (p : Validator → Bool) (vs ws : List Validator) → map p ws ≡ map p vs → all p vs ≡ true → all p ws ≡ true
unfolding all
all_map p vs ws e h = sym (through ws) ∙ ap (all (λ b. b)) e ∙ through vs ∙ h
  where
    through : (us : List Validator) → all (λ b. b) (map p us) ≡ all p us
    through [] = refl
    through (u ∷ us) = ap (λ (t : Bool). p u && t) (through us)

-- what a step leaves
pub record Kept (a b : BeaconState) : Type 0 where
  pub finality : good_finality a.finality ≡ true → good_finality b.finality ≡ true
  pub validators : all good_validator a.validators ≡ true → all good_validator b.validators ≡ true
  pub many : length b.validators ≡ length a.validators
  pub slashings : length b.slashings ≡ length a.slashings
  pub roots : b.block_roots ≡ a.block_roots

same-many : (f : Validator → Validator) (vs ws : List Validator) → map f ws ≡ map f vs → length ws ≡ length vs
same-many f vs ws e = sym (length-map ws f) ∙ ap length e ∙ length-map vs f

-- a step that writes fields of validators that no test asks about
by_fields : (f : Validator → Validator) → ((v : Validator) → good_validator (f v) ≡ good_validator v) → (a b : BeaconState) → each f b ≡ each f a → Kept a b
by_fields f k a b h =
    let vs : map f b.validators ≡ map f a.validators = ap (λ (st : BeaconState). st.validators) h in
    record {
      finality = λ g. ap (λ (st : BeaconState). good_finality st.finality) h ∙ g;
      validators = all_map good_validator a.validators b.validators (told f good_validator k a.validators b.validators vs);
      many = same-many f a.validators b.validators vs;
      slashings = ap (λ (st : BeaconState). length st.slashings) h;
      roots = ap (λ (st : BeaconState). st.block_roots) h;
    }

rotated-good : (vs : List Validator) → all good_validator vs ≡ true → all good_validator (map rotate_participation vs) ≡ true
unfolding all good_validator rotate_participation every
rotated-good [] h = refl
rotated-good (v ∷ vs) h =
    let b = both (good_validator v) (all good_validator vs) h in
    let g = good-validator v b.0 in
    rw (le-leb v.slashed 1 g.slashed, le-leb v.current_epoch_participation 255 g.current) (rotated-good vs b.1)

pub limited-kept : (by : ActivationLimit) (s : Settings) (k : Step) (a b : BeaconState) → limited_step by s a k ≡ value b → Kept a b
unfolding limited_step good_validator process_participation_flag_updates every
limited-kept by s justification_step a b p =
    let h = bound _ _ p in
    let e = value_same h.then in
    record {
      finality = λ g. ap (λ (st : BeaconState). good_finality st.finality) (sym e) ∙ justified-good s _ _ _ h.gave g;
      validators = λ g. ap (λ (st : BeaconState). all good_validator st.validators) (sym e) ∙ g;
      many = ap (λ (st : BeaconState). length st.validators) (sym e);
      slashings = ap (λ (st : BeaconState). length st.slashings) (sym e);
      roots = ap (λ (st : BeaconState). st.block_roots) (sym e);
    }
limited-kept by s inactivity_step a b p = by_fields (with_score 0) (λ v. refl) a b (limited-frames by s inactivity_step a b p)
limited-kept by s rewards_step a b p = by_fields (with_balance 0) (λ v. refl) a b (limited-frames by s rewards_step a b p)
limited-kept by s registry_step a b p = by_fields without_epochs (λ v. refl) a b (limited-frames by s registry_step a b p)
limited-kept by s slashings_step a b p = by_fields (with_balance 0) (λ v. refl) a b (limited-frames by s slashings_step a b p)
limited-kept by s effective_balances_step a b p = by_fields (with_effective_balance 0) (λ v. refl) a b (limited-frames by s effective_balances_step a b p)
limited-kept by s slashings_reset_step a b p =
    let h = limited-frames by s slashings_reset_step a b p in
    record {
      finality = λ g. ap (λ (st : BeaconState). good_finality st.finality) h ∙ g;
      validators = λ g. ap (λ (st : BeaconState). all good_validator st.validators) h ∙ g;
      many = ap (λ (st : BeaconState). length st.validators) h;
      slashings = sym (length-map b.slashings (λ (x : ℕ). 0)) ∙ ap (λ (st : BeaconState). length st.slashings) h ∙ length-map a.slashings (λ (x : ℕ). 0);
      roots = ap (λ (st : BeaconState). st.block_roots) h;
    }
limited-kept by s participation_flags_step a b p =
    let h = limited-frames by s participation_flags_step a b p in
    let e = value_same p in
    record {
      finality = λ g. ap (λ (st : BeaconState). good_finality st.finality) h ∙ g;
      validators = λ g. ap (λ (st : BeaconState). all good_validator st.validators) (sym e) ∙ rotated-good a.validators g;
      many = same-many (with_participation 0 0) a.validators b.validators (ap (λ (st : BeaconState). st.validators) h);
      slashings = ap (λ (st : BeaconState). length st.slashings) h;
      roots = ap (λ (st : BeaconState). st.block_roots) h;
    }

-- before Deneb
pub kept_step : (s : Settings) (k : Step) (a b : BeaconState) → step s a k ≡ value b → Kept a b
kept_step = limited-kept Churn
