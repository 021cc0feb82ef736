-- The turn is Altair's by the validator's own settings, and the turns one after the other are the text's loop.
use mathlib.Core.Path.{◌≡◌, refl, sym, ◌∙◌}
use mathlib.Core.List.{List, [], ◌∷◌, ◌++◌, append_assoc}
use Prim.Native.Nat.{ℕ, suc, ◌+◌, ◌*◌, ◌≤◌, ◌<◌}
use native.Mathlib.Omega.{arith}
use lib.ListN.{length, get_or, set, length-append, length-take, length-drop}
use lib.Seq.{get_or-append_seam, set-append_seam}
use Rattle.definitions.specs.declared.Settings.{Settings}
use Rattle.definitions.specs.Lists.{range}
use Rattle.definitions.specs.Record.{Validator, decode_one, decode, nobody}
use Rattle.definitions.specs.Checked.{Checked, value, refused, bind, fold_checked}
use Rattle.definitions.specs.declared.Refusal.{Refusal}
use Rattle.definitions.specs.Document.Phase0.EpochProcessing.{rounded_balance}
use Rattle.definitions.specs.Rust.Phase0.EpochProcessing as altair
use Rattle.laws.proofs.Checked.{bind-bind}
use Rattle.laws.proofs.Encode.{length-decode}
use Rattle.laws_electra.proofs.Cases.{bind-given}
use Rattle.laws.specs.Ran.{Settles, Ran}
use Rattle.laws.proofs.Loops.Entry.{entry_at, put_at, entry-ten}
use Rattle.laws.proofs.Loops.Ran.{ran-entry}
use Rattle.laws.proofs.Loops.Iterated.{Iterated, iterated-none, iterated-more, iterated-stop, iterated-all}
use Rattle.balances.specs.declared.effective_balances.Thresholds.{Thresholds}
use Rattle.balances.specs.Thresholds.{thresholds_of}
use Rattle.definitions_electra.specs.declared.ElectraRules.{ElectraRules}
use Rattle.definitions_electra.specs.Record.{ElectraState}
use Rattle.definitions_electra.specs.Calls.{lent_state, lent_finality, no_churn, no_deposit_numbers}
use Rattle.definitions_electra.specs.Evaluated.Electra.EpochProcessing.{update_effective_balance, update_effective_balances}
use Rattle.electra_balances.specs.Own.{own_settings}

module _ (r : ElectraRules) where
  abbrev s : Settings
  s = r.settings

  abbrev turn_by : ℕ → Thresholds → Validator → Checked Validator
  turn_by compounding t v = altair.update_effective_balance (own_settings r compounding) t.downward t.upward v

  pub by-thresholds : (compounding : ℕ) (v : Validator) → update_effective_balance r compounding v ≡ bind (thresholds_of s) (λ t. turn_by compounding t v)
  unfolding update_effective_balance altair.update_effective_balance rounded_balance thresholds_of
  by-thresholds compounding v = simp (bind-bind, bind-given)

  module _ {t : Thresholds} (h : thresholds_of s ≡ value t) where
    turn_is : (compounding : ℕ) (v : Validator) → update_effective_balance r compounding v ≡ turn_by compounding t v
    unfolding bind
    turn_is compounding v = by-thresholds compounding v ∙ rw h

    pub settles-own : (compounding : ℕ) {before after : List ℕ} {x : Checked (Unit {0})} → Settles (altair.update_effective_balance (own_settings r compounding) t.downward t.upward) before after x → Settles (update_effective_balance r compounding) before after x
    settles-own compounding {before} g = record { is = rw (turn_is compounding (decode_one before)) g.is; held = rw (turn_is compounding (decode_one before)) g.held }

  -- thresholds that are refused, with a validator to be looked at
  pub none-updated : {p : Refusal} → thresholds_of s ≡ refused p → (cs : List ℕ) (vs : List Validator) → 0 < length cs → length cs ≡ length vs → update_effective_balances r cs vs ≡ refused p
  unfolding update_effective_balances bind
  none-updated h [] vs p e = absurd (omega arith)
  none-updated h (c ∷ cs) [] p e = absurd (omega arith)
  none-updated h (c ∷ cs) (v ∷ vs) p e = rw (by-thresholds c v, h)

  -- the turn at i, on the registry as a whole
  abbrev pub turn_at : List ℕ → List Validator → ℕ → Checked (List Validator)
  turn_at cs vs i = bind (update_effective_balance r (get_or cs i 0) (get_or vs i nobody)) (λ v. value (set vs i v))

  -- the first are done
  seam : (ds cs : List ℕ) (ws vs : List Validator) → length ds ≡ length ws → length cs ≡ length vs → fold_checked (turn_at (ds ++ cs)) (ws ++ vs) (range (length ws) (length vs)) ≡ bind (update_effective_balances r cs vs) (λ us. value (ws ++ us))
  unfolding update_effective_balances fold_checked range bind
  seam ds [] ws [] d e = refl
  seam ds (c ∷ cs) ws [] d e = absurd (omega arith)
  seam ds [] ws (v ∷ vs) d e = absurd (omega arith)
  seam ds (c ∷ cs) ws (v ∷ vs) d e =
      let a = get_or-append_seam ds c cs 0 in
      let more : (w : Validator) → length (ds ++ (c ∷ [])) ≡ length (ws ++ (w ∷ [])) = λ w. omega (arith, length-append ds (c ∷ []), length-append ws (w ∷ [])) in
      rw (get_or-append_seam ws v vs nobody, ← d, a, d)
      (go (update_effective_balance r c v) (λ w. seam (ds ++ (c ∷ [])) cs (ws ++ (w ∷ [])) vs (more w) (omega arith)))
    where
      go : (m : Checked Validator) → ((w : Validator) → fold_checked (turn_at ((ds ++ (c ∷ [])) ++ cs)) ((ws ++ (w ∷ [])) ++ vs) (range (length (ws ++ (w ∷ []))) (length vs)) ≡ bind (update_effective_balances r cs vs) (λ us. value ((ws ++ (w ∷ [])) ++ us))) → bind (bind m (λ w. value (set (ws ++ (v ∷ vs)) (length ws) w))) (λ us. fold_checked (turn_at (ds ++ (c ∷ cs))) us (range (suc (length ws)) (length vs))) ≡ bind (bind m (λ w. bind (update_effective_balances r cs vs) (λ us. value (w ∷ us)))) (λ us. value (ws ++ us))
      go (value w) h =
          let k : length (ws ++ (w ∷ [])) ≡ suc (length ws) = omega (arith, length-append ws (w ∷ [])) in
          rw (set-append_seam ws v vs w) ((rw (append_assoc ds (c ∷ []) cs, append_assoc ws (w ∷ []) vs, k) at (h w)) ∙ simp (bind-bind, bind-given, append_assoc))
      go (refused p) h = refl

  loop-is : (cs : List ℕ) (vs : List Validator) → length cs ≡ length vs → fold_checked (turn_at cs) vs (range 0 (length vs)) ≡ update_effective_balances r cs vs
  unfolding bind
  loop-is cs vs e = seam [] cs [] vs refl e ∙ whole (update_effective_balances r cs vs)
    where
      whole : (m : Checked (List Validator)) → bind m (λ us. value ([] ++ us)) ≡ m
      whole (value us) = refl
      whole (refused p) = refl

-- The registry after i turns that were not refused
pub record Updating (r : ElectraRules) (cs xs₀ : List ℕ) (i : ℕ) (xs : List ℕ) : Type 0 where
  pub turns : Iterated (turn_at r cs) (length cs) xs₀ i xs

pub none_yet : (r : ElectraRules) {cs xs₀ : List ℕ} → length xs₀ ≡ 10 * length cs → Updating r cs xs₀ 0 xs₀
none_yet r h = record { turns = iterated-none _ h }

module _ {r : ElectraRules} {cs xs₀ : List ℕ} {i : ℕ} {xs : List ℕ} (g : Updating r cs xs₀ i xs) where
  loop-ran : {ys : List ℕ} {x : Checked (Unit {0})} → Ran (fold_checked (turn_at r cs) (decode xs₀) (range 0 (length (decode xs₀)))) ys x → Ran (update_effective_balances r cs (decode xs₀)) ys x
  loop-ran h = rw (loop-is r cs (decode xs₀) (sym (length-decode (length cs) xs₀ g.turns.begun))) at h

  pub all-updated : length cs ≤ i → Ran (update_effective_balances r cs (decode xs₀)) xs (value tt)
  all-updated l = loop-ran (iterated-all g.turns l)

  pub next-ten : i < length cs → length (entry_at xs i) ≡ 10
  next-ten l = entry-ten (length cs) xs i g.turns.long l

  module _ (l : i < length cs) {e : List ℕ} {x : Checked (Unit {0})} (h : Settles (update_effective_balance r (get_or cs i 0)) (entry_at xs i) e x) where
    ran : Ran (turn_at r cs (decode xs) i) (put_at xs i e) x
    ran = ran-entry (update_effective_balance r (get_or cs i 0)) (length cs) xs i g.turns.long l h

    ten-back : length e ≡ 10
    ten-back = rw h.held

    pub one-updated : x ≡ value tt → Updating r cs xs₀ (i + 1) (put_at xs i e)
    one-updated z =
        let long = g.turns.long in
        record { turns = iterated-more g.turns l ran z (simp (length-append, length-take, length-drop) (omega (arith, ten-back))) }

    pub one-refused : {ys : List ℕ} {p : Refusal} → x ≡ refused p → Ran (update_effective_balances r cs (decode xs₀)) ys (refused p)
    one-refused z = loop-ran (iterated-stop g.turns l ran z)

-- What the step is lent, as a state
abbrev pub lent : List ℕ → List ℕ → ElectraState
lent compounding registry = lent_state (lent_finality 0 0) (decode registry) [] compounding no_churn no_deposit_numbers [] []
