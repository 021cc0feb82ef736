-- What the claim reads of a registry, eligibility and activation epochs, and what the six steps but justification and registry leave of it.
use mathlib.Core.Path.{◌≡◌, refl, sym, ap, ◌∙◌}
use mathlib.Core.List.{List, map}
use Prim.Native.Nat.{ℕ}
use lib.ListN.{length, get_or, length-map, get_or-map}
use Rattle.definitions.specs.Record.{Validator, nobody}
use Rattle.definitions.specs.Updates.{with_effective_balance, with_balance, with_score, with_participation}
use Rattle.definitions.specs.Checked.{Checked, value}
use Rattle.laws.proofs.Checked.{value_same}
use Rattle.laws.proofs.Frame.Entries.{told}
use Rattle.history.proofs.Waiting.{eligibility_at, activation_at}

-- the two epochs of a validator
abbrev pub epochs : Validator → ℕ × ℕ
epochs v = (v.activation_eligibility_epoch, v.activation_epoch)

-- ws is vs, as far as number and the two epochs go
pub record Spared (vs ws : List Validator) : Type 0 where
  pub same : map epochs ws ≡ map epochs vs

pub spared_given : {vs ws : List Validator} → ◌≡◌ {A = Checked (List Validator)} (value vs) (value ws) → Spared vs ws
spared_given p = record { same = ap (map epochs) (sym (value_same p)) }

module _ {vs ws : List Validator} (a : Spared vs ws) where
  pub spared_number : length ws ≡ length vs
  spared_number = sym (length-map ws epochs) ∙ ap length a.same ∙ length-map vs epochs

  spared_at : (i : ℕ) → epochs (get_or ws i nobody) ≡ epochs (get_or vs i nobody)
  spared_at i = sym (get_or-map epochs ws i nobody) ∙ ap (λ (xs : List (ℕ × ℕ)). get_or xs i (epochs nobody)) a.same ∙ get_or-map epochs vs i nobody

  pub spared_eligibility : (i : ℕ) → eligibility_at ws i ≡ eligibility_at vs i
  spared_eligibility i = ap (λ (p : ℕ × ℕ). p.0) (spared_at i)

  pub spared_activation : (i : ℕ) → activation_at ws i ≡ activation_at vs i
  spared_activation i = ap (λ (p : ℕ × ℕ). p.1) (spared_at i)

-- a validator without what the six steps write
abbrev pub bare : Validator → Validator
bare v = with_effective_balance 0 (with_balance 0 (with_score 0 (with_participation 0 0 v)))

-- ws is vs, but for what they write
pub record Still (vs ws : List Validator) : Type 0 where
  pub same : map bare ws ≡ map bare vs

pub still_both : {us vs ws : List Validator} → Still us vs → Still vs ws → Still us ws
still_both a b = record { same = b.same ∙ a.same }

-- what reads none of it
pub still-told : {B : Type 0} (h : Validator → B) → ((v : Validator) → h (bare v) ≡ h v) → {vs ws : List Validator} → Still vs ws → map h ws ≡ map h vs
still-told h k {vs} {ws} a = told bare h k vs ws a.same

pub still_spared : {vs ws : List Validator} → Still vs ws → Spared vs ws
still_spared a = record { same = still-told epochs (λ v. refl) a }
