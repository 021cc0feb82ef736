-- Pending deposits, pending consolidations and effective balances keep exit and withdrawable epochs of those who opened them: so who is postponed
-- is the same by the registry that they leave.
use mathlib.Core.Path.{◌≡◌, refl, sym, ap, ap₂, ◌∙◌, fun_ext}
use mathlib.Core.Bool.{Bool, true, false, cond, ◌&&◌, not}
use mathlib.Core.List.{List, [], ◌∷◌, ◌++◌, map}
use Prim.Native.Nat.{ℕ, ◌-◌, ◌%◌, ◌<◌, min}
use native.Mathlib.Omega.{arith}
use borrow.Author.Tests.{ltb-true}
use lib.Dec.{ltb}
use lib.ListN.{length, get_or, take, drop, set, get_or-map, length-map}
use lib.Seq.{map-set_same, get_or-take}
use Rattle.definitions.specs.Lists.{filter}
use Rattle.definitions.specs.Record.{Validator, is_slashed, FAR_FUTURE_EPOCH, nobody}
use Rattle.definitions.specs.Updates.{with_balance, with_effective_balance}
use Rattle.definitions.specs.Checked.{value}
use Rattle.definitions.specs.Rust.Phase0.Helpers.{increase_balance, decrease_balance}
use Rattle.laws.proofs.Checked.{value_same, bound}
use Rattle.laws.proofs.Tests.{either}
use Rattle.laws.proofs.Frame.Registry.{same-value}
use Rattle.definitions_electra.specs.declared.ElectraRules.{ElectraRules}
use Rattle.definitions_electra.specs.declared.PendingDeposit.{PendingDeposit}
use Rattle.definitions_electra.specs.Loops.{fold_until_checked}
use Rattle.definitions_electra.specs.Record.{PendingConsolidation, ElectraState, registry_of}
use Rattle.definitions_electra.specs.Document.Electra.Helpers.{get_max_effective_balance}
use Rattle.definitions_electra.specs.Document.Electra.EpochProcessing.{started, consolidated_balance, Consolidating, consolidations_stop}
use Rattle.definitions_electra.specs.Evaluated.Electra.EpochProcessing.{consolidate, process_consolidation, update_effective_balance, update_effective_balances}
use Rattle.laws_electra_close.proofs.Beside.{fold_keeps}
use Rattle.electra_deposits.specs.Alone.{is_postponed}
use Rattle.electra_deposits.specs.Written.{closing_queue}
use Rattle.electra_deposits.proofs.Postponed.{Done, kept-none, loop-done}
use Rattle.electra_steps.specs.Last.{Six, six_by, after_six, Eight, eight_by, seven_eight}
use Rattle.electra_steps.specs.Finds.{Finds}
use Rattle.electra_steps.proofs.Parted.{found, any, parted}

-- a validator without its two balances
abbrev pub unbalanced : Validator → Validator
unbalanced v = with_balance 0 (with_effective_balance 0 v)

-- Pending consolidations

consolidated : (vs : List Validator) (c : PendingConsolidation) {ws : List Validator} → consolidate vs c ≡ value ws → map unbalanced ws ≡ map unbalanced vs
unfolding consolidate increase_balance decrease_balance
consolidated vs c e =
    let source = get_or vs c.source_index nobody in
    let taken = set vs c.source_index (decrease_balance source (consolidated_balance source)) in
    let a = bound _ _ e in
    let b = bound _ _ a.gave in
    same-value unbalanced a.then
    ∙ map-set_same unbalanced taken c.target_index a.first nobody (ap unbalanced (sym (value_same b.then)))
    ∙ map-set_same unbalanced vs c.source_index (decrease_balance source (consolidated_balance source)) nobody refl

module _ (vs : List Validator) where
  record Kept (p : Consolidating) : Type 0 where
    kept : map unbalanced p.validators ≡ map unbalanced vs

  turned : (p : Consolidating) (c : PendingConsolidation) → Kept p → true ≡ true → (q : Consolidating) → process_consolidation p c ≡ value q → Kept q
  unfolding process_consolidation
  turned p c h o q =
      either Kept (is_slashed (get_or p.validators c.source_index nobody))
      (λ e. record { kept = ap (λ (t : Consolidating). map unbalanced t.validators) (sym (value_same e)) ∙ h.kept })
      (λ e.
      let a = bound _ _ e in
      record { kept = ap (λ (t : Consolidating). map unbalanced t.validators) (sym (value_same a.then)) ∙ consolidated p.validators c a.gave ∙ h.kept })

  moves_keep : (next : ℕ) (cs : List PendingConsolidation) {q : Consolidating} → fold_until_checked (consolidations_stop next) process_consolidation (record { validators = vs; next_pending_consolidation = 0 }) cs ≡ value q → map unbalanced q.validators ≡ map unbalanced vs
  moves_keep next cs {q} e = (fold_keeps (consolidations_stop next) process_consolidation Kept (λ c. true) turned _ cs (record { kept = refl }) (any cs) q e).kept

-- Effective balances

updated : (r : ElectraRules) (c : ℕ) (v : Validator) {w : Validator} → update_effective_balance r c v ≡ value w → unbalanced w ≡ unbalanced v
unfolding update_effective_balance
updated r c v {w} e =
    let a = bound _ _ e in
    let b = bound _ _ a.then in
    let d = bound _ _ b.then in
    either (λ u. unbalanced u ≡ unbalanced v) (ltb d.first v.effective_balance) (λ f. ap unbalanced (sym (value_same f)))
    (λ f.
    let g = bound _ _ f in
    ap unbalanced (sym (value_same g.then)) ∙ one (ltb g.first v.balance))
    d.then
  where
    one : (t : Bool) → unbalanced (cond t (with_effective_balance (min (v.balance - v.balance % r.settings.effective_balance_increment) (get_max_effective_balance r.electra c)) v) v) ≡ unbalanced v
    one true = refl
    one false = refl

balances_keep : (r : ElectraRules) (cs : List ℕ) (vs : List Validator) {ws : List Validator} → length cs ≡ length vs → update_effective_balances r cs vs ≡ value ws → map unbalanced ws ≡ map unbalanced vs
unfolding update_effective_balances
balances_keep r [] [] l e = same-value unbalanced e
balances_keep r (c ∷ cs) [] l e = absurd (omega (arith, l))
balances_keep r [] (v ∷ vs) l e = absurd (omega (arith, l))
balances_keep r (c ∷ cs) (v ∷ vs) l e =
    let a = bound _ _ e in
    let b = bound _ _ a.then in
    same-value unbalanced b.then ∙ ap₂ ◌∷◌ (updated r c v a.gave) (balances_keep r cs vs (omega (arith, l)) b.gave)

-- The three steps

module _ (r : ElectraRules) {n : ℕ} {deposits : List ℕ} {st : ElectraState} (f : Finds n deposits st) {x : Six} (e : six_by r st ≡ value x) where
  pub six-done : Done n st.altair.validators x.queueing (started (registry_of st)) st.pending_deposits x.processing
  unfolding six_by
  six-done =
      let a = bound _ _ e in
      let b = bound _ _ a.then in
      let c = bound _ _ b.then in
      let k = kept-none n st.altair.validators st.compounding f.validators f.credentials in
      rw (← value_same c.then) (loop-done r a.first (rw f.keys k) st.pending_deposits b.gave)

  module _ {y : Eight} (g : seven_eight r n st x ≡ value y) where
    eight-keeps : map unbalanced y.balanced ≡ map unbalanced (take n x.processing.registry.validators)
    unfolding eight_by
    eight-keeps =
        let p = parted r n st.compounding st (found f) x e in
        let front = take n x.processing.registry.validators in
        let a = bound _ _ g in
        let b = bound _ _ a.then in
        let c = bound _ _ b.then in
        let d = bound _ _ c.then in
        let m = moves_keep front a.first st.pending_consolidations b.gave in
        let l : length b.first.validators ≡ length front = sym (length-map b.first.validators unbalanced) ∙ ap length m ∙ length-map front unbalanced in
        ap (λ (t : Eight). map unbalanced t.balanced) (sym (value_same d.then)) ∙ balances_keep r _ _ (p.fits ∙ sym l) c.gave ∙ m

    -- without its balances
    at : (j : ℕ) → j < n → unbalanced (get_or y.balanced j nobody) ≡ unbalanced (get_or x.processing.registry.validators j nobody)
    at j l =
        let front = take n x.processing.registry.validators in
        sym (get_or-map unbalanced y.balanced j nobody) ∙ ap (λ (vs : List Validator). get_or vs j (unbalanced nobody)) eight-keeps ∙ get_or-map unbalanced front j nobody
        ∙ ap unbalanced (get_or-take n x.processing.registry.validators j nobody l)

    pub exits-kept : (j : ℕ) → j < n → (get_or y.balanced j nobody).exit_epoch ≡ (get_or st.altair.validators j nobody).exit_epoch
    exits-kept j l = ap (λ (v : Validator). v.exit_epoch) (at j l) ∙ six-done.kept.exits j l

    pub withdrawables-kept : (j : ℕ) → j < n → (get_or y.balanced j nobody).withdrawable_epoch ≡ (get_or st.altair.validators j nobody).withdrawable_epoch
    withdrawables-kept j l = ap (λ (v : Validator). v.withdrawable_epoch) (at j l) ∙ six-done.kept.withdrawables j l

    pub postponed-same : (next : ℕ) (d : PendingDeposit) → is_postponed n next y.balanced d ≡ is_postponed n next st.altair.validators d
    unfolding is_postponed
    postponed-same next d = go (ltb d.pubkey n) refl
      where
        go : (t : Bool) → ltb d.pubkey n ≡ t → (t && (not (ltb (get_or y.balanced d.pubkey nobody).withdrawable_epoch next) && ltb (get_or y.balanced d.pubkey nobody).exit_epoch FAR_FUTURE_EPOCH)) ≡ (t && (not (ltb (get_or st.altair.validators d.pubkey nobody).withdrawable_epoch next) && ltb (get_or st.altair.validators d.pubkey nobody).exit_epoch FAR_FUTURE_EPOCH))
        go true h = let l = ltb-true d.pubkey n h in rw (exits-kept d.pubkey l, withdrawables-kept d.pubkey l)
        go false h = refl

    -- the closing queue by that registry is the text's
    pub queue-is : closing_queue n x.queueing.next_epoch y.balanced x.processing.next_deposit_index st.pending_deposits ≡ (after_six st x).pending_deposits
    queue-is =
        let ds = st.pending_deposits in
        let i = x.processing.next_deposit_index in
        let c : six-done.count ≡ i = omega (arith, six-done.index) in
        let s : is_postponed n x.queueing.next_epoch y.balanced ≡ is_postponed n x.queueing.next_epoch st.altair.validators = fun_ext (λ d. postponed-same x.queueing.next_epoch d) in
        ap (λ (t : PendingDeposit → Bool). drop i ds ++ filter t (take i ds)) s ∙ ap (λ (t : List PendingDeposit). drop i ds ++ t) (rw (← c) (sym six-done.postponed))
