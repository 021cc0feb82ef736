-- Steps 6 to 8 of a state, by what the code does of them one after the other.
use mathlib.Core.Path.{◌≡◌, refl, ap, ◌∙◌}
use mathlib.Core.List.{List}
use Prim.Native.Nat.{ℕ}
use lib.ListN.{take, drop}
use Rattle.definitions.specs.Record.{Validator}
use Rattle.definitions.specs.Checked.{Checked, value, refused, bind, add64}
use Rattle.laws.proofs.Checked.{value_same, bound}
use Rattle.arithmetic.proofs.Laws.{bind-value}
use Rattle.definitions_electra.specs.declared.ElectraRules.{ElectraRules}
use Rattle.definitions_electra.specs.Record.{ElectraState, decode_consolidations}
use Rattle.definitions_electra.specs.Document.Electra.EpochProcessing.{current_epoch_of, Queueing, Consolidating}
use Rattle.definitions_electra.specs.Evaluated.Electra.EpochProcessing.{update_effective_balances, queueing}
use Rattle.electra_consolidations.specs.Consolidations.{consolidations}
use Rattle.electra_last.specs.Moved.{Balanced, moved_by}
use Rattle.electra_steps.specs.Last.{Six, six_by, Eight, eight_by, seven_eight}
use Rattle.electra_steps.specs.Finds.{Finds}
use Rattle.electra_steps.proofs.Parted.{Least, found, left_over}
use Rattle.electra_added.specs.New.{new_updates}

-- the epoch that the seventh step goes by is the sixth's
next-is : (r : ElectraRules) (st : ElectraState) {q : Queueing} → queueing r st ≡ value q → add64 (current_epoch_of r st) 1 ≡ value q.next_epoch
unfolding queueing
next-is r st e =
    let a = bound _ _ e in
    let b = bound _ _ a.then in
    let c = bound _ _ b.then in
    let d = bound _ _ c.then in
    a.gave ∙ ap (λ (q : Queueing). value q.next_epoch) (value_same d.then)

abbrev pub ended : Checked (List Validator) → Balanced → Checked Eight
ended m b = bind m (λ xs. value (record { moved = b.moved; balanced = b.balanced; added = xs }))

-- consolidations and balances, then those added
eight_is : (r : ElectraRules) (next : ℕ) (pairs cs ds : List ℕ) (us ws : List Validator) → eight_by r next (decode_consolidations pairs) cs ds us ws ≡ bind (moved_by r next cs us pairs) (ended (update_effective_balances r ds ws))
unfolding eight_by moved_by consolidations bind
eight_is r next pairs cs ds us ws = go (consolidations next us pairs)
  where
    on : (c : Consolidating) (m : Checked (List Validator)) → bind m (λ bs. bind (update_effective_balances r ds ws) (λ xs. value (record { moved = c; balanced = bs; added = xs }))) ≡ bind (bind m (λ bs. value (record { moved = c; balanced = bs }))) (ended (update_effective_balances r ds ws))
    on c (value bs) = refl
    on c (refused p) = refl

    go : (m : Checked Consolidating) → bind m (λ c. bind (update_effective_balances r cs c.validators) (λ bs. bind (update_effective_balances r ds ws) (λ xs. value (record { moved = c; balanced = bs; added = xs })))) ≡ bind (bind m (λ c. bind (update_effective_balances r cs c.validators) (λ bs. value (record { moved = c; balanced = bs })))) (ended (update_effective_balances r ds ws))
    go (value c) = on c (update_effective_balances r cs c.validators)
    go (refused p) = refl

module _ (r : ElectraRules) (st : ElectraState) (n : ℕ) (deposits pairs : List ℕ) (f : Finds n deposits st) (queue : st.pending_consolidations ≡ decode_consolidations pairs) {x : Six} (e : six_by r st ≡ value x) where
  pub least : Least n st.compounding x.processing.registry
  least = left_over r n st.compounding st (found f) x e

  next : add64 (current_epoch_of r st) 1 ≡ value x.queueing.next_epoch
  unfolding six_by
  next =
      let a = bound _ _ e in
      let b = bound _ _ a.then in
      let c = bound _ _ b.then in
      next-is r st a.gave ∙ ap (λ (y : Six). value y.queueing.next_epoch) (value_same c.then)

  -- in the code's order
  pub seven-eight : seven_eight r n st x ≡ bind (moved_by r x.queueing.next_epoch st.compounding (take n x.processing.registry.validators) pairs) (ended (new_updates r n x))
  seven-eight =
      bind-value _ next
      ∙ rw (queue, least.front) (eight_is r x.queueing.next_epoch pairs st.compounding (drop n x.processing.registry.compounding) (take n x.processing.registry.validators) (drop n x.processing.registry.validators))
