-- The last five, of any state that five steps may leave.
use mathlib.Core.Path.{◌≡◌, refl, sym, ap, ◌∙◌}
use mathlib.Core.Bool.{true}
use mathlib.Core.List.{List, [], ◌∷◌, ◌++◌}
use Prim.Native.Nat.{ℕ}
use lib.ListN.{length, drop}
use Rattle.definitions.specs.Lists.{all}
use Rattle.definitions.specs.Record.{Validator}
use Rattle.definitions.specs.Checked.{Checked, value, refused, bind, add64, fold_checked}
use Rattle.definitions.specs.Close.{slashings_reset_step, participation_flags_step, limited_step}
use Rattle.definitions_electra.specs.declared.ElectraRules.{ElectraRules}
use Rattle.definitions_electra.specs.declared.PendingDeposit.{PendingDeposit}
use Rattle.definitions_electra.specs.Loops.{fold_until_checked}
use Rattle.definitions_electra.specs.Record.{ElectraState, registry_of, with_deposits, with_consolidations}
use Rattle.definitions_electra.specs.Document.Electra.EpochProcessing.{current_epoch_of, Queueing, Processing, started, deposits_stop, Consolidating, consolidations_stop}
use Rattle.definitions_electra.specs.Evaluated.Electra.EpochProcessing.{ElectraStep, kept, pending_deposits, pending_consolidations, effective_balances, electra_step, process_deposit, queueing, left_to_consume, process_consolidation, update_effective_balances, process_pending_deposits, process_pending_consolidations, process_effective_balance_updates}
use Rattle.laws_electra.specs.Consolidations.{within}
use Rattle.laws_electra_close.proofs.Beside.{beside, consolidations-beside, consolidations-many}
use Rattle.laws_electra_close.proofs.Balances.{balances-split}
use Rattle.electra_first.proofs.Text.{then, bind-same, flat}
use Rattle.electra_steps.specs.Last.{six_by, after_six, Eight, eight_by, after_eight, after_ten}

pub sixth : (r : ElectraRules) (st : ElectraState) → electra_step r st pending_deposits ≡ bind (six_by r st) (λ x. value (after_six st x))
unfolding electra_step process_pending_deposits six_by bind
sixth r st = go (queueing r st)
  where
    ended : (q : Queueing) (p : Processing) (m : Checked ℕ) → bind m (λ left. value (with_deposits p.registry left (drop p.next_deposit_index st.pending_deposits ++ p.deposits_to_postpone) st)) ≡ bind (bind m (λ left. value (record { queueing = q; processing = p; left = left }))) (λ x. value (after_six st x))
    ended q p (value left) = refl
    ended q p (refused w) = refl

    looped : (q : Queueing) (m : Checked Processing) → bind m (λ p. bind (left_to_consume q.available p) (λ left. value (with_deposits p.registry left (drop p.next_deposit_index st.pending_deposits ++ p.deposits_to_postpone) st))) ≡ bind (bind m (λ p. bind (left_to_consume q.available p) (λ left. value (record { queueing = q; processing = p; left = left })))) (λ x. value (after_six st x))
    looped q (value p) = ended q p (left_to_consume q.available p)
    looped q (refused w) = refl

    go : (m : Checked Queueing) → bind m (λ q. bind (fold_until_checked (deposits_stop r q) (process_deposit r q) (started (registry_of st)) st.pending_deposits) (λ p. bind (left_to_consume q.available p) (λ left. value (with_deposits p.registry left (drop p.next_deposit_index st.pending_deposits ++ p.deposits_to_postpone) st)))) ≡ bind (bind m (λ q. bind (fold_until_checked (deposits_stop r q) (process_deposit r q) (started (registry_of st)) st.pending_deposits) (λ p. bind (left_to_consume q.available p) (λ left. value (record { queueing = q; processing = p; left = left }))))) (λ x. value (after_six st x))
    go (value q) = looped q (fold_until_checked (deposits_stop r q) (process_deposit r q) (started (registry_of st)) st.pending_deposits)
    go (refused w) = refl

pub at_once : {A B : Type 0} (a : A) (k : A → Checked B) → bind (value a) k ≡ k a
unfolding bind
at_once a k = refl

pub bind-given : {A B : Type 0} (m : Checked A) {k l : A → Checked B} → ((a : A) → m ≡ value a → k a ≡ l a) → bind m k ≡ bind m l
unfolding bind
bind-given (value a) h = h a refl
bind-given (refused p) h = refl

-- a state whose registry stands in two parts
module _ (r : ElectraRules) (st : ElectraState) (us ws : List Validator) (ks cs ds : List ℕ) (left : ℕ) (queue : List PendingDeposit) (fits : length cs ≡ length us) (placed : all (within (length us)) st.pending_consolidations ≡ true) where
  abbrev in_two : ElectraState
  in_two = with_deposits (record { validators = us ++ ws; pubkeys = ks; compounding = cs ++ ds }) left queue st

  abbrev moving : ℕ → Checked Consolidating
  moving next = fold_until_checked (consolidations_stop next) process_consolidation (record { validators = us; next_pending_consolidation = 0 }) st.pending_consolidations

  abbrev merged : Consolidating → ElectraState
  merged c = with_consolidations (c.validators ++ ws) (drop c.next_pending_consolidation st.pending_consolidations) (with_deposits (record { validators = us ++ ws; pubkeys = ks; compounding = cs ++ ds }) left queue st)

  seventh : electra_step r (with_deposits (record { validators = us ++ ws; pubkeys = ks; compounding = cs ++ ds }) left queue st) pending_consolidations ≡ bind (bind (add64 (current_epoch_of r st) 1) (λ next. fold_until_checked (consolidations_stop next) process_consolidation (record { validators = us; next_pending_consolidation = 0 }) st.pending_consolidations)) (λ c. value (merged c))
  unfolding electra_step process_pending_consolidations bind
  seventh = go (add64 (current_epoch_of r st) 1)
    where
      put : (m : Checked Consolidating) → bind (bind m (λ c. value (beside ws c))) (λ p. value (with_consolidations p.validators (drop p.next_pending_consolidation st.pending_consolidations) in_two)) ≡ bind m (λ c. value (merged c))
      put (value c) = refl
      put (refused w) = refl

      go : (m : Checked ℕ) → bind m (λ next. bind (fold_until_checked (consolidations_stop next) process_consolidation (record { validators = us ++ ws; next_pending_consolidation = 0 }) st.pending_consolidations) (λ p. value (with_consolidations p.validators (drop p.next_pending_consolidation st.pending_consolidations) in_two))) ≡ bind (bind m moving) (λ c. value (merged c))
      go (refused w) = refl
      go (value next) =
          ap (λ (m : Checked Consolidating). bind m (λ p. value (with_consolidations p.validators (drop p.next_pending_consolidation st.pending_consolidations) in_two))) (consolidations-beside (length us) ws next (record { validators = us; next_pending_consolidation = 0 }) st.pending_consolidations (record { many = refl }) placed)
          ∙ put (moving next)

  abbrev balancing : Consolidating → Checked Eight
  balancing c = bind (update_effective_balances r cs c.validators) (λ bs. bind (update_effective_balances r ds ws) (λ xs. value (record { moved = c; balanced = bs; added = xs })))

  eighth : (c : Consolidating) → length c.validators ≡ length us → electra_step r (merged c) effective_balances ≡ bind (balancing c) (λ y. value (after_eight in_two y))
  unfolding electra_step process_effective_balance_updates bind
  eighth c many = rw (balances-split r cs ds c.validators ws (fits ∙ sym many)) (go (update_effective_balances r cs c.validators) (update_effective_balances r ds ws))
    where
      go : (x y : Checked (List Validator)) → bind (bind x (λ bs. bind y (λ xs. value (bs ++ xs)))) (λ vs. value (with_consolidations vs (drop c.next_pending_consolidation st.pending_consolidations) in_two)) ≡ bind (bind x (λ bs. bind y (λ xs. value (record { moved = c; balanced = bs; added = xs })))) (λ y. value (after_eight in_two y))
      go (refused w) y = refl
      go (value bs) (refused w) = refl
      go (value bs) (value xs) = refl

  pub seventh-eighth : (ks' : List ElectraStep) → fold_checked (electra_step r) (with_deposits (record { validators = us ++ ws; pubkeys = ks; compounding = cs ++ ds }) left queue st) (pending_consolidations ∷ effective_balances ∷ ks') ≡ bind (bind (add64 (current_epoch_of r st) 1) (λ next. eight_by r next st.pending_consolidations cs ds us ws)) (λ y. fold_checked (electra_step r) (after_eight (with_deposits (record { validators = us ++ ws; pubkeys = ks; compounding = cs ++ ds }) left queue st) y) ks')
  unfolding eight_by
  seventh-eighth ks' =
      then (electra_step r) in_two pending_consolidations (effective_balances ∷ ks') (bind (add64 (current_epoch_of r st) 1) moving) merged seventh
      ∙ flat (add64 (current_epoch_of r st) 1) moving _
      ∙ bind-same (add64 (current_epoch_of r st) 1) (λ next.
      bind-given (moving next) (λ c e. then (electra_step r) (merged c) effective_balances ks' (balancing c) (after_eight in_two) (eighth c (consolidations-many (length us) ws next (record { validators = us; next_pending_consolidation = 0 }) st.pending_consolidations (record { many = refl }) placed c e).many))
      ∙ sym (flat (moving next) balancing _))
      ∙ sym (flat (add64 (current_epoch_of r st) 1) _ _)

-- the last two
pub ninth-tenth : (r : ElectraRules) (st : ElectraState) → fold_checked (electra_step r) st (kept slashings_reset_step ∷ kept participation_flags_step ∷ []) ≡ value (after_ten r st)
unfolding fold_checked electra_step limited_step bind
ninth-tenth r st = refl
