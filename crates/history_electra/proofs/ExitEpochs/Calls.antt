-- Closes and exits by their own definitions have the interface, and so the claim holds of every run of them.
use mathlib.Core.Path.{◌≡◌, refl, sym, ap, ◌∙◌, subst, subst₂}
use mathlib.Core.Bool.{Bool, true, false, cond, ◌&&◌}
use mathlib.Core.List.{List, [], ◌∷◌, ◌++◌, map}
use Prim.Native.Nat.{ℕ, ◌<◌}
use borrow.Author.Tests.{eqb-true}
use lib.Dec.{leb, eqb}
use lib.ListN.{length, get_or}
use lib.Seq.{get_or-set_same}
use Rattle.definitions.specs.Lists.{range}
use Rattle.definitions.specs.Record.{Validator, nobody, FAR_FUTURE_EPOCH}
use Rattle.definitions.specs.Checked.{Checked, value, refused, number_of, bind, fold_checked, code_of, settle}
use Rattle.definitions.specs.Refusals.{after_tests}
use Rattle.definitions.specs.Rust.Phase0.Helpers.{is_active_validator, is_eligible_for_activation, compute_activation_exit_epoch}
use Rattle.definitions.specs.Close.{Step, justification_step, inactivity_step, rewards_step}
use Rattle.definitions_electra.specs.declared.ElectraRules.{ElectraRules}
use Rattle.definitions_electra.specs.declared.ExitChurn.{ExitChurn}
use Rattle.definitions_electra.specs.Record.{ElectraState}
use Rattle.definitions_electra.specs.Document.Electra.Helpers.{is_eligible_for_activation_queue}
use Rattle.definitions_electra.specs.Document.Electra.EpochProcessing.{current_epoch_of, finalized_epoch_of}
use Rattle.definitions_electra.specs.Evaluated.Electra.Helpers.{get_activation_exit_churn_limit, churned, compute_exit_epoch_and_update_churn, initiate_validator_exit}
use Rattle.definitions_electra.specs.Evaluated.Electra.EpochProcessing.{update_registry_at, process_registry_updates, process_slashings, process_pending_deposits, process_pending_consolidations, process_effective_balance_updates, kept, registry_updates, slashings, pending_deposits, pending_consolidations, effective_balances, electra_step, close_up_to, process_epoch}
use Rattle.laws.proofs.Checked.{value_same, bound, not_value, number_not_zero}
use Rattle.laws.proofs.Tests.{either}
use Rattle.history_electra.specs.ExitEpochs.{Exit, accepts, exit_made, exits_from, exits_made, Called, closing, exiting, opening_of, worked, exits_of, event, ExitEpochs}
use Rattle.history_electra.proofs.ExitEpochs.EveryRun.{Chain, EachChained, every-run}

-- the exits came to a value, and lead from the one pair to the other
record Chained (m : Checked (List Exit)) (p q : ExitChurn) : Type 0 where
  exits : List Exit
  gave : m ≡ value exits
  chain : Chain p exits q

none : {p q : ExitChurn} → q ≡ p → Chained (value []) p q
none e = record { exits = []; gave = refl; chain = e }

chain-both : (es fs : List Exit) (p q r : ExitChurn) → Chain p es q → Chain q fs r → Chain p (es ++ fs) r
chain-both [] fs p q r a b = subst (λ (x : ExitChurn). Chain x fs r) a b
chain-both (e ∷ es) fs p q r a b = (a.0, a.1, chain-both es fs e.after q r a.2 b)

-- Of one validator

module _ (r : ElectraRules) (a : ElectraState) (index : ℕ) where
  abbrev stays : Bool
  stays = eqb (get_or a.altair.validators index nobody).exit_epoch FAR_FUTURE_EPOCH

  abbrev balance : ℕ
  balance = (get_or a.altair.validators index nobody).effective_balance

  abbrev slot : ℕ
  slot = a.altair.finality.slot

  left_alone : {b : ElectraState} → stays ≡ false → initiate_validator_exit r a index ≡ value b → Chained (exit_made r a index) a.churn b.churn
  unfolding initiate_validator_exit exit_made
  left_alone t e = record { exits = []; gave = rw t; chain = ap (λ (st : ElectraState). st.churn) (sym (value_same (rw t at e))) }

  abbrev one : ℕ → ℕ → ExitChurn → Exit
  one least limit after = record { balance = balance; limit = limit; least = least; before = a.churn; after = after }

  made_one : {least limit : ℕ} {after : ExitChurn} → stays ≡ true → compute_activation_exit_epoch r.settings (current_epoch_of r a) ≡ value least
      → get_activation_exit_churn_limit r slot a.altair.validators ≡ value limit → churned least limit a.churn balance ≡ value after
      → exit_made r a index ≡ value (one least limit after ∷ [])
  unfolding exit_made bind
  made_one t p q s = rw (t, p, q, s)

  -- it leaves
  record Leaves (b : ElectraState) : Type 0 where
    paid : compute_exit_epoch_and_update_churn r slot a.altair.validators a.churn balance ≡ value b.churn

  leaves : {b : ElectraState} → stays ≡ true → initiate_validator_exit r a index ≡ value b → Leaves b
  unfolding initiate_validator_exit
  leaves t e =
      let h = bound _ _ (rw t at e) in
      let k = bound _ _ h.then in
      subst Leaves (value_same k.then) (record { paid = h.gave })

  -- the validator is given the epoch that the pair then has: what `Exit` says of it is what the registry shows
  pub shown : {b : ElectraState} → stays ≡ true → initiate_validator_exit r a index ≡ value b → index < length a.altair.validators
      → (get_or b.altair.validators index nobody).exit_epoch ≡ b.churn.earliest_exit_epoch
  unfolding initiate_validator_exit
  shown t e l =
      let h = bound _ _ (rw t at e) in
      let k = bound _ _ h.then in
      subst (λ (st : ElectraState). (get_or st.altair.validators index nobody).exit_epoch ≡ st.churn.earliest_exit_epoch) (value_same k.then)
      (ap (λ (v : Validator). v.exit_epoch) (get_or-set_same a.altair.validators index _ nobody l))

  leaving : {b : ElectraState} → stays ≡ true → initiate_validator_exit r a index ≡ value b → Chained (exit_made r a index) a.churn b.churn
  unfolding compute_exit_epoch_and_update_churn
  leaving {b} t e =
      let i = bound _ _ (leaves t e).paid in
      let j = bound _ _ i.then in
      record { exits = one i.first j.first b.churn ∷ []; gave = made_one t i.gave j.gave j.then; chain = (refl, j.then, refl) }

  exit-chain : {b : ElectraState} → initiate_validator_exit r a index ≡ value b → Chained (exit_made r a index) a.churn b.churn
  exit-chain {b} e = go stays refl
    where
      go : (t : Bool) → stays ≡ t → Chained (exit_made r a index) a.churn b.churn
      go true t = leaving t e
      go false t = left_alone t e

-- The registry step

of-both : (t : Bool) {m m' : Checked ElectraState} {n n' : Checked (List Exit)} {b : ElectraState} {p : ExitChurn} → (m ≡ value b → Chained n p b.churn)
    → (m' ≡ value b → Chained n' p b.churn) → cond t m m' ≡ value b → Chained (cond t n n') p b.churn
of-both true f g e = f e
of-both false f g e = g e

module _ (r : ElectraRules) (activation : ℕ) where
  abbrev here : ElectraState → ℕ → Checked (List Exit)
  here a index =
      let v = get_or a.altair.validators index nobody in
      cond (is_eligible_for_activation_queue r.electra v) (value [])
      (cond (is_active_validator v (current_epoch_of r a) && leb v.effective_balance r.settings.ejection_balance) (exit_made r a index) (value []))

  turn-chain : (a b : ElectraState) (index : ℕ) → update_registry_at r activation a index ≡ value b → Chained (here a index) a.churn b.churn
  unfolding update_registry_at
  turn-chain a b index =
      let v = get_or a.altair.validators index nobody in
      of-both (is_eligible_for_activation_queue r.electra v) (λ e. let h = bound _ _ e in same h.then)
      (of-both (is_active_validator v (current_epoch_of r a) && leb v.effective_balance r.settings.ejection_balance) (exit-chain r a index)
      (either (λ c. Chained (value []) a.churn c.churn) (is_eligible_for_activation (finalized_epoch_of a) v) same same))
    where
      same : {c : ElectraState} → ◌≡◌ {A = Checked ElectraState} (value c) (value b) → Chained (value []) c.churn b.churn
      same e = none (ap (λ (st : ElectraState). st.churn) (sym (value_same e)))

  from-gave : (a : ElectraState) (index : ℕ) (is : List ℕ) {es fs : List Exit} {b : ElectraState} → here a index ≡ value es
      → update_registry_at r activation a index ≡ value b → exits_from r activation b is ≡ value fs → exits_from r activation a (index ∷ is) ≡ value (es ++ fs)
  unfolding exits_from bind
  from-gave a index is p q s = rw (p, q, s)

  fold_chain : (is : List ℕ) (a b : ElectraState) → fold_checked (update_registry_at r activation) a is ≡ value b
      → Chained (exits_from r activation a is) a.churn b.churn
  unfolding fold_checked exits_from
  fold_chain [] a b e = none (ap (λ (st : ElectraState). st.churn) (sym (value_same e)))
  fold_chain (index ∷ is) a b e =
      let h = bound _ _ e in
      let t = turn-chain a h.first index h.gave in
      let f = fold_chain is h.first b h.then in
      record { exits = t.exits ++ f.exits; gave = from-gave a index is t.gave h.gave f.gave; chain = chain-both t.exits f.exits a.churn h.first.churn b.churn t.chain f.chain }

registry-chain : (r : ElectraRules) (a b : ElectraState) → electra_step r a registry_updates ≡ value b
    → Chained (bind (compute_activation_exit_epoch r.settings (current_epoch_of r a)) (λ activation. exits_from r activation a (range 0 (length a.altair.validators)))) a.churn b.churn
unfolding electra_step process_registry_updates bind
registry-chain r a b e = go (compute_activation_exit_epoch r.settings (current_epoch_of r a)) e
  where
    go : (m : Checked ℕ) → bind m (λ activation. fold_checked (update_registry_at r activation) a (range 0 (length a.altair.validators))) ≡ value b
        → Chained (bind m (λ activation. exits_from r activation a (range 0 (length a.altair.validators)))) a.churn b.churn
    go (value activation) e = fold_chain r activation (range 0 (length a.altair.validators)) a b e
    go (refused p) e = absurd (not_value e)

-- Every other step leaves the pair

abbrev Pair : ElectraState → ElectraState → Type 0
Pair a b = b.churn ≡ a.churn

pair : {c b : ElectraState} → ◌≡◌ {A = Checked ElectraState} (value c) (value b) → Pair c b
pair e = ap (λ (st : ElectraState). st.churn) (sym (value_same e))

kept_pair : (r : ElectraRules) (a b : ElectraState) (k : Step) → electra_step r a (kept k) ≡ value b → Pair a b
unfolding electra_step
kept_pair r a b k e = pair (bound _ _ e).then

slashings-pair : (r : ElectraRules) (a b : ElectraState) → electra_step r a slashings ≡ value b → Pair a b
unfolding electra_step process_slashings
slashings-pair r a b e = pair (bound _ _ (bound _ _ (bound _ _ (bound _ _ e).then).then).then).then

deposits-pair : (r : ElectraRules) (a b : ElectraState) → electra_step r a pending_deposits ≡ value b → Pair a b
unfolding electra_step process_pending_deposits
deposits-pair r a b e = pair (bound _ _ (bound _ _ (bound _ _ e).then).then).then

consolidations-pair : (r : ElectraRules) (a b : ElectraState) → electra_step r a pending_consolidations ≡ value b → Pair a b
unfolding electra_step process_pending_consolidations
consolidations-pair r a b e = pair (bound _ _ (bound _ _ e).then).then

balances-pair : (r : ElectraRules) (a b : ElectraState) → electra_step r a effective_balances ≡ value b → Pair a b
unfolding electra_step process_effective_balance_updates
balances-pair r a b e = pair (bound _ _ e).then

-- The close

first_three : (r : ElectraRules) (a : ElectraState) {b c d : ElectraState} → electra_step r a (kept justification_step) ≡ value b
    → electra_step r b (kept inactivity_step) ≡ value c → electra_step r c (kept rewards_step) ≡ value d → close_up_to 3 r a ≡ value d
unfolding close_up_to fold_checked bind
first_three r a p q s = rw (p, q, s)

made-is : (r : ElectraRules) (a : ElectraState) {b : ElectraState} {p q : ExitChurn} → close_up_to 3 r a ≡ value b
    → Chained (bind (compute_activation_exit_epoch r.settings (current_epoch_of r b)) (λ activation. exits_from r activation b (range 0 (length b.altair.validators)))) p q
    → Chained (exits_made r a) p q
unfolding exits_made bind
made-is r a e c = record { exits = c.exits; gave = rw e c.gave; chain = c.chain }

close-chain : (r : ElectraRules) (a e : ElectraState) → process_epoch r a ≡ value e → Chained (exits_made r a) a.churn e.churn
unfolding process_epoch close_up_to fold_checked
close-chain r a e p =
    let b1 = bound _ _ p in
    let b2 = bound _ _ b1.then in
    let b3 = bound _ _ b2.then in
    let b4 = bound _ _ b3.then in
    let b5 = bound _ _ b4.then in
    let b6 = bound _ _ b5.then in
    let b7 = bound _ _ b6.then in
    let b8 = bound _ _ b7.then in
    let b9 = bound _ _ b8.then in
    let b10 = bound _ _ b9.then in
    let before = kept_pair r b2.first b3.first _ b3.gave ∙ kept_pair r b1.first b2.first _ b2.gave ∙ kept_pair r a b1.first _ b1.gave in
    let behind = pair b10.then
    ∙ kept_pair r b9.first b10.first _ b10.gave
    ∙ kept_pair r b8.first b9.first _ b9.gave
    ∙ balances-pair r b7.first b8.first b8.gave
    ∙ consolidations-pair r b6.first b7.first b7.gave
    ∙ deposits-pair r b5.first b6.first b6.gave
    ∙ slashings-pair r b4.first b5.first b5.gave in
    made-is r a (first_three r a b1.gave b2.gave b3.gave)
    (subst₂ (Chained _) before (sym behind) (registry-chain r b3.first b4.first b4.gave))

-- Every call

accepted-call : (m : Checked ElectraState) → eqb (code_of m) 0 ≡ true → (st : ElectraState) × (m ≡ value st)
accepted-call (value st) t = (st, refl)
accepted-call (refused p) t = absurd (number_not_zero p (eqb-true (number_of p) 0 t))

call-chain : (c : Called) {st : ElectraState} → worked c ≡ value st → Chained (exits_of c) (opening_of c).churn st.churn
unfolding after_tests
call-chain (closing r tests a) e = close-chain r a _ (bound _ _ e).then
call-chain (exiting r tests a index) e = exit-chain r a index (bound _ _ e).then

chained : (c : Called) {st : ElectraState} → worked c ≡ value st → (x : Chained (exits_of c) (opening_of c).churn st.churn)
    → Chain (opening_of c).churn (settle (exits_of c) []) (settle (worked c) (opening_of c)).churn
chained c e x = rw (e, x.gave) x.chain

shaped : (c : Bool × Called) → accepts (event c) ≡ true → Chain (event c).opening (event c).exits (event c).returned
shaped c t =
    let a = accepted-call (worked c.1) t in
    let x = call-chain c.1 a.1 in
    chained c.1 a.1 x

shapes : (calls : List (Bool × Called)) → EachChained (map event calls)
shapes [] = tt
shapes (c ∷ calls) = (shaped c, shapes calls)

pub exit-epochs : ExitEpochs
exit-epochs C start calls = every-run C start (map event calls) (shapes calls)
