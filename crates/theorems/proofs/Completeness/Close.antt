-- The whole close: equal, or parted at a row.
use mathlib.Core.Path.{◌≡◌, refl, sym, ap, ◌∙◌}
use mathlib.Core.Bool.{Bool, true, false, cond}
use mathlib.Core.List.{List, [], ◌∷◌, foldl}
use mathlib.Core.Logic.{◌⊎◌, inl, inr, ⊎_elim}
use native.Mathlib.Omega.{arith}
use lib.Dec.{eqb}
use lib.ListN.{length}
use Rattle.definitions.specs.declared.ActivationLimit.{ActivationLimit}
use Rattle.definitions.specs.declared.Settings.{Settings}
use Rattle.definitions.specs.Record.{Validator, BeaconState}
use Rattle.definitions.specs.Updates.{with_validators}
use Rattle.definitions.specs.Checked.{Checked, value, refused, bind, fold_checked}
use Rattle.definitions.specs.declared.Refusal.TheVariants.{Overflow}
use Rattle.definitions.specs.Document.Phase0.Helpers.{get_current_epoch}
use Rattle.definitions.specs.Document.Altair.EpochProcessing as document
use Rattle.definitions.specs.Close as Rust
use Rattle.definitions.specs.Close.{Step, justification_step, inactivity_step, rewards_step, registry_step, slashings_step, effective_balances_step, slashings_reset_step, participation_flags_step, steps}
use Rattle.agreement.specs.Agreement.{limited_document_step, limited_document}
use Rattle.laws.specs.Bounds.{Passed}
use Rattle.theorems.specs.Completeness.DocumentIn64Bits as in64
use Rattle.theorems.specs.Completeness.Rows.{FinalizedAhead, Row, nobody_eligible, nobody_hits, no_validators, CloseRow, at_inactivity, at_effective_balances}
use Rattle.theorems.specs.Completeness.Complete.{StepParts, NoRewardsRow, CloseParts, CompleteClose}
use Rattle.agreement.proofs.Agrees.{Agrees, IsOverflow, not_refused, value-agrees, bind-agrees}
use Rattle.agreement.proofs.Close.{each_step as agrees-step}
use Rattle.theorems.proofs.Completeness.Laws.{refused_or_parted}
use Rattle.theorems.proofs.Completeness.Agrees.{each_step}
use Rattle.theorems.proofs.Completeness.Steps.{complete-step, inactivity-refused}
use Rattle.theorems.proofs.Completeness.Kept.{kept_step}

-- where the two part, after steps that gave values
data Met (l : ActivationLimit) (s : Settings) : BeaconState → List Step → Type 0 where
  here : {st : BeaconState} {k : Step} {ks : List Step} → StepParts l s st k → Met l s st (k ∷ ks)
  later : {st st' : BeaconState} {k : Step} {ks : List Step} → Rust.limited_step l s st k ≡ value st' → Met l s st' ks → Met l s st (k ∷ ks)

along : (l : ActivationLimit) (s : Settings) (ks : List Step) (st : BeaconState) → Passed s st.finality.slot → (fold_checked (Rust.limited_step l s) st ks ≡ fold_checked (in64.limited_step l s) st ks) ⊎ Met l s st ks
unfolding fold_checked bind
along l s [] st p = inl refl
along l s (k ∷ ks) st p = go (Rust.limited_step l s st k) refl (complete-step l s st k (λ _. p)) (along l s ks)
  where
    go : (m : Checked BeaconState) → Rust.limited_step l s st k ≡ m → (Rust.limited_step l s st k ≡ in64.limited_step l s st k) ⊎ StepParts l s st k → ((st' : BeaconState) → Passed s st'.finality.slot → (fold_checked (Rust.limited_step l s) st' ks ≡ fold_checked (in64.limited_step l s) st' ks) ⊎ Met l s st' ks) → (fold_checked (Rust.limited_step l s) st (k ∷ ks) ≡ fold_checked (in64.limited_step l s) st (k ∷ ks)) ⊎ Met l s st (k ∷ ks)
    go m e (inr q) rest = inr (here q)
    go (refused r) e (inl q) rest = inl (rw (← q, e))
    go (value st') e (inl q) rest =
        ⊎_elim (λ f. inl (rw (← q, e) f)) (λ f. inr (later e f)) (rest st' (rw (kept_step l s st st' k e).slot p))

met-refused : {l : ActivationLimit} {s : Settings} {st : BeaconState} {ks : List Step} → Met l s st ks → fold_checked (Rust.limited_step l s) st ks ≡ refused Overflow
unfolding fold_checked bind
met-refused (here q) = rw q.rust
met-refused (later e m) = rw e (met-refused m)

-- The rows that a close can meet

HasRow : Step → Type 0
HasRow inactivity_step = Unit
HasRow rewards_step = Unit
HasRow effective_balances_step = Unit
HasRow justification_step = ⊥
HasRow registry_step = ⊥
HasRow slashings_step = ⊥
HasRow slashings_reset_step = ⊥
HasRow participation_flags_step = ⊥

has-row : {s : Settings} {st : BeaconState} {k : Step} → Row s st k → HasRow k
unfolding HasRow
has-row (nobody_eligible a e) = tt
has-row (nobody_hits a e f g) = tt
has-row (no_validators e p) = tt

-- inactivity keeps the finality, and so would have met the delay that rewards meets
finality-kept : (t : Bool) (vs : List Validator) (st : BeaconState) → (cond t st (with_validators vs st)).finality ≡ st.finality
finality-kept true vs st = refl
finality-kept false vs st = refl

scored-finality : (s : Settings) (st : BeaconState) → (document.process_inactivity_updates s st).finality ≡ st.finality
unfolding document.process_inactivity_updates
scored-finality s st = finality-kept (eqb (get_current_epoch s st.finality.slot) 0) _ st

pub no_rewards_row : NoRewardsRow
no_rewards_row l s st scored e (nobody_hits a _ _ _) =
    let f : scored.finality ≡ st.finality = rw ((agrees-step l s st inactivity_step).same scored e) at (scored-finality s st) in
    let b : FinalizedAhead s st = record { started = rw f at a.started; ahead = rw f at a.ahead } in
    not_refused (sym e ∙ inactivity-refused l s st b)

pub empty : (vs : List Validator) → length vs ≡ 0 → vs ≡ []
empty [] h = refl
empty (v ∷ vs) h = absurd (omega arith)

none_before : (l : ActivationLimit) (s : Settings) (st st' : BeaconState) (k : Step) → Rust.limited_step l s st k ≡ value st' → Row s st' effective_balances_step → Row s st effective_balances_step
none_before l s st st' k e (no_validators n p) = no_validators (empty st.validators (sym (kept_step l s st st' k e).validators.many ∙ ap length n)) p

-- justification knows no limit
any-limit : (l : ActivationLimit) (s : Settings) (st : BeaconState) {st' : BeaconState} → Rust.limited_step l s st justification_step ≡ value st' → Rust.step s st justification_step ≡ value st'
unfolding Rust.limited_step
any-limit l s st e = e

met-listed : (l : ActivationLimit) (s : Settings) (st : BeaconState) → Met l s st steps → CloseRow s st
unfolding HasRow
met-listed l s st (here q) = absurd (has-row q.row)
met-listed l s st (later a (here q)) = at_inactivity _ (any-limit l s st a) q.row
met-listed l s st (later a (later b (here q))) = absurd (no_rewards_row l s _ _ b q.row)
met-listed l s st (later a (later b (later c (here q)))) = absurd (has-row q.row)
met-listed l s st (later a (later b (later c (later d (here q))))) = absurd (has-row q.row)
met-listed l s st (later a (later b (later c (later d (later e (here q)))))) =
    at_effective_balances (none_before l s _ _ _ a (none_before l s _ _ _ b (none_before l s _ _ _ c (none_before l s _ _ _ d (none_before l s _ _ _ e q.row)))))
met-listed l s st (later a (later b (later c (later d (later e (later f (here q))))))) = absurd (has-row q.row)
met-listed l s st (later a (later b (later c (later d (later e (later f (later g (here q)))))))) = absurd (has-row q.row)
met-listed l s st (later a (later b (later c (later d (later e (later f (later g (later _ x)))))))) = elim x [ ]

-- The document's 64-bit close, once justification has given a value

after-justification : (l : ActivationLimit) (s : Settings) (st : BeaconState) → let later = inactivity_step ∷ rewards_step ∷ registry_step ∷ slashings_step ∷ effective_balances_step ∷ slashings_reset_step ∷ participation_flags_step ∷ [] in Agrees IsOverflow (fold_checked (in64.limited_step l s) st later) (foldl (limited_document_step l s) st later)
unfolding fold_checked
after-justification l s st =
    bind-agrees _ (each_step l s _ inactivity_step)
    (bind-agrees _ (each_step l s _ rewards_step)
    (bind-agrees _ (each_step l s _ registry_step)
    (bind-agrees _ (each_step l s _ slashings_step)
    (bind-agrees _ (each_step l s _ effective_balances_step)
    (bind-agrees _ (each_step l s _ slashings_reset_step)
    (bind-agrees _ (each_step l s _ participation_flags_step) value-agrees))))))

epoch-agrees : (l : ActivationLimit) (s : Settings) (st justified : BeaconState) → Rust.limited_step l s st justification_step ≡ value justified → Agrees IsOverflow (in64.limited_epoch l s st) (limited_document l s st)
unfolding in64.limited_epoch fold_checked bind in64.limited_step
epoch-agrees l s st justified e = rw (e, (agrees-step l s st justification_step).same justified e) (after-justification l s justified)

parted-close : (l : ActivationLimit) (s : Settings) (st : BeaconState) → Met l s st steps → (Rust.limited_epoch l s st ≡ in64.limited_epoch l s st) ⊎ CloseParts l s st
unfolding Rust.limited_epoch Rust.limited_up_to HasRow
parted-close l s st (here q) = absurd (has-row q.row)
parted-close l s st (later e m) =
    ⊎_elim (λ p. inl p) (λ p. inr (record { row = p.0; rust = met-refused (later e m); document = p.1 }))
    (refused_or_parted (in64.limited_epoch l s st) (met-refused (later e m)) (epoch-agrees l s st _ e) (λ _ _. met-listed l s st (later e m)))

pub complete-close : CompleteClose
unfolding Rust.limited_epoch Rust.limited_up_to in64.limited_epoch
complete-close l s st p = ⊎_elim (λ e. inl e) (parted-close l s st) (along l s steps st p)
