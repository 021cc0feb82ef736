-- Pending deposits, and the steps after them by two parts of the registry: the validators of the opening, and those whom the deposits have added.
use Rattle.std.specs.Prelude.{List, ◌++◌, ℕ, take, drop}
use Rattle.definitions.specs.declared.Settings.{Settings}
use Rattle.definitions.specs.Record.{Validator}
use Rattle.definitions.specs.Checked.{Checked, value, bind, add64}
use Rattle.definitions.specs.Rules.{in_place}
use Rattle.definitions.specs.Rust.Phase0.EpochProcessing.{reset_slashings}
use Rattle.definitions.specs.Rust.Altair.EpochProcessing.{process_participation_flag_updates}
use Rattle.definitions_electra.specs.declared.ElectraRules.{ElectraRules}
use Rattle.definitions_electra.specs.Loops.{fold_until_checked}
use Rattle.definitions_electra.specs.Record.{PendingConsolidation, ElectraState, registry_of, with_altair, with_deposits, with_consolidations}
use Rattle.definitions_electra.specs.Document.Electra.EpochProcessing.{current_epoch_of, Queueing, Processing, started, deposits_stop, Consolidating, consolidations_stop}
use Rattle.definitions_electra.specs.Evaluated.Electra.EpochProcessing.{process_deposit, queueing, left_to_consume, process_consolidation, update_effective_balances}

-- the sixth

pub record Six : Type 0 where
  pub queueing : Queueing
  pub processing : Processing
  pub left : ℕ

unfoldable pub six_by : ElectraRules → ElectraState → Checked Six
six_by r st =
    bind (queueing r st) (λ q.
    bind (fold_until_checked (deposits_stop r q) (process_deposit r q) (started (registry_of st)) st.pending_deposits) (λ p.
    bind (left_to_consume q.available p) (λ left. value (record { queueing = q; processing = p; left = left }))))

abbrev pub after_six : ElectraState → Six → ElectraState
after_six st x =
    let p = x.processing in
    with_deposits p.registry x.left (drop p.next_deposit_index st.pending_deposits ++ p.deposits_to_postpone) st

-- the seventh and the eighth: those of the opening, then those added

pub record Eight : Type 0 where
  pub moved : Consolidating
  pub balanced : List Validator
  pub added : List Validator

unfoldable pub eight_by : ElectraRules → ℕ → List PendingConsolidation → List ℕ → List ℕ → List Validator → List Validator → Checked Eight
eight_by r next pairs cs ds us ws =
    bind (fold_until_checked (consolidations_stop next) process_consolidation (record { validators = us; next_pending_consolidation = 0 }) pairs) (λ c.
    bind (update_effective_balances r cs c.validators) (λ bs.
    bind (update_effective_balances r ds ws) (λ xs. value (record { moved = c; balanced = bs; added = xs }))))

-- of the n that the record opened with, and those whom the deposits added
abbrev pub seven_eight : ElectraRules → ℕ → ElectraState → Six → Checked Eight
seven_eight r n st x =
    bind (add64 (current_epoch_of r st) 1) (λ next.
    eight_by r next st.pending_consolidations (take n x.processing.registry.compounding) (drop n x.processing.registry.compounding)
    (take n x.processing.registry.validators) (drop n x.processing.registry.validators))

abbrev pub after_eight : ElectraState → Eight → ElectraState
after_eight st y =
    with_consolidations (y.balanced ++ y.added) (drop y.moved.next_pending_consolidation st.pending_consolidations) st

-- the settings with the pair in place
abbrev pub under : ElectraRules → Settings
under r = in_place r.bellatrix r.settings

-- the ninth and the tenth, which cannot refuse
abbrev pub after_ten : ElectraRules → ElectraState → ElectraState
after_ten r st =
    with_altair
    (record {
      finality = st.altair.finality;
      validators = process_participation_flag_updates st.altair.validators;
      slashings = reset_slashings (under r) st.altair.finality.slot st.altair.slashings;
      block_roots = st.altair.block_roots;
    })
    st
