-- An exit by the few numbers that it reads of settings and slot, so that a step works them out once: `least` is the activation exit epoch
-- of the present epoch, `limit` the churn limit, `delay` the withdrawability delay. proofs/exits/Exits.antt: it is the Rust's exit.
use Rattle.std.specs.Prelude.{◌≡◌, cond, List, ℕ, leb, eqb, get_or, set}
use Rattle.definitions.specs.Lists.{maximum}
use Rattle.definitions.specs.Record.{Validator, FAR_FUTURE_EPOCH, nobody}
use Rattle.definitions.specs.Updates.{with_exit}
use Rattle.definitions.specs.Checked.{Checked, value, refused, bind, add64}
use Rattle.definitions.specs.declared.Refusal.{Refusal}
use Rattle.definitions.specs.Document.Phase0.Helpers.{exit_epochs, exit_queue_churn}
use Rattle.laws.specs.Ran.{Ran}

-- the latest that is taken, or the one after it where that one is full
unfoldable pub queue_epoch : ℕ → ℕ → List Validator → Checked ℕ
queue_epoch least limit vs =
    let latest = maximum least (exit_epochs vs) in
    cond (leb limit (exit_queue_churn latest vs)) (add64 latest 1) (value latest)

unfoldable pub exit_at : ℕ → ℕ → ℕ → List Validator → ℕ → Checked (List Validator)
exit_at least limit delay vs index =
    let validator = get_or vs index nobody in
    cond (eqb validator.exit_epoch FAR_FUTURE_EPOCH)
    (bind (queue_epoch least limit vs) (λ exit.
    bind (add64 exit delay) (λ withdrawable.
    value (set vs index (with_exit exit withdrawable validator)))))
    (value vs)

-- Whether it is refused, and the registry, left as lent where it is
pub record Leaves (m : Checked (List Validator)) (before after : List ℕ) (r : Checked (Unit {0})) : Type 0 where
  pub ran : Ran m after r
  pub kept : (p : Refusal) → m ≡ refused p → after ≡ before
