-- What an order changes: it is an exit of one validator, or nothing, so that only exit and withdrawable epochs change.
use mathlib.Core.Path.{◌≡◌, refl, ◌∙◌}
use mathlib.Core.Bool.{Bool, true, false, cond, ◌&&◌}
use mathlib.Core.List.{List, [], ◌∷◌, map}
use Prim.Native.Nat.{ℕ, ◌<◌}
use borrow.Author.Tests.{ltb-true, eqb-true}
use lib.Dec.{ltb, eqb}
use lib.ListN.{length, get_or}
use Rattle.definitions.specs.declared.Settings.{Settings}
use Rattle.definitions.specs.Record.{Validator, nobody, FAR_FUTURE_EPOCH}
use Rattle.definitions.specs.Updates.{with_exit}
use Rattle.definitions.specs.Checked.{Checked, value, refused, settle}
use Rattle.definitions.specs.declared.Refusal.TheVariants.{NoExit, TooEarly}
use Rattle.definitions.specs.Rust.Phase0.Helpers.{is_active_validator, get_current_epoch, initiate_validator_exit}
use Rattle.definitions_close.specs.Orders.{Order, may_exit, is_due, process_voluntary_exit, carried_out}
use Rattle.laws.proofs.Checked.{not_value}
use Rattle.laws.proofs.Tests.{both}
use Rattle.laws.proofs.Frame.Registry.{exit-writes}

-- an order that is carried out: the exit of a validator that is known and has none yet
pub record Exits (s : Settings) (state_slot : ℕ) (vs : List Validator) (index : ℕ) (ws : List Validator) : Type 0 where
  pub known : index < length vs
  pub far : (get_or vs index nobody).exit_epoch ≡ FAR_FUTURE_EPOCH
  pub gave : initiate_validator_exit s state_slot vs index ≡ value ws

pub order-exits : (s : Settings) (state_slot period : ℕ) (vs : List Validator) (o : Order) {ws : List Validator} → process_voluntary_exit s state_slot period vs o ≡ value ws → Exits s state_slot vs o.validator ws
unfolding process_voluntary_exit may_exit
order-exits s state_slot period vs o {ws} p = go (may_exit epoch vs i) refl (is_due epoch period v o.start) p
  where
    epoch : ℕ
    epoch = get_current_epoch s state_slot

    i : ℕ
    i = o.validator

    v : Validator
    v = get_or vs i nobody

    go : (t : Bool) → may_exit epoch vs i ≡ t → (due : Bool) → cond t (cond due (initiate_validator_exit s state_slot vs i) (refused TooEarly)) (refused NoExit) ≡ value ws → Exits s state_slot vs i ws
    go true q true e =
        let a = both (ltb i (length vs) && is_active_validator v epoch) (eqb v.exit_epoch FAR_FUTURE_EPOCH) q in
        let b = both (ltb i (length vs)) (is_active_validator v epoch) a.0 in
        record { known = ltb-true i (length vs) b.0; far = eqb-true v.exit_epoch FAR_FUTURE_EPOCH a.1; gave = e }
    go true q false e = absurd (not_value e)
    go false q due e = absurd (not_value e)

-- each validator without its exit and withdrawable epoch
abbrev pub without_exit : Validator → Validator
without_exit v = with_exit 0 0 v

one-order : (s : Settings) (state_slot period : ℕ) (vs : List Validator) (o : Order) (m : Checked (List Validator)) → process_voluntary_exit s state_slot period vs o ≡ m → map without_exit (settle m vs) ≡ map without_exit vs
one-order s state_slot period vs o (value ws) p = exit-writes without_exit (λ e w v. refl) s state_slot vs o.validator (order-exits s state_slot period vs o p).gave
one-order s state_slot period vs o (refused r) p = refl

pub exits-only : (s : Settings) (state_slot period : ℕ) (vs : List Validator) (os : List Order) → map without_exit (carried_out s state_slot period vs os) ≡ map without_exit vs
unfolding carried_out
exits-only s state_slot period vs [] = refl
exits-only s state_slot period vs (o ∷ os) =
    exits-only s state_slot period (settle (process_voluntary_exit s state_slot period vs o) vs) os
    ∙ one-order s state_slot period vs o (process_voluntary_exit s state_slot period vs o) refl
