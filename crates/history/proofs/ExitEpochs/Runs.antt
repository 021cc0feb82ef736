-- Runs for the examples, which are checked by computing.
use mathlib.Core.Path.{◌≡◌, refl}
use mathlib.Core.List.{List, [], ◌∷◌, map}
use Prim.Native.Nat.{ℕ, zero, suc, ◌+◌, ◌≤◌, ◌<◌}
use lib.ListN.{length}
use native.Mathlib.Omega.{arith}
use Rattle.definitions.specs.declared.Settings.{Settings}
use Rattle.definitions.specs.Record.{Validator, encode, decode, FAR_FUTURE_EPOCH}
use Rattle.definitions.specs.Updates.{with_balance, with_effective_balance, with_exit, with_participation}
use Rattle.definitions.specs.Checked.{code_of}
use Rattle.definitions.specs.Refusals.{after_tests, closing_buffer}
use Rattle.definitions.specs.LeafRefusals.{exit_tests}
use Rattle.definitions.specs.Rust.Phase0.Helpers.{initiate_validator_exit}
use Rattle.definitions.specs.Close.{close}
use Rattle.history.proofs.Small.{validator, record_of, call}
use Rattle.history.specs.ExitEpochs.{Event, Called, closing, exiting, Defined, event, exit_epoch, Others}

abbrev pub Run : Type 0
Run = List ((c : Called) × Defined c)

abbrev pub events : Run → List Event
events calls = map (λ c. event c.0) calls

-- a close of epoch 3, and an exit in it, of a register
abbrev pub slot : ℕ
slot = 15

abbrev pub close_of : Settings → ℕ → List Validator → (c : Called) × Defined c
close_of s n vs = let c = call s n (record_of slot 3 1 2 1 vs) in (closing c (close c), refl)

abbrev pub exit_of : Settings → ℕ → List Validator → (c : Called) × Defined c
exit_of s i vs =
    let registry = encode vs in let tests = exit_tests s slot i registry in let exit = initiate_validator_exit s slot (decode registry) i in
    (exiting s slot i registry (code_of (after_tests tests exit)) (closing_buffer encode tests exit registry registry), (refl, refl))

-- active and full; with too little, so that it is ejected; and leaving
abbrev pub full : Validator
full = validator 0 0 7 7

abbrev pub low : Validator
low = with_balance 16 (with_effective_balance 16 full)

-- once its flags are rotated
abbrev pub rotated : Validator → Validator
rotated v = with_participation v.current_epoch_participation 0 v

abbrev pub leaving : ℕ → Validator → Validator
leaving x v = with_exit x (x + 256) v

-- what others did, validator by validator
abbrev pub Follows : List Validator → List Validator → Type 0
Follows [] [] = Unit {0}
Follows [] (w ∷ ws) = (w.exit_epoch ≡ FAR_FUTURE_EPOCH) × Follows [] ws
Follows (v ∷ vs) [] = ⊥
Follows (v ∷ vs) (w ∷ ws) = (w.exit_epoch ≡ v.exit_epoch) × Follows vs ws

follows-old : (r o : List Validator) → Follows r o → (i : ℕ) → i < length r → exit_epoch o i ≡ exit_epoch r i
follows-old [] o f i l = absurd (omega arith)
follows-old (v ∷ r) [] f i l = absurd f
follows-old (v ∷ r) (w ∷ o) f zero l = f.0
follows-old (v ∷ r) (w ∷ o) f (suc i) l = follows-old r o f.1 i (omega arith)

follows-new : (r o : List Validator) → Follows r o → (i : ℕ) → length r ≤ i → i < length o → exit_epoch o i ≡ FAR_FUTURE_EPOCH
follows-new r [] f i l k = absurd (omega arith)
follows-new [] (w ∷ o) f zero l k = f.0
follows-new [] (w ∷ o) f (suc i) l k = follows-new [] o f.1 i (omega arith) (omega arith)
follows-new (v ∷ r) (w ∷ o) f zero l k = absurd (omega arith)
follows-new (v ∷ r) (w ∷ o) f (suc i) l k = follows-new r o f.1 i (omega arith) (omega arith)

pub follow : (r o : List Validator) → Follows r o → Others r o
follow r o f = record { old = follows-old r o f; new = follows-new r o f }
