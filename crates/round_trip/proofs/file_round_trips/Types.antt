-- What the types hold of a record that passes the tests.
use mathlib.Core.Path.{◌≡◌}
use mathlib.Core.List.{List, [], ◌∷◌}
use Prim.Native.Nat.{ℕ, ◌^◌, ◌<◌}
use native.Mathlib.Omega.{arith}
use lib.ListN.{length, get_or}
use mir.Val.{Val}
use denote.Array.{Array, each}
use denote.Builtin.{u8}
use denote.Laws.{Is}
use denote.Shadow.{shadow}
use Rattle.definitions.specs.declared.Settings.{Settings}
use Rattle.definitions.specs.declared.Checkpoint.{Checkpoint}
use Rattle.definitions.specs.declared.ExitQueue.{ExitQueue}
use Rattle.definitions.specs.contracts.Finality as F
use Rattle.definitions.specs.Checked.{value}
use Rattle.definitions.specs.Refusals.{settings_numbers}
use Rattle.definitions_file.specs.File.{Contents, write_tests}
use Rattle.refusals.proofs.Laws.{SmallSettings, good-settings, good-finality}
use Rattle.round_trip.specs.RoundTrip.{Below, TypedCheckpoint, Typed}
use Rattle.round_trip.proofs.Numbers.{below_nil, below_cons}
use Rattle.laws_file.proofs.Tests.{write_good}

-- an array of bytes in a struct
each_below : (xs : List ℕ) (us : List Val) → shadow (each ℕ u8.own_val xs us) → Below 256 xs
each_below [] [] s = below_nil
each_below [] (u ∷ us) s = absurd s
each_below (x ∷ xs) [] s = absurd s
each_below (x ∷ xs) (u ∷ us) s = below_cons s.0.1 (each_below xs us s.1)

record Root (c : Checkpoint) : Type 0 where
  long : length c.root ≡ 32
  bytes : Below 256 c.root

root : (c : Checkpoint) {vs : List Val} → Is (Array u8 32) c.root vs → Root c
root c p =
    record { long = p.1.0.1; bytes = each_below c.root p.0 p.1.1 }

-- settings, slot, bits and epochs that pass 2 and 3 fit their types
settings-below : {s : Settings} → SmallSettings s → Below (2 ^ 64) (settings_numbers s)
settings-below b =
    below_cons (omega (arith, b.slots_per_epoch))
    (below_cons (omega (arith, b.slots_per_historical_root))
    (below_cons (omega (arith, b.epochs_per_slashings_vector))
    (below_cons (omega (arith, b.effective_balance_increment))
    (below_cons (omega (arith, b.max_effective_balance))
    (below_cons (omega (arith, b.hysteresis_quotient))
    (below_cons (omega (arith, b.hysteresis_downward_multiplier))
    (below_cons (omega (arith, b.hysteresis_upward_multiplier))
    (below_cons (omega (arith, b.base_reward_factor))
    (below_cons (omega (arith, b.min_epochs_to_inactivity_penalty))
    (below_cons (omega (arith, b.inactivity_score_bias))
    (below_cons (omega (arith, b.inactivity_score_recovery_rate))
    (below_cons (omega (arith, b.inactivity_penalty_quotient_altair))
    (below_cons (omega (arith, b.proportional_slashing_multiplier_altair))
    (below_cons (omega (arith, b.max_seed_lookahead))
    (below_cons (omega (arith, b.min_validator_withdrawability_delay))
    (below_cons (omega (arith, b.ejection_balance))
    (below_cons (omega (arith, b.min_per_epoch_churn_limit)) (below_cons (omega (arith, b.churn_limit_quotient)) below_nil))))))))))))))))))

checkpoint : {c : Checkpoint} → c.epoch < 2 ^ 48 → Root c → TypedCheckpoint c
checkpoint e r = record { epoch = omega (arith, e); root = r.bytes; thirty_two = r.long }

-- bytes of a slice, and numbers
below : {n : ℕ} {xs : List ℕ} → ((i : ℕ) → get_or xs i 0 < n) → Below n xs
below each = record { each = λ i l. each i }

pub typed : (c : Contents) (q : ExitQueue) (file : List ℕ) → write_tests c q file ≡ value tt → {vs : List Val} → Is F.the_row c.finality vs → ((i : ℕ) → get_or c.registry i 0 < 2 ^ 64) → ((i : ℕ) → get_or c.roots i 0 < 256) → ((i : ℕ) → get_or c.slashings i 0 < 2 ^ 64) → Typed c
typed c q file e t registry roots slashings =
    let g = (write_good c q file e).good in
    let s = (good-settings c.settings g.settings).small in
    let f = good-finality c.finality g.finality in
    record {
      settings = settings-below s;
      slot = omega (arith, f.slot);
      bits = omega (arith, f.bits);
      previous = checkpoint f.previous (root _ t.1.1.1.1.0.1.1.1.0);
      current = checkpoint f.current (root _ t.1.1.1.1.1.0.1.1.1.0);
      finalized = checkpoint f.finalized (root _ t.1.1.1.1.1.1.0.1.1.1.0);
      registry = below registry;
      roots = below roots;
      slashings = below slashings;
    }
