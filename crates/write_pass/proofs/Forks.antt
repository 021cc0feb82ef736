-- The pass of one fork, by its part of what is carried.
use mathlib.Core.Path.{◌≡◌, refl, ap, ◌∙◌}
use mathlib.Core.List.{List}
use Prim.Native.Nat.{ℕ}
use Rattle.definitions.specs.declared.Settings.{Settings}
use Rattle.definitions.specs.Checked.{Checked, value, refused, bind, done}
use Rattle.definitions.specs.declared.ExitQueue.{ExitQueue}
use Rattle.definitions.specs.Record.{Validator, encode}
use Rattle.laws.proofs.Checked.{not_value, value_same}
use Rattle.laws.specs.Ran.{Ran}
use Rattle.electra_registry.specs.declared.updates.RegistryNumbers.{RegistryNumbers}
use Rattle.write_turn.specs.Sweep.{Moved, sweep, dropped}
use Rattle.write_turn.specs.Steps.{Swept}
use Rattle.write_turn.proofs.Sweeps.Steps.{through}
use Rattle.write_turn.proofs.Sweeps.Fused.{swept_along}
use Rattle.write_turn.proofs.Sweeps.Writing.{swept_ran}
use Rattle.write_turn.specs.declared.Plan.{Plan}
use Rattle.write_turn.specs.declared.Course.{Course}
use Rattle.write_turn.specs.declared.Carry.{Carry}
use Rattle.write_turn.specs.Written.{written_with, later_with, written_by}

abbrev putting : {C D : Type 0} → (D → C) → Moved D (List Validator) → Checked (Moved C (List Validator))
putting put q = value (record { carry = put q.carry; held = q.held })

swept_part : {C D : Type 0} (part : C → D) (put : D → C) → ((d : D) → part (put d) ≡ d) → (m : Checked (Moved D (List Validator))) {xs : List ℕ} {r : Checked C} → Swept (bind m (putting put)) xs r → Swept m xs (through part r)
unfolding bind
swept_part {C} {D} part put back m {xs} {r} h = go m h
  where
    go : (m : Checked (Moved D (List Validator))) → Swept (bind m (putting put)) xs r → Swept m xs (through part r)
    go (value q) h =
        record {
          is = ap (through part) h.is ∙ ap value (back q.carry);
          held = λ p e. h.held _ refl ∙ ap (λ (k : Moved D (List Validator)). encode k.held) (value_same e);
        }
    go (refused p) h = record { is = ap (through part) h.is; held = λ p e. absurd (not_value e) }

module _ (s : Settings) (p : Plan) (t : Course) (n : RegistryNumbers) (c : Carry) (vs : List Validator) {xs : List ℕ} {r : Checked Carry} where
  pub altair-ran : Swept (sweep (written_by 0 s p t n) c vs) xs r → Ran (dropped (sweep (written_with s p t) (c.queue, c.left) vs)) xs (done {A = ExitQueue × ℕ} (through (λ d. (d.queue, d.left)) r))
  altair-ran h =
      swept_ran
      (swept_part (λ c. (c.queue, c.left)) (λ d. record { queue = d.0; left = d.1; churn = c.churn }) (λ d. refl) (sweep (written_with s p t) (c.queue, c.left) vs)
      (rw (swept_along (λ c. (c.queue, c.left)) (λ c d. record { queue = d.0; left = d.1; churn = c.churn }) (λ c d. refl) (λ c d e. refl) (λ c. refl) (written_with s p t) c vs) at h))

  pub later_swept : Swept (sweep (written_by 1 s p t n) c vs) xs r → Swept (sweep (later_with s p n) c.churn vs) xs (through (λ d. d.churn) r)
  later_swept h =
      swept_part (λ c. c.churn) (λ d. record { queue = c.queue; left = c.left; churn = d }) (λ d. refl) (sweep (later_with s p n) c.churn vs)
      (rw (swept_along (λ c. c.churn) (λ c d. record { queue = c.queue; left = c.left; churn = d }) (λ c d. refl) (λ c d e. refl) (λ c. refl) (later_with s p n) c vs) at h)
