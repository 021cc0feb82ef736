-- The pair of a registry that is lent alone: what is answered at each return.
use mathlib.Core.Path.{◌≡◌, refl, sym, ap, ◌∙◌}
use mathlib.Core.Bool.{Bool, true, false, cond}
use mathlib.Core.List.{List}
use Prim.Native.Nat.{ℕ}
use Rattle.definitions.specs.declared.ExitQueue.{ExitQueue}
use Rattle.definitions.specs.declared.Refusal.{Refusal}
use Rattle.definitions.specs.declared.Refusal.TheVariants.{BadRecord}
use Rattle.definitions.specs.Lists.{every}
use Rattle.definitions.specs.Checked.{Checked, value, refused, done, bind, number_of}
use Rattle.definitions.specs.Refusals.{in_order, registry_shaped, good_registry, after_tests}
use Rattle.definitions_close.specs.QueueCalls.{queue_after, found_queue}
use Rattle.laws.proofs.Checked.{not_value, refused_same}
use Rattle.validator_exit.specs.declared.Seen.{Seen}
use Rattle.validator_exit.specs.Exits.{sees}
use Rattle.validator_exit.proofs.Tests.{pass-tested, pass-found}

abbrev none : ExitQueue
none = record { last_epoch = 0; number = 0 }

abbrev graded : Bool → Checked (Unit {0})
graded passed = cond passed (value tt) (refused BadRecord)

module _ (registry : List ℕ) where
  pub found-shape : {n : ℕ} → registry_shaped registry ≡ false → n ≡ 1 → record { refusal = n; queue = none } ≡ found_queue registry
  unfolding found_queue in_order after_tests bind queue_after every
  found-shape s e = rw (s, e)

  module _ (s : registry_shaped registry ≡ true) (epoch : ℕ) {pass : Checked Seen} (f : pass ≡ sees epoch registry) where
    pub found_record : {p : Refusal} {n : ℕ} → pass ≡ refused p → n ≡ number_of p → record { refusal = n; queue = none } ≡ found_queue registry
    unfolding found_queue in_order after_tests bind queue_after every
    found_record {p} {n} z k = go (good_registry registry) refl (sym (ap done z) ∙ pass-tested epoch registry f)
      where
        go : (b : Bool) → good_registry registry ≡ b → refused p ≡ graded b → record { refusal = n; queue = none } ≡ found_queue registry
        go true g e = absurd (not_value e)
        go false g e = rw (s, g, k, refused_same e)

    pub found-pair : {g : Seen} → pass ≡ value g → record { refusal = 0; queue = g.queue } ≡ found_queue registry
    unfolding found_queue in_order after_tests bind queue_after every
    found-pair {g} z = go (good_registry registry) refl (sym (ap done z) ∙ pass-tested epoch registry f)
      where
        go : (b : Bool) → good_registry registry ≡ b → value tt ≡ graded b → record { refusal = 0; queue = g.queue } ≡ found_queue registry
        go true q e = rw (s, q, (pass-found epoch registry f z).1)
        go false q e = absurd (not_value (sym e))
