-- The tests of writing: 8 after the others.
use mathlib.Core.Path.{◌≡◌, sym, ◌∙◌}
use mathlib.Core.Bool.{Bool, cond}
use mathlib.Core.List.{List, [], ◌∷◌}
use Prim.Native.Nat.{ℕ, ◌*◌, ◌/◌}
use lib.ListN.{length}
use Rattle.definitions.specs.declared.ExitQueue.{ExitQueue}
use Rattle.definitions.specs.Record.{decode}
use Rattle.std.specs.Prelude.{IsErr, IsErrAnd}
use Rattle.definitions.specs.Checked.{Checked, value, refused, bind}
use Rattle.definitions.specs.declared.Refusal.{Refusal}
use Rattle.definitions.specs.declared.Refusal.TheVariants.{WrongQueue}
use Rattle.definitions.specs.Refusals.{in_order, settings_shaped, registry_shaped, roots_shaped, slashings_shaped, length_is, good_settings, good_finality, good_registry, after_tests}
use Rattle.definitions.specs.ExitQueue.{queue_of, is_queue_of, queue_test}
use Rattle.definitions_file.specs.File.{Contents, file_length, write_tests}
use Rattle.laws.proofs.Tests.{in_order-value}
use Rattle.refusals.proofs.Answers.{refused-answers}
use Rattle.refusals.proofs.Laws.{registry-shaped}
use Rattle.exit_queue.specs.Queue.{same_queue}

abbrev pub others : Contents → List ℕ → Checked (Unit {0})
others c file =
    let s = c.settings in
    let called = file_length 2 (length c.registry / 10) s.slots_per_historical_root s.epochs_per_slashings_vector in
    let lent = roots_shaped s c.roots ∷ slashings_shaped s c.slashings ∷ length_is called file ∷ [] in
    in_order (settings_shaped s ∷ registry_shaped c.registry ∷ lent) (good_settings s ∷ []) (good_finality c.finality ∷ good_registry c.registry ∷ [])

-- `x` is what their code answered
module _ (c : Contents) (q : ExitQueue) (file : List ℕ) {x : Checked (Unit {0})} (e : x ≡ others c file) where
  pub others-refused : {r : Checked (Unit {0})} {p : Refusal} → x ≡ refused p → IsErr r × IsErrAnd r (λ q. q ≡ p) → r ≡ write_tests c q file
  unfolding write_tests after_tests
  others-refused z t = refused-answers (others c file) e (queue_test q (decode c.registry)) z t

  module _ (z : x ≡ value tt) where
    pub tens : length c.registry ≡ 10 * (length c.registry / 10)
    tens = (registry-shaped c.registry ((in_order-value _ _ _ (sym e ∙ z)).shaped 1)).long

    pub queue-tested : {own : ExitQueue} {t : Bool} → own ≡ queue_of (decode c.registry) → same_queue q own ≡ t → cond t (value tt) (refused WrongQueue) ≡ write_tests c q file
    unfolding write_tests bind queue_test is_queue_of
    queue-tested o w = let m : others c file ≡ value tt = sym e ∙ z in rw (m, ← o, w)
