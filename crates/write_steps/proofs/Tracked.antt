-- Scores and rewards leave the exit epochs as they are, so that the pair of the opening is the pair that the registry's loop starts with.
use mathlib.Core.Path.{◌≡◌, refl, sym, ap, ◌∙◌}
use mathlib.Core.Bool.{Bool, true, false, cond, not}
use mathlib.Core.List.{List, [], ◌∷◌, map}
use Prim.Native.Nat.{ℕ}
use lib.Dec.{eqb}
use lib.ListN.{length}
use Rattle.definitions.specs.declared.Settings.{Settings}
use Rattle.definitions.specs.Lists.{filter, maximum}
use Rattle.definitions.specs.Record.{Validator, FAR_FUTURE_EPOCH}
use Rattle.definitions.specs.Checked.{value, map_checked}
use Rattle.definitions.specs.Document.Phase0.Helpers.{exit_epochs, exit_queue_churn}
use Rattle.laws.proofs.Checked.{bound, value_same}
use Rattle.definitions.specs.declared.ExitQueue.{ExitQueue}
use Rattle.exit_queue.specs.Queue.{Tracks}
use Rattle.write_turn.specs.declared.Plan.{Plan}
use Rattle.write_turn.specs.Planned.{scored_by, rewarded_by, paid_by}
use Rattle.write_turn.specs.Written.{pay_of}
use Rattle.write_steps.proofs.Kept.{bare, score-keeps, reward_keeps}
use Rattle.laws.proofs.Frame.Entries.{kept_map, Keeps}

abbrev exit : Validator → ℕ
exit v = v.exit_epoch

-- those that pass a test of h, seen by h
map-filter : {A B : Type 0} (h : A → B) (p : B → Bool) (xs : List A) → map h (filter (λ x. p (h x)) xs) ≡ filter p (map h xs)
unfolding filter
map-filter h p [] = refl
map-filter {A} {B} h p (x ∷ xs) = go (p (h x)) (map-filter h p xs)
  where
    go : (t : Bool) → map h (filter (λ x. p (h x)) xs) ≡ filter p (map h xs) → map h (cond t (x ∷ filter (λ x. p (h x)) xs) (filter (λ x. p (h x)) xs)) ≡ cond t (h x ∷ filter p (map h xs)) (filter p (map h xs))
    go true e = ap (λ (ys : List B). h x ∷ ys) e
    go false e = e

length-mapped : {A B : Type 0} (h : A → B) (xs : List A) → length (map h xs) ≡ length xs
length-mapped h [] = refl
length-mapped h (x ∷ xs) = ap Prim.Native.Nat.suc (length-mapped h xs)

module _ (vs ws : List Validator) (same : map exit ws ≡ map exit vs) where
  epochs-kept : exit_epochs ws ≡ exit_epochs vs
  epochs-kept = map-filter exit (λ e. not (eqb e FAR_FUTURE_EPOCH)) ws ∙ ap (filter (λ e. not (eqb e FAR_FUTURE_EPOCH))) same ∙ sym (map-filter exit (λ e. not (eqb e FAR_FUTURE_EPOCH)) vs)

  churn-kept : (epoch : ℕ) → exit_queue_churn epoch ws ≡ exit_queue_churn epoch vs
  churn-kept epoch =
      sym (length-mapped exit (filter (λ v. eqb v.exit_epoch epoch) ws))
      ∙ ap length (map-filter exit (λ e. eqb e epoch) ws ∙ ap (filter (λ e. eqb e epoch)) same ∙ sym (map-filter exit (λ e. eqb e epoch) vs))
      ∙ length-mapped exit (filter (λ v. eqb v.exit_epoch epoch) vs)

  pub tracks_same : {least : ℕ} {q : ExitQueue} → Tracks least vs q → Tracks least ws q
  tracks_same {least} {q} t = record { last = t.last ∙ ap (maximum least) (sym epochs-kept); number = t.number ∙ sym (churn-kept q.last_epoch); real = t.real }

module _ (s : Settings) (p : Plan) where
  -- all but balance and score
  pub pay_bare : Keeps (pay_of s p) bare
  pay_bare v w e = go (eqb p.shared.current_epoch 0) e
    where
      go : (t : Bool) → cond t (value v) (paid_by s p v) ≡ value w → bare w ≡ bare v
      go true e = ap bare (sym (value_same e))
      go false e =
          let a = bound (scored_by s p v) (rewarded_by s p) e in
          reward_keeps s _ _ _ _ _ _ a.first w a.then ∙ score-keeps s _ _ _ v a.first a.gave

  pub pay_tracked : {least : ℕ} {q : ExitQueue} (vs paid : List Validator) → Tracks least vs q → map_checked (pay_of s p) vs ≡ value paid → Tracks least paid q
  pay_tracked vs paid t e = tracks_same vs paid (kept_map (pay_of s p) exit (λ v w h. ap exit (pay_bare v w h)) vs e) t
