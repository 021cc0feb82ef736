-- What the activation queue sees of the registry after scores, rewards, eligibility and ejection is what it sees of the opening once those
-- that become eligible in this close have their epoch, so that the cut of that is the cut that activation asks for.
use mathlib.Core.Path.{◌≡◌, refl, sym, ap, ap₂, ◌∙◌}
use mathlib.Core.Bool.{Bool, true, false, cond, ◌&&◌}
use mathlib.Core.List.{List, [], ◌∷◌, map}
use Prim.Native.Nat.{ℕ, zero, suc, ◌+◌}
use native.Mathlib.Omega.{arith}
use lib.Dec.{ltb, eqb}
use Rattle.definitions.specs.declared.Settings.{Settings}
use Rattle.definitions.specs.Lists.{filter}
use Rattle.definitions.specs.Record.{Validator, FAR_FUTURE_EPOCH}
use Rattle.definitions.specs.Updates.{with_eligibility, with_exit}
use Rattle.definitions.specs.Checked.{value, bind, add64}
use Rattle.definitions.specs.Document.Phase0.Helpers.{is_eligible_for_activation, is_eligible_for_activation_queue}
use Rattle.definitions.specs.Document.Phase0.EpochProcessing.{queue_eligible, is_ejected}
use Rattle.laws.proofs.Checked.{bound, value_same}
use Rattle.laws.specs.Cut.{count, queued_before, Cuts, CutAt, eligible_now}
use Rattle.laws.proofs.ActivationQueue.Filter.{flag, count-more}
use Rattle.laws.proofs.ActivationQueue.Cuts.{cut-cuts}
use Rattle.definitions.specs.declared.ExitQueue.{ExitQueue}
use Rattle.exit_queue.specs.Queue.{exit_by, next_epoch}
use Rattle.registry.specs.Updates.{turn_by}
use Rattle.write_turn.specs.Sweep.{Moved, Turning, sweep}
use Rattle.write_turn.specs.declared.Plan.{Plan}
use Rattle.write_turn.specs.Written.{pay_of, turn_with}
use Rattle.write_steps.proofs.Kept.{bare}
use Rattle.write_steps.proofs.Tracked.{pay_bare}

-- nothing, or one more than the epoch since which it waits
abbrev pub seen : ℕ → Validator → ℕ
seen f v = cond (is_eligible_for_activation f v) (suc v.activation_eligibility_epoch) 0

unfoldable waits : ℕ → ℕ → Bool
waits b zero = false
waits b (suc since) = ltb since b

before-seen : (f b : ℕ) (v : Validator) → queued_before f b v ≡ waits b (seen f v)
unfolding queued_before waits
before-seen f b v = go (is_eligible_for_activation f v)
  where
    go : (t : Bool) → (t && ltb v.activation_eligibility_epoch b) ≡ waits b (cond t (suc v.activation_eligibility_epoch) 0)
    go true = refl
    go false = refl

count-seen : (f b : ℕ) (vs : List Validator) → count (queued_before f b) vs ≡ count (waits b) (map (seen f) vs)
unfolding filter
count-seen f b [] = refl
count-seen f b (v ∷ vs) =
    count-more (queued_before f b) v vs ∙ ap₂ ◌+◌ (ap flag (before-seen f b v)) (count-seen f b vs) ∙ sym (count-more (waits b) (seen f v) (map (seen f) vs))

before-kept : (f b : ℕ) (vs ws : List Validator) → map (seen f) ws ≡ map (seen f) vs → count (queued_before f b) ws ≡ count (queued_before f b) vs
before-kept f b vs ws e = count-seen f b ws ∙ ap (count (waits b)) e ∙ sym (count-seen f b vs)

pub cut-kept : {limit f bound quota : ℕ} {vs : List Validator} (ws : List Validator) → CutAt limit f vs bound quota → map (seen f) ws ≡ map (seen f) vs → Cuts limit f ws bound quota
cut-kept {limit} {f} {bound} {quota} {vs} ws c e =
    cut-cuts (record { reach = ap (λ (k : ℕ). k + quota) (before-kept f bound vs ws e) ∙ c.reach; enough = λ l. omega (arith, c.enough l, before-kept f (bound + 1) vs ws e) })

-- through a pass: what h sees afterwards is what k saw before
pub kept-sweep : {B C : Type 0} (h k : Validator → B) (g : Turning C Validator) → ((c : C) (v : Validator) (m : Moved C Validator) → g c v ≡ value m → h m.held ≡ k v) → (c : C) (vs : List Validator) {m : Moved C (List Validator)} → sweep g c vs ≡ value m → map h m.held ≡ map k vs
unfolding sweep
kept-sweep {B} {C} h k g t c [] e = ap (λ (m : Moved C (List Validator)). map h m.held) (sym (value_same e))
kept-sweep {B} {C} h k g t c (v ∷ vs) e =
    let a = bound (g c v) _ e in
    let b = bound (sweep g a.first.carry vs) _ a.then in
    ap (λ (m : Moved C (List Validator)). map h m.held) (sym (value_same b.then)) ∙ ap₂ ◌∷◌ (t c v a.first a.gave) (kept-sweep h k g t a.first.carry vs b.gave)

module _ (s : Settings) (epoch f : ℕ) where
  -- once it has its epoch, where it becomes eligible now
  abbrev pub seen_now : Validator → ℕ
  seen_now v = seen f (queue_eligible s epoch v)

  pub opening-seen : (vs : List Validator) → map seen_now vs ≡ map (seen f) (eligible_now s epoch vs)
  opening-seen [] = refl
  opening-seen (v ∷ vs) = ap (λ (t : List ℕ). seen_now v ∷ t) (opening-seen vs)

  -- it reads neither balance nor score
  bare-seen : (v : Validator) → seen_now (bare v) ≡ seen_now v
  unfolding queue_eligible is_eligible_for_activation_queue is_eligible_for_activation
  bare-seen v = go (is_eligible_for_activation_queue s v)
    where
      go : (t : Bool) → seen f (cond t (with_eligibility (epoch + 1) (bare v)) (bare v)) ≡ seen f (cond t (with_eligibility (epoch + 1) v) v)
      go true = refl
      go false = refl

  pub pay_seen : (p : Plan) (v w : Validator) → pay_of s p v ≡ value w → seen_now w ≡ seen_now v
  pay_seen p v w e = sym (bare-seen w) ∙ ap seen_now (pay_bare s p v w e) ∙ bare-seen v

  exit-seen : (limit delay : ℕ) (q : ExitQueue) (u w : Validator) → exit_by limit delay q u ≡ value w → seen f w ≡ seen f u
  unfolding exit_by is_eligible_for_activation
  exit-seen limit delay q u w e = go (eqb u.exit_epoch FAR_FUTURE_EPOCH) e
    where
      go : (t : Bool) → cond t (bind (next_epoch limit q) (λ exit. bind (add64 exit delay) (λ withdrawable. value (with_exit exit withdrawable u)))) (value u) ≡ value w → seen f w ≡ seen f u
      go true e =
          let a = bound (next_epoch limit q) _ e in
          let b = bound (add64 a.first delay) _ a.then in
          ap (seen f) (sym (value_same b.then))
      go false e = ap (seen f) (sym (value_same e))

  turn-seen : (limit : ℕ) (q : ExitQueue) (v w : Validator) → turn_by s epoch limit q v ≡ value w → seen f w ≡ seen_now v
  unfolding turn_by
  turn-seen limit q v w e = go (is_ejected s epoch (queue_eligible s epoch v)) e
    where
      go : (t : Bool) → cond t (exit_by limit s.min_validator_withdrawability_delay q (queue_eligible s epoch v)) (value (queue_eligible s epoch v)) ≡ value w → seen f w ≡ seen_now v
      go true e = exit-seen limit _ q (queue_eligible s epoch v) w e
      go false e = ap (seen f) (sym (value_same e))

  pub turns-seen : (limit : ℕ) (q : ExitQueue) (vs : List Validator) {m : Moved ExitQueue (List Validator)} → sweep (turn_with s epoch limit) q vs ≡ value m → map (seen f) m.held ≡ map seen_now vs
  turns-seen limit q vs e =
      kept-sweep (seen f) seen_now (turn_with s epoch limit) (λ q v m h. (let a = bound (turn_by s epoch limit q v) _ h in ap (λ (x : Moved ExitQueue Validator). seen f x.held) (sym (value_same a.then)) ∙ turn-seen limit q v a.first a.gave)) q vs e
