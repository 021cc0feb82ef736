-- The one pass is the passes one after the other: scores and rewards; the registry's loop, which rescans the registry at each exit; activation
-- by the cut; slashings, effective balances and flags.
use mathlib.Core.Path.{◌≡◌, refl, ap, ◌∙◌}
use mathlib.Core.Bool.{Bool, true, false, cond}
use mathlib.Core.List.{List, [], ◌∷◌}
use Prim.Native.Nat.{ℕ, suc, ◌+◌, ◌-◌, ◌<◌}
use native.Mathlib.Omega.{arith}
use lib.ListN.{length, get_or, set, take}
use Rattle.definitions.specs.declared.Settings.{Settings}
use Rattle.definitions.specs.Lists.{filter}
use Rattle.definitions.specs.Record.{Validator, nobody}
use Rattle.definitions.specs.Checked.{Checked, value, refused, bind, map_checked}
use Rattle.laws.proofs.Checked.{Bound, bound, value_same}
use Rattle.arithmetic.proofs.Operations.{OnlyOverflow, only-value, only-bind}
use Rattle.laws.specs.Queue.{map_below}
use Rattle.laws.specs.Cut.{count, queued_at, admit_one, admitted_at, admitted}
use Rattle.definitions.specs.declared.ExitQueue.{ExitQueue}
use Rattle.exit_queue.specs.Queue.{Tracks, moved}
use Rattle.exit_queue.proofs.Tracks.{tracks-set}
use Rattle.registry.specs.Updates.{update_at, turn_by}
use Rattle.registry.proofs.Turns.{turn-tracked, turn-keeps}
use Rattle.write_turn.specs.Sweep.{Moved, sweep, last, dropped}
use Rattle.write_turn.proofs.Sweeps.Fused.{swept_both, swept_last, paired, keeping}
use Rattle.write_turn.proofs.Sweeps.Follows.{Follows}
use Rattle.write_turn.specs.declared.Plan.{Plan}
use Rattle.write_turn.specs.Planned.{last_by}
use Rattle.write_turn.specs.declared.Course.{Course}
use Rattle.write_turn.specs.Written.{turn_with, admit_with, move_with}
use Rattle.write_steps.proofs.Only.{only-turn, only-last}

module _ (s : Settings) (epoch limit : ℕ) where
  abbrev turned : ExitQueue → Validator → Validator → Checked (Moved ExitQueue Validator)
  turned q v w = value (record { carry = moved q v w; held = w })

  -- the registry's loop by the pair, all through
  pub turns-follow : (least : ℕ) → Follows nobody (λ (vs : List Validator) (q : ExitQueue). Tracks least vs q) (update_at s epoch least limit) (turn_with s epoch limit)
  unfolding bind
  turns-follow least = record {
    agrees = λ vs q i t l. turn-tracked s epoch limit q t i l ∙ same vs q i (turn_by s epoch limit q (get_or vs i nobody));
    keeps = λ vs q i m t l e. kept vs q i m t l (bound (turn_by s epoch limit q (get_or vs i nobody)) _ e);
  }
    where
      same : (vs : List Validator) (q : ExitQueue) (i : ℕ) (m : Checked Validator) → bind m (λ w. value (set vs i w)) ≡ bind (bind m (turned q (get_or vs i nobody))) (λ m. value (set vs i m.held))
      same vs q i (value w) = refl
      same vs q i (refused p) = refl

      kept : (vs : List Validator) (q : ExitQueue) (i : ℕ) (m : Moved ExitQueue Validator) → Tracks least vs q → i < length vs → Bound (turn_by s epoch limit q (get_or vs i nobody)) (turned q (get_or vs i nobody)) m → Tracks least (set vs i m.held) m.carry
      kept vs q i m t l b =
          let e = value_same b.then in
          rw (← e) (tracks-set t i b.first l (turn-keeps s epoch limit q (get_or vs i nobody) b.first b.gave))

-- activation by the cut
module _ (epoch f bound : ℕ) where
  count_cons : (v : Validator) (vs : List Validator) → count (queued_at f bound) (v ∷ vs) ≡ cond (queued_at f bound v) 1 0 + count (queued_at f bound) vs
  unfolding filter
  count_cons v vs = go (queued_at f bound v)
    where
      go : (t : Bool) → length (cond t (v ∷ filter (queued_at f bound) vs) (filter (queued_at f bound) vs)) ≡ cond t 1 0 + length (filter (queued_at f bound) vs)
      go true = omega arith
      go false = omega arith

  admit_below : (g : ℕ → Validator → Validator) (vs : List Validator) (left : ℕ) → ((i : ℕ) (v : Validator) → g i v ≡ admit_one epoch f bound (left - count (queued_at f bound) (take i vs)) v) → sweep (admit_with epoch f bound) left vs ≡ value (record { carry = left - count (queued_at f bound) vs; held = map_below (length vs) g vs })
  unfolding sweep bind map_below filter
  admit_below g [] left h = let e : left ≡ left - 0 = omega arith in ap (λ (k : ℕ). value (record { carry = k; held = [] })) e
  admit_below g (v ∷ vs) left h =
      let all : left - 0 ≡ left = omega arith in
      let here : g 0 v ≡ admit_one epoch f bound left v = h 0 v ∙ ap (λ (k : ℕ). admit_one epoch f bound k v) all in
      let rest = admit_below (λ i. g (suc i)) vs (left - cond (queued_at f bound v) 1 0) (λ i w. h (suc i) w ∙ ap (λ (k : ℕ). admit_one epoch f bound k w) (less left (cond (queued_at f bound v) 1 0) (count (queued_at f bound) (take i vs)) (count_cons v (take i vs)))) in
      rw (rest, here, less left (cond (queued_at f bound v) 1 0) (count (queued_at f bound) vs) (count_cons v vs))
    where
      less : (left c n : ℕ) {k : ℕ} → k ≡ c + n → left - k ≡ left - c - n
      less left c n e = omega arith

  pub admit_swept : (quota : ℕ) (vs : List Validator) → sweep (admit_with epoch f bound) quota vs ≡ value (record { carry = quota - count (queued_at f bound) vs; held = admitted epoch f bound quota (length vs) vs })
  unfolding admitted admitted_at
  admit_swept quota vs = admit_below (admitted_at epoch f bound quota vs) vs quota (λ i v. refl)

-- The pass, step by step
module _ (s : Settings) (p : Plan) (t : Course) where
  abbrev pub epoch : ℕ
  epoch = p.shared.current_epoch

  abbrev pub turns : ExitQueue → List Validator → Checked (Moved ExitQueue (List Validator))
  turns = sweep (turn_with s epoch t.limit)

  abbrev pub admits : ℕ → List Validator → List Validator
  admits quota vs = admitted t.activation_epoch t.finalized_epoch t.bound quota (length vs) vs

  pub only_move : (c : ExitQueue × ℕ) (v : Validator) → OnlyOverflow (move_with s epoch t c v)
  only_move c v = only-bind (only-turn s epoch t.limit c.0 v) (λ m. only-bind (only-value _) (λ n. only-value _))

  -- from the registry with scores and rewards on
  pub moved-last : (q : ExitQueue) (quota : ℕ) (vs : List Validator) → dropped (sweep (last (move_with s epoch t) (last_by s p)) (q, quota) vs) ≡ bind (dropped (turns q vs)) (λ queued. map_checked (last_by s p) (admits quota queued))
  unfolding bind
  moved-last q quota vs =
      ap dropped (swept_last only_move (only-last s p) (q, quota) vs)
      ∙ ap (λ (m : Checked (Moved (ExitQueue × ℕ) (List Validator))). dropped (bind m (λ m. bind (map_checked (last_by s p) m.held) (keeping m.carry)))) (swept_both (only-turn s epoch t.limit) (λ left v. only-value _) (q, quota) vs)
      ∙ go (turns q vs)
    where
      ended : (c : ExitQueue × ℕ) (n : Checked (List Validator)) → dropped (bind n (keeping c)) ≡ n
      ended c (value ws) = refl
      ended c (refused r) = refl

      go : (m : Checked (Moved ExitQueue (List Validator))) → dropped (bind (bind m (λ m. bind (sweep (admit_with t.activation_epoch t.finalized_epoch t.bound) quota m.held) (paired m.carry))) (λ m. bind (map_checked (last_by s p) m.held) (keeping m.carry))) ≡ bind (dropped m) (λ queued. map_checked (last_by s p) (admits quota queued))
      go (value m) = rw (admit_swept t.activation_epoch t.finalized_epoch t.bound quota m.held) (ended _ (map_checked (last_by s p) (admits quota m.held)))
      go (refused r) = refl
