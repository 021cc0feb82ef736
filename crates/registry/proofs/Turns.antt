-- One validator's turn by the exit queue's pair: what the code's ways through it give, and that it is the rescanning turn while the pair tracks
-- the registry. The loop keeps that.
use mathlib.Core.Path.{◌≡◌, refl, sym, ap, ◌∙◌}
use mathlib.Core.Bool.{Bool, true, false, cond}
use mathlib.Core.List.{List}
use Prim.Native.Nat.{ℕ, ◌+◌, ◌*◌, ◌≤◌, ◌<◌}
use native.Mathlib.Omega.{arith}
use lib.ListN.{length, get_or, set}
use lib.Seq.{get_or-set_same, set-set}
use Rattle.definitions.specs.declared.Settings.{Settings}
use Rattle.definitions.specs.Lists.{range}
use Rattle.definitions.specs.Record.{Validator, FAR_FUTURE_EPOCH, decode_one, encode_one, decode, nobody}
use Rattle.definitions.specs.Updates.{with_eligibility}
use Rattle.definitions.specs.Checked.{Checked, value, refused, bind, done, settle, fold_checked}
use Rattle.definitions.specs.declared.Refusal.{Refusal}
use Rattle.definitions.specs.Document.Phase0.Helpers.{is_eligible_for_activation_queue}
use Rattle.definitions.specs.Document.Phase0.EpochProcessing.{queue_eligible, is_ejected}
use Rattle.laws.proofs.Checked.{value_same}
use Rattle.laws.proofs.Encode.{length-decode}
use Rattle.laws.specs.Ran.{Ran}
use Rattle.laws.proofs.Loops.Entry.{entry_at, put_at, entry-ten}
use Rattle.laws.proofs.Loops.Iterated.{Iterated, iterated-none, iterated-more, iterated-stop, iterated-all}
use Rattle.exit_queue.specs.Exits.{exit_at}
use Rattle.definitions.specs.declared.ExitQueue.{ExitQueue}
use Rattle.exit_queue.specs.Queue.{Tracks, exit_by, moved}
use Rattle.exit_queue.specs.Turns.{Exits, Turns}
use Rattle.exit_queue.proofs.Tracks.{tracks-kept, tracks-few}
use Rattle.exit_queue.proofs.Exiting.{exit-tracked, exit-keeps}
use Rattle.exit_queue.proofs.Turns.{moved_none, moved-from, turn-ran, turn-tracks}
use Rattle.registry.specs.Updates.{update_at, turn_by}

-- eligibility leaves the exit epoch as it is
eligible-exit : (s : Settings) (epoch : ℕ) (v : Validator) → (queue_eligible s epoch v).exit_epoch ≡ v.exit_epoch
unfolding queue_eligible
eligible-exit s epoch v = go (is_eligible_for_activation_queue s v)
  where
    go : (t : Bool) → (cond t (with_eligibility (epoch + 1) v) v).exit_epoch ≡ v.exit_epoch
    go true = refl
    go false = refl

module _ (s : Settings) (epoch limit : ℕ) (q : ExitQueue) where
  abbrev delay : ℕ
  delay = s.min_validator_withdrawability_delay

  abbrev eligible : Validator → Validator
  eligible v = queue_eligible s epoch v

  -- The eligibility epoch is written, and the ten numbers are e. Whether the validator is ejected is b.
  module _ (before : List ℕ) {e : List ℕ} (h : e ≡ encode_one (eligible (decode_one before))) {b : Bool} (k : b ≡ is_ejected s epoch (decode_one e)) where
    ejected : {t : Bool} → b ≡ t → is_ejected s epoch (eligible (decode_one before)) ≡ t
    ejected z = sym (ap (λ (xs : List ℕ). is_ejected s epoch (decode_one xs)) h) ∙ sym k ∙ z

    stays : b ≡ false → turn_by s epoch limit q (decode_one before) ≡ value (eligible (decode_one before))
    unfolding turn_by
    stays z = rw (ejected z)

    exits : b ≡ true → turn_by s epoch limit q (decode_one before) ≡ exit_by limit delay q (eligible (decode_one before))
    unfolding turn_by
    exits z = rw (ejected z)

    -- the pair moves the same from one who has become eligible
    moved-eligible : (m : Checked Validator) (v : Validator) → bind m (λ w. value (moved q (eligible v) w)) ≡ bind m (λ w. value (moved q v w))
    unfolding bind
    moved-eligible (value w) v = ap value (moved-from q (eligible v) v w (eligible-exit s epoch v))
    moved-eligible (refused p) v = refl

    pub turn-stays : b ≡ false → Turns (turn_by s epoch limit q) q before e (value q)
    unfolding bind
    turn-stays z =
        let v = decode_one before in
        record {
          is = rw (stays z) (ap value (sym (moved_none q v (eligible v) (eligible-exit s epoch v))));
          held = λ w g. h ∙ ap encode_one (value_same (sym (stays z) ∙ g));
        }

    pub turn-exits : b ≡ true → {after : List ℕ} {r : Checked ExitQueue} → Exits (exit_by limit delay q) q e after r → Turns (turn_by s epoch limit q) q before after r
    turn-exits z {after} {r} x =
        let v = decode_one before in
        let y : Exits (exit_by limit delay q) q (encode_one (eligible v)) after r = rw h at x in
        record {
          is = y.is ∙ moved-eligible (exit_by limit delay q (eligible v)) v ∙ sym (ap (λ (m : Checked Validator). bind m (λ w. value (moved q v w))) (exits z));
          held = λ w g. y.held ∙ ap (λ (m : Checked Validator). encode_one (settle m (eligible v))) (sym (exits z) ∙ g);
        }

  pub turn-keeps : (v w : Validator) → turn_by s epoch limit q v ≡ value w → (v.exit_epoch ≡ FAR_FUTURE_EPOCH → ⊥) → w.exit_epoch ≡ v.exit_epoch
  unfolding turn_by
  turn-keeps v w g f = go (is_ejected s epoch (eligible v)) g ∙ eligible-exit s epoch v
    where
      go : (t : Bool) → cond t (exit_by limit delay q (eligible v)) (value (eligible v)) ≡ value w → w.exit_epoch ≡ (eligible v).exit_epoch
      go true g = exit-keeps limit delay q (eligible v) w g (λ z. f (sym (eligible-exit s epoch v) ∙ z))
      go false g = ap (λ (u : Validator). u.exit_epoch) (sym (value_same g))

  pub turn-tracked : {least : ℕ} {vs : List Validator} → Tracks least vs q → (i : ℕ) → i < length vs → update_at s epoch least limit vs i ≡ bind (turn_by s epoch limit q (get_or vs i nobody)) (λ w. value (set vs i w))
  unfolding update_at turn_by bind
  turn-tracked {least} {vs} t i l = rw same (go (is_ejected s epoch u))
    where
      u : Validator
      u = eligible (get_or vs i nobody)

      same : get_or (set vs i u) i nobody ≡ u
      same = get_or-set_same vs i u nobody l

      go : (b : Bool) → cond b (exit_at least limit delay (set vs i u) i) (value (set vs i u)) ≡ bind (cond b (exit_by limit delay q u) (value u)) (λ w. value (set vs i w))
      go true = exit-tracked least limit delay (tracks-kept t i u (eligible-exit s epoch (get_or vs i nobody))) i ∙ rw same (simp set-set)
      go false = refl

-- The registry xs and the pair q after i turns that were not refused
pub record Updating (s : Settings) (epoch least limit n : ℕ) (xs₀ : List ℕ) (i : ℕ) (xs : List ℕ) (q : ExitQueue) : Type 0 where
  pub iterated : Iterated (update_at s epoch least limit) n xs₀ i xs
  pub tracked : Tracks least (decode xs) q

pub updating_none : (s : Settings) (epoch limit : ℕ) {least n : ℕ} {xs₀ : List ℕ} {q : ExitQueue} → length xs₀ ≡ 10 * n → Tracks least (decode xs₀) q → Updating s epoch least limit n xs₀ 0 xs₀ q
updating_none s epoch limit h t = record { iterated = iterated-none _ h; tracked = t }

module _ {s : Settings} {epoch least limit n : ℕ} {xs₀ : List ℕ} {i : ℕ} {xs : List ℕ} {q : ExitQueue} (g : Updating s epoch least limit n xs₀ i xs q) where
  pub updating_few : q.number ≤ n
  updating_few = let f = tracks-few g.tracked in omega (arith, length-decode n xs g.iterated.long)

  pub updating_all : n ≤ i → Ran (fold_checked (update_at s epoch least limit) (decode xs₀) (range 0 (length (decode xs₀)))) xs (value tt)
  updating_all l = iterated-all g.iterated l

  module _ (l : i < n) where
    pub updating_ten : length (entry_at xs i) ≡ 10
    updating_ten = entry-ten n xs i g.iterated.long l

    -- the part came back as e, and the answer is r
    module _ {e : List ℕ} {r : Checked ExitQueue} (h : Turns (turn_by s epoch limit q) q (entry_at xs i) e r) where
      ran : Ran (update_at s epoch least limit (decode xs) i) (put_at xs i e) (done r)
      ran =
          rw (turn-tracked s epoch limit q g.tracked i (omega (arith, length-decode n xs g.iterated.long)))
          (turn-ran (turn_by s epoch limit q) n xs i g.iterated.long l h)

      pub updating_more : {p : ExitQueue} → r ≡ value p → length (put_at xs i e) ≡ length xs → Updating s epoch least limit n xs₀ (i + 1) (put_at xs i e) p
      updating_more z k =
          record {
            iterated = iterated-more g.iterated l ran (ap done z) k;
            tracked = turn-tracks (turn_by s epoch limit q) n xs i g.iterated.long l h g.tracked (turn-keeps s epoch limit q (get_or (decode xs) i nobody)) z;
          }

      pub updating_stop : {zs : List ℕ} {p : Refusal} → r ≡ refused p → Ran (fold_checked (update_at s epoch least limit) (decode xs₀) (range 0 (length (decode xs₀)))) zs (refused p)
      updating_stop z = iterated-stop g.iterated l ran (ap done z)
