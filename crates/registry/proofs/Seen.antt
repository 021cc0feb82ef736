-- Who is queued once the turns are done: a turn writes an eligibility epoch where one becomes eligible, and an exit, which the queue does not
-- read. So the cut of the opening, those that become eligible counted as they will stand, is the cut that activation asks for.
use mathlib.Core.Logic.{⊎_elim}
use mathlib.Core.Path.{◌≡◌, refl, sym, ap, ap₂, ◌∙◌}
use mathlib.Core.Bool.{Bool, true, false, cond}
use mathlib.Core.List.{List, [], ◌∷◌, ◌++◌, map, append_assoc}
use Prim.Native.Nat.{ℕ, suc, ◌+◌, ◌<◌}
use native.Mathlib.Omega.{arith}
use lib.ListN.{length, get_or, set, length-append}
use lib.Seq.{get_or-append_seam, set-append_seam, get_or-set_same, set-set}
use Rattle.definitions.specs.declared.Settings.{Settings}
use Rattle.definitions.specs.Lists.{range}
use Rattle.definitions.specs.Record.{Validator, encode, decode, nobody}
use Rattle.definitions.specs.Updates.{with_exit}
use Rattle.definitions.specs.Checked.{Checked, value, refused, fold_checked}
use Rattle.definitions.specs.declared.Refusal.{Refusal}
use Rattle.definitions.specs.Document.Phase0.Helpers.{is_eligible_for_activation}
use Rattle.definitions.specs.Document.Phase0.EpochProcessing.{queue_eligible, is_ejected}
use Rattle.laws.proofs.Checked.{bound, value_same}
use Rattle.laws.specs.Cut.{count, queued_before, CutAt, eligible_now}
use Rattle.laws.proofs.ActivationQueue.Filter.{count_none, count-more}
use Rattle.exit_queue.specs.Exits.{exit_at}
use Rattle.exit_queue.proofs.exits.Counts.{Exited, exit_gave}
use Rattle.laws.proofs.ActivationQueue.Cuts.{cut-cuts}
use Rattle.laws.specs.Queue.{activated}
use Rattle.laws.specs.Cut.{admitted}
use Rattle.laws.specs.Ran.{Ran}
use Rattle.laws.proofs.Loops.Ran.{ran-value, ran-gave, ran-next, ran-stop}
use Rattle.registry.specs.Updates.{least_exit, update_at, updates_by}

-- h tells nothing of an exit
module _ {B : Type 0} (h : Validator → B) (keeps : (exit withdrawable : ℕ) (v : Validator) → h (with_exit exit withdrawable v) ≡ h v) (s : Settings) (epoch least limit : ℕ) where
  abbrev eligible : Validator → Validator
  eligible v = queue_eligible s epoch v

  -- the turn of the validator at i
  record Turned (xs : List Validator) (i : ℕ) (ws : List Validator) : Type 0 where
    pub after : Validator
    pub is : ws ≡ set xs i after
    pub same : h after ≡ h (eligible (get_or xs i nobody))

  turned : (xs : List Validator) (i : ℕ) {ws : List Validator} → i < length xs → update_at s epoch least limit xs i ≡ value ws → Turned xs i ws
  unfolding update_at
  turned xs i {ws} l q = go (is_ejected s epoch (get_or queued i nobody)) q
    where
      v : Validator
      v = eligible (get_or xs i nobody)

      queued : List Validator
      queued = set xs i v

      stays : ws ≡ queued → Turned xs i ws
      stays e = record { after = v; is = e; same = refl }

      exits : Exited least limit queued i ws → Turned xs i ws
      exits w =
          let here : get_or queued i nobody ≡ v = get_or-set_same xs i v nobody l in
          record { after = with_exit w.exit w.withdrawable v; is = w.is ∙ ap (λ (u : Validator). set queued i (with_exit w.exit w.withdrawable u)) here ∙ set-set xs i v _; same = keeps w.exit w.withdrawable v }

      go : (t : Bool) → cond t (exit_at least limit s.min_validator_withdrawability_delay queued i) (value queued) ≡ value ws → Turned xs i ws
      go false q = stays (sym (value_same q))
      go true q = ⊎_elim stays exits (exit_gave least limit s.min_validator_withdrawability_delay queued i q)

  map-append : (us vs : List Validator) → map h (us ++ vs) ≡ map h us ++ map h vs
  map-append [] vs = refl
  map-append (u ∷ us) vs = ap (λ (t : List B). h u ∷ t) (map-append us vs)

  -- us have had their turns, vs have not
  turned-from : (us vs : List Validator) {ws : List Validator} → fold_checked (update_at s epoch least limit) (us ++ vs) (range (length us) (length vs)) ≡ value ws → map h ws ≡ map h us ++ map (λ v. h (eligible v)) vs
  unfolding fold_checked range
  turned-from us [] q = ap (map h) (sym (value_same q)) ∙ map-append us []
  turned-from us (v ∷ vs) {ws} q =
      let l : length us < length (us ++ (v ∷ vs)) = omega (arith, length-append us (v ∷ vs)) in
      let a = bound (update_at s epoch least limit (us ++ (v ∷ vs)) (length us)) _ q in
      let t = turned (us ++ (v ∷ vs)) (length us) l a.gave in
      let w = t.after in
      let put : a.first ≡ (us ++ (w ∷ [])) ++ vs = t.is ∙ set-append_seam us v vs w ∙ sym (append_assoc us (w ∷ []) vs) in
      let long : length (us ++ (w ∷ [])) ≡ suc (length us) = omega (arith, length-append us (w ∷ [])) in
      let rest : fold_checked (update_at s epoch least limit) ((us ++ (w ∷ [])) ++ vs) (range (length (us ++ (w ∷ []))) (length vs)) ≡ value ws = rw (long, ← put) a.then in
      let here : h w ≡ h (eligible v) = t.same ∙ ap (λ (u : Validator). h (eligible u)) (get_or-append_seam us v vs nobody) in
      turned-from (us ++ (w ∷ [])) vs rest
      ∙ ap (λ (t : List B). t ++ map (λ v. h (eligible v)) vs) (map-append us (w ∷ []))
      ∙ append_assoc (map h us) (h w ∷ []) (map (λ v. h (eligible v)) vs)
      ∙ ap (λ (b : B). map h us ++ (b ∷ map (λ v. h (eligible v)) vs)) here

  turned-all : (vs : List Validator) {ws : List Validator} → fold_checked (update_at s epoch least limit) vs (range 0 (length vs)) ≡ value ws → map h ws ≡ map h (eligible_now s epoch vs)
  turned-all vs q = turned-from [] vs q ∙ both vs
    where
      both : (vs : List Validator) → map (λ v. h (eligible v)) vs ≡ map h (map (queue_eligible s epoch) vs)
      both [] = refl
      both (v ∷ vs) = ap (λ (t : List B). h (eligible v) ∷ t) (both vs)

count_by : {A : Type 0} (p : A → Bool) (xs : List A) → count p xs ≡ count (λ t. t) (map p xs)
count_by p [] = count_none p ∙ sym (count_none (λ t. t))
count_by p (x ∷ xs) = count-more p x xs ∙ ap₂ ◌+◌ refl (count_by p xs) ∙ sym (count-more (λ t. t) (p x) (map p xs))

module _ (s : Settings) (epoch least churn f : ℕ) (vs : List Validator) {ws : List Validator} (q : fold_checked (update_at s epoch least churn) vs (range 0 (length vs)) ≡ value ws) where
  queued-turned : (b : ℕ) → count (queued_before f b) ws ≡ count (queued_before f b) (eligible_now s epoch vs)
  unfolding queued_before is_eligible_for_activation
  queued-turned b = count_by (queued_before f b) ws ∙ ap (count (λ t. t)) (turned-all (queued_before f b) (λ x w v. refl) s epoch least churn vs q) ∙ sym (count_by (queued_before f b) (eligible_now s epoch vs))

  pub cut-turned : {limit bound quota : ℕ} → CutAt limit f (eligible_now s epoch vs) bound quota → CutAt limit f ws bound quota
  cut-turned {limit} {bound} {quota} c = record {
    reach = omega (arith, c.reach, queued-turned bound);
    enough = λ l. omega (arith, c.enough l, queued-turned (bound + 1));
  }

-- The code's ways through the turns and the activation, once the loop has left ys and answered r
module _ (stop : ℕ) (s : Settings) (epoch limit most f : ℕ) (xs : List ℕ) {ys : List ℕ} {r : Checked (Unit {0})} (h : Ran (fold_checked (update_at s epoch (least_exit s epoch) limit) (decode xs) (range 0 (length (decode xs)))) ys r) where
  pub updates-stop : {zs : List ℕ} {p : Refusal} → r ≡ refused p → Ran (updates_by stop s epoch limit most f (decode xs)) zs (refused p)
  unfolding updates_by
  updates-stop z = ran-stop h _ z

  pub updates-end : {zs : List ℕ} {bound quota : ℕ} → r ≡ value tt → CutAt most f (eligible_now s epoch (decode xs)) bound quota → zs ≡ encode (admitted (least_exit s epoch) f bound quota stop (decode ys)) → Ran (updates_by stop s epoch limit most f (decode xs)) zs (value tt)
  unfolding updates_by activated
  updates-end {zs} {bound} {quota} z c e =
      let cut = cut-cuts (cut-turned s epoch (least_exit s epoch) limit f (decode xs) (ran-gave h z) c) in
      ran-next h _ z (ran-value (e ∙ ap encode (cut.same (least_exit s epoch) stop)))
