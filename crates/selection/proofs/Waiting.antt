-- Those that wait, by the epochs kept of them, and the queue's cut by those epochs.
use mathlib.Core.Path.{◌≡◌, refl, sym, ap, ap₂, ◌∙◌}
use mathlib.Core.Bool.{Bool, true, false, cond, ◌&&◌, and-false}
use mathlib.Core.List.{List, [], ◌∷◌, map}
use Prim.Native.Nat.{ℕ, ◌+◌, ◌≤◌, ◌<◌, min}
use native.Mathlib.Omega.{arith}
use borrow.Author.Tests.{le-leb, le-ltb, ltb-true}
use lib.Dec.{ltb, leb, eqb}
use lib.ListN.{length}
use Rattle.definitions.specs.declared.Settings.{Settings}
use Rattle.definitions.specs.Record.{Validator, FAR_FUTURE_EPOCH}
use Rattle.definitions.specs.Updates.{with_eligibility}
use Rattle.definitions.specs.Document.Phase0.Helpers.{is_eligible_for_activation_queue, is_eligible_for_activation}
use Rattle.definitions.specs.Document.Phase0.EpochProcessing.{queue_eligible}
use Rattle.laws.specs.Cut.{count, queued_before, CutAt, eligible_now}
use Rattle.laws.proofs.ActivationQueue.Filter.{flag, count_none, count-more}
use Rattle.selection.specs.Keep.{under, waiting_since, waiting_before, Smallest, CutOf}
use Rattle.selection.proofs.Picking.{Picking, picking_all}

count_same : {A : Type 0} (p q : A → Bool) → ((x : A) → p x ≡ q x) → (xs : List A) → count p xs ≡ count q xs
count_same p q h [] = count_none p ∙ sym (count_none q)
count_same p q h (x ∷ xs) = count-more p x xs ∙ ap₂ ◌+◌ (ap flag (h x)) (count_same p q h xs) ∙ sym (count-more q x xs)

-- up to the finalized epoch, those that wait are those that are queued
queued-waiting : (f b : ℕ) → b ≤ f + 1 → (v : Validator) → queued_before f b v ≡ waiting_before b v
unfolding queued_before waiting_before is_eligible_for_activation
queued-waiting f b h v = go (eqb v.activation_epoch FAR_FUTURE_EPOCH) (ltb x b) refl
  where
    x : ℕ
    x = v.activation_eligibility_epoch

    go : (w t : Bool) → ltb x b ≡ t → ((leb x f && w) && t) ≡ (w && t)
    go w true e = rw (le-leb x f (omega (arith, ltb-true x b e))) (end w)
      where
        end : (w : Bool) → (w && true) ≡ (w && true)
        end w = refl
    go w false e = and-false (leb x f && w) ∙ sym (and-false w)

pub count-queued : (f b : ℕ) → b ≤ f + 1 → (vs : List Validator) → count (queued_before f b) vs ≡ count (waiting_before b) vs
count-queued f b h vs = count_same (queued_before f b) (waiting_before b) (queued-waiting f b h) vs

module _ (s : Settings) (epoch : ℕ) where
  -- the epoch kept of v is under a bound where v, once eligible, waits since before it
  since-waiting : (b : ℕ) → b ≤ FAR_FUTURE_EPOCH → (v : Validator) → under b (waiting_since s.max_effective_balance epoch v) ≡ waiting_before b (queue_eligible s epoch v)
  unfolding waiting_since waiting_before queue_eligible is_eligible_for_activation_queue
  since-waiting b h v = go (eqb v.activation_epoch FAR_FUTURE_EPOCH) refl (eqb x FAR_FUTURE_EPOCH && eqb v.effective_balance s.max_effective_balance)
    where
      x : ℕ
      x = v.activation_eligibility_epoch

      go : (w : Bool) → eqb v.activation_epoch FAR_FUTURE_EPOCH ≡ w → (t : Bool) → ltb (cond w (cond t (epoch + 1) x) FAR_FUTURE_EPOCH) b ≡ (eqb (cond t (with_eligibility (epoch + 1) v) v).activation_epoch FAR_FUTURE_EPOCH && ltb (cond t (with_eligibility (epoch + 1) v) v).activation_eligibility_epoch b)
      go true e true = rw e
      go true e false = rw e
      go false e true = rw (e, le-ltb FAR_FUTURE_EPOCH b h)
      go false e false = rw (e, le-ltb FAR_FUTURE_EPOCH b h)

  pub count-waiting : (b : ℕ) → b ≤ FAR_FUTURE_EPOCH → (vs : List Validator) → count (λ v. under b (waiting_since s.max_effective_balance epoch v)) vs ≡ count (waiting_before b) (eligible_now s epoch vs)
  count-waiting b h [] = count_none _ ∙ sym (count_none (waiting_before b))
  count-waiting b h (v ∷ vs) = count-more _ v vs ∙ ap₂ ◌+◌ (ap flag (since-waiting b h v)) (count-waiting b h vs) ∙ sym (count-more (waiting_before b) (queue_eligible s epoch v) (eligible_now s epoch vs))

  -- the same of the epochs themselves
  count-since : (b : ℕ) (vs : List Validator) → count (under b) (map (waiting_since s.max_effective_balance epoch) vs) ≡ count (λ v. under b (waiting_since s.max_effective_balance epoch v)) vs
  count-since b [] = count_none (under b) ∙ sym (count_none _)
  count-since b (v ∷ vs) = count-more (under b) _ _ ∙ ap₂ ◌+◌ refl (count-since b vs) ∙ sym (count-more _ v vs)

  pub smallest-kept : (vs : List Validator) {size i : ℕ} {ks : List ℕ} {p : ℕ} → Picking (map (waiting_since s.max_effective_balance epoch) vs) size i ks p → length vs ≤ i → Smallest size (eligible_now s epoch vs) ks
  smallest-kept vs {size} g l = record {
    long = g.places;
    lowest = λ b h. picking_all g (omega (arith, lib.ListN.length-map vs (waiting_since s.max_effective_balance epoch))) b h ∙ ap (min size) (count-since b vs ∙ count-waiting b h vs);
  }

-- the cut of the epochs kept is the queue's
pub cut-kept : {limit f size : ℕ} {vs : List Validator} {ks : List ℕ} {bound quota : ℕ} → Smallest size vs ks → limit ≤ size → f < FAR_FUTURE_EPOCH → CutOf limit f ks bound quota → CutAt limit f vs bound quota
cut-kept {limit} {f} {size} {vs} {ks} {bound} {quota} k l r c = record {
  reach = omega (arith, c.reach, c.below, c.past, k.lowest bound (omega (arith, c.past)), count-queued f bound c.past vs);
  enough = λ m. omega (arith, c.enough (omega arith), k.lowest (bound + 1) (omega arith), count-queued f (bound + 1) (omega arith) vs);
}
