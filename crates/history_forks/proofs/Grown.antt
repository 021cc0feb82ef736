-- Demand 3 of lists whose closes may add validators at the end, both epochs FAR: such a close is one that adds none, and then others who do.
use mathlib.Core.Path.{◌≡◌, refl, sym, ap, ◌∙◌, subst, subst₂}
use mathlib.Core.Logic.{◌≢◌}
use mathlib.Core.Bool.{Bool, true, false, cond}
use mathlib.Core.List.{List, [], ◌∷◌, ◌++◌, map, foldl-append}
use Prim.Native.Nat.{ℕ, ◌+◌, ◌/◌, ◌≤◌, ◌<◌}
use native.Mathlib.Omega.{arith}
use lib.Dec.{T, eqb}
use lib.ListN.{length, take, length-map}
use lib.Seq.{take-length}
use Rattle.definitions.specs.Lists.{filter}
use Rattle.definitions.specs.Record.{Validator, BeaconState, FAR_FUTURE_EPOCH}
use Rattle.definitions.specs.Updates.{with_validators}
use Rattle.history.specs.Events.{activation, waits, k, Others, Event, accepts, accepted, after, standing, Least, Premises, Claim}
use Rattle.history.proofs.Waiting.{finalized}
use Rattle.history.proofs.Shape.{EventShape, EachShaped}
use Rattle.history.proofs.OneClose.{Justified}
use Rattle.history.proofs.Premises.{Handed, Rising, Ordered, AtMost, through, met, least, at_most}
use Rattle.history.proofs.EveryList.{claim}
use Rattle.history_forks.proofs.Order.{Each}

-- e, without those whom it added
abbrev pub first : Event → Event
first e =
    record {
      opening = e.opening;
      returned = with_validators (take (length e.opening.validators) e.returned.validators) e.returned;
      refusal = e.refusal;
      epoch = e.epoch;
      lookahead = e.lookahead;
      churn = e.churn;
      others_stay = e.others_stay;
    }

-- a refused close, before which others have added them
abbrev second : Event → Event
second e = record { opening = e.returned; returned = e.returned; refusal = 1; epoch = 0; lookahead = 0; churn = 0; others_stay = true }

-- an accepted event
pub record Grown (e : Event) : Type 0 where
  pub shape : EventShape e.churn (first e)
  pub added : Others (first e).returned e.returned

-- one that adds none
pub none-added : (e : Event) → EventShape e.churn e → Grown e
none-added e x = record { shape = subst (λ (vs : List Validator). EventShape e.churn (returning vs)) (sym same) x; added = rw same here }
  where
    returning : List Validator → Event
    returning vs =
        record {
          opening = e.opening;
          returned = with_validators vs e.returned;
          refusal = e.refusal;
          epoch = e.epoch;
          lookahead = e.lookahead;
          churn = e.churn;
          others_stay = e.others_stay;
        }

    same : take (length e.opening.validators) e.returned.validators ≡ e.returned.validators
    same = ap (λ (n : ℕ). take n e.returned.validators) (sym x.registry.number) ∙ take-length e.returned.validators

    here : Others e.returned e.returned
    here = record { previous = refl; current = refl; final = refl; more = omega arith; old = λ i l. (refl, refl); new = λ i l m. absurd (omega (arith, l, m)) }

-- each accepted one, so
unfoldable split : List Event → List Event
split [] = []
split (e ∷ es) = first e ∷ cond (accepts e) (second e ∷ split es) (split es)

split-append : (xs ys : List Event) → split (xs ++ ys) ≡ split xs ++ split ys
unfolding split
split-append [] ys = refl
split-append (e ∷ xs) ys = ap (first e ∷◌) (go (accepts e) (split-append xs ys))
  where
    go : (b : Bool) → split (xs ++ ys) ≡ split xs ++ split ys → cond b (second e ∷ split (xs ++ ys)) (split (xs ++ ys)) ≡ cond b (second e ∷ split xs) (split xs) ++ split ys
    go true ih = ap (second e ∷◌) ih
    go false ih = ih

-- leaves the same standing
split-standing : (es : List Event) (r : BeaconState) → standing r (split es) ≡ standing r es
unfolding split
split-standing [] r = refl
split-standing (e ∷ es) r = go (accepts e) e.others_stay (split-standing es)
  where
    go : (b w : Bool) → ((s : BeaconState) → standing s (split es) ≡ standing s es)
        → standing (cond b (first e).returned (cond w e.opening r)) (cond b (second e ∷ split es) (split es)) ≡ standing (cond b e.returned (cond w e.opening r)) es
    go true w ih = ih e.returned
    go false w ih = ih (cond w e.opening r)

-- and accepts the same
split-accepted : (es : List Event) → accepted (split es) ≡ map first (accepted es)
unfolding split filter
split-accepted [] = refl
split-accepted (e ∷ es) = go (accepts e) (split-accepted es)
  where
    go : (b : Bool) → accepted (split es) ≡ map first (accepted es) → cond b (first e ∷ accepted (cond b (second e ∷ split es) (split es))) (accepted (cond b (second e ∷ split es) (split es))) ≡ map first (cond b (e ∷ accepted es) (accepted es))
    go true ih = ap (first e ∷◌) ih
    go false ih = ih

-- The premises

split-shaped : (es : List Event) → Each Grown es → EachShaped (split es)
unfolding split
split-shaped [] g = tt
split-shaped (e ∷ es) g = go (accepts e) refl (split-shaped es g.1)
  where
    go : (b : Bool) → accepts e ≡ b → EachShaped (split es) → (T b → EventShape e.churn (first e)) × EachShaped (cond b (second e ∷ split es) (split es))
    go true t ih = (λ _. (g.0 t).shape, (λ u. absurd u, ih))
    go false t ih = (λ u. absurd u, ih)

split-handed : (es : List Event) (r : BeaconState) → Each Grown es → Handed r es → Handed r (split es)
unfolding split
split-handed [] r g h = tt
split-handed (e ∷ es) r g h = (h.0, go (accepts e) refl e.others_stay h.1 (λ s. split-handed es s g.1))
  where
    go : (b : Bool) → accepts e ≡ b → (w : Bool) → Handed (cond b e.returned (cond w e.opening r)) es → ((s : BeaconState) → Handed s es → Handed s (split es))
        → Handed (cond b (first e).returned (cond w e.opening r)) (cond b (second e ∷ split es) (split es))
    go true t w k ih = ((g.0 t).added, ih e.returned k)
    go false t w k ih = ih (cond w e.opening r) k

map-rising : (es : List Event) → Rising es → Rising (map first es)
map-rising [] h = tt
map-rising (e ∷ []) h = tt
map-rising (e ∷ f ∷ es) h = (h.0, map-rising (f ∷ es) h.1)

map-ordered : (r : BeaconState) (es : List Event) → Ordered r es → Ordered r (map first es)
map-ordered r [] h = tt
map-ordered r (e ∷ es) h = h

map-most : (m : ℕ) (es : List Event) → AtMost m es → AtMost m (map first es)
map-most m [] h = tt
map-most m (e ∷ es) h = (h.0, map-most m es h.1)

-- those that give the activation epoch x
abbrev gives : ℕ → Event → Bool
gives x e = eqb (e.epoch + 1 + e.lookahead) x

map_gives : (x : ℕ) (es : List Event) → filter (gives x) (map first es) ≡ map first (filter (gives x) es)
unfolding filter
map_gives x [] = refl
map_gives x (e ∷ es) = go (gives x e) (map_gives x es)
  where
    go : (b : Bool) → filter (gives x) (map first es) ≡ map first (filter (gives x) es) → cond b (first e ∷ filter (gives x) (map first es)) (filter (gives x) (map first es)) ≡ map first (cond b (e ∷ filter (gives x) es) (filter (gives x) es))
    go true ih = ap (first e ∷◌) ih
    go false ih = ih

-- what is claimed of one who waits, where a stands after those that give and b later
abbrev Active : ℕ → List Event → BeaconState → BeaconState → Type 0
Active i fs a b =
    (activation a i ≢ FAR_FUTURE_EPOCH)
    × (filter (gives (activation a i)) fs ≢ [])
    × (i < length b.validators)
    × (activation b i ≡ activation a i)

active-first : (i : ℕ) (fs : List Event) (a b : BeaconState) → Active i (map first fs) a b → Active i fs a b
active-first i fs a b h = (h.0, λ z. h.1 (map_gives (activation a i) fs ∙ ap (map first) z), h.2, h.3)

module _ (m : ℕ) (start : BeaconState) (events : List Event) (g : Each Grown events) (l : Least m events) (p : Premises start events) where
  splits : Claim m start (split events)
  splits =
      let were = through start events p in
      let same = sym (split-accepted events) in
      claim m start (split events) (split-shaped events g)
      (least m (split events) l.positive (subst (AtMost m) same (map-most m (accepted events) (at_most m events l))))
      (met start (split events)
      (record {
        handed = split-handed events start g were.handed;
        rising = subst Rising same (map-rising (accepted events) were.rising);
        ordered = subst (Ordered start) same (map-ordered start (accepted events) were.ordered);
      }))

  abbrev after_two : (before since : List Event) → standing start (split before ++ split since) ≡ standing start (before ++ since)
  after_two before since = ap (standing start) (sym (split-append before since)) ∙ split-standing (before ++ since) start

  after_one : (before : List Event) (e : Event) → finalized (standing start (split before ++ first e ∷ [])) ≡ finalized (standing start (before ++ e ∷ []))
  after_one before e = rw (foldl-append after start (split before) (first e ∷ []), foldl-append after start before (e ∷ []), split-standing before start) (go (accepts e))
    where
      go : (b : Bool) → finalized (cond b (first e).returned (cond e.others_stay e.opening (standing start before))) ≡ finalized (cond b e.returned (cond e.others_stay e.opening (standing start before)))
      go true = refl
      go false = refl

  on-activation : (before since later rest : List Event) (i : ℕ) → events ≡ before ++ since ++ later ++ rest → T (waits (standing start before) i)
      → k (standing start before) i / m + 1 ≤ length (accepted since) → Active i (accepted since) (standing start (before ++ since)) (standing start (before ++ since ++ later))
  on-activation before since later rest i e t n =
      let q = split-append (before ++ since) later ∙ ap (◌++ split later) (split-append before since) in
      let s = sym (split-standing before start) in
      active-first i (accepted since) (standing start (before ++ since)) (standing start (before ++ since ++ later))
      (subst (λ (fs : List Event). Active i fs (standing start (before ++ since)) (standing start (before ++ since ++ later))) (split-accepted since)
      (subst₂ (Active i (accepted (split since))) (after_two before since) (ap (standing start) (sym q) ∙ split-standing (before ++ since ++ later) start)
      (splits.activated (split before) (split since) (split later) (split rest) i
      (ap split e ∙ split-append (before ++ since ++ later) rest ∙ ap (◌++ split rest) q)
      (subst (λ (r : BeaconState). T (waits r i)) s t)
      (omega (arith, n, ap (λ (r : BeaconState). k r i / m) s, ap length (split-accepted since), length-map (accepted since) first)))))

  on-finality : (before since later : List Event) → events ≡ before ++ since ++ later
      → (finalized (standing start before)).epoch ≤ (finalized (standing start (before ++ since))).epoch
  on-finality before since later e =
      subst₂ (λ (a b : BeaconState). (finalized a).epoch ≤ (finalized b).epoch) (split-standing before start) (after_two before since)
      (splits.kept (split before) (split since) (split later) (ap split e ∙ split-append (before ++ since) later ∙ ap (◌++ split later) (split-append before since)))

  on_change : (before later : List Event) (e : Event) → events ≡ before ++ e ∷ later → finalized (standing start (before ++ e ∷ [])) ≢ finalized (standing start before)
      → Justified e.epoch e.opening.finality (finalized (standing start (before ++ e ∷ [])))
  unfolding split
  on_change before later e q n =
      subst (Justified e.epoch e.opening.finality) (after_one before e)
      (splits.changed (split before) _ (first e) (ap split q ∙ split-append before (e ∷ later))
      (λ z. n (sym (after_one before e) ∙ z ∙ ap (λ (r : BeaconState). finalized r) (split-standing before start))))

  pub grown-claim : Claim m start events
  grown-claim = record { activated = on-activation; kept = on-finality; changed = on_change }
