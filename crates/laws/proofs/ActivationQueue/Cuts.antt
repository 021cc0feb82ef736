-- When a cut activates exactly those with fewer than `limit` ahead.
use mathlib.Core.Path.{◌≡◌, refl, sym, ap, ap₂, ◌∙◌}
use mathlib.Core.Bool.{Bool, true, false, cond, ◌&&◌, ◌||◌}
use mathlib.Core.List.{List, [], ◌∷◌}
use Prim.Native.Nat.{ℕ, zero, suc, ◌+◌, ◌-◌, ◌≤◌, ◌<◌}
use native.Mathlib.Omega.{arith}
use borrow.Author.Tests.{lt-ltb, le-ltb, eq-eqb, ne_eqb, ltb-true, ltb-false, leb-true}
use lib.Dec.{ltb, leb, eqb}
use lib.ListN.{length, get_or, take}
use Rattle.definitions.specs.Record.{Validator, FAR_FUTURE_EPOCH, nobody}
use Rattle.definitions.specs.Updates.{with_activation}
use Rattle.definitions.specs.Document.Phase0.Helpers.{is_eligible_for_activation}
use Rattle.laws.specs.Queue.{ahead, map_below, activated_at, activated}
use Rattle.laws.specs.Cut.{queued_before, queued_at, count, admit_one, admitted_at, admitted, Cuts, CutAt}
use Rattle.laws.proofs.ActivationQueue.Filter.{first_more, first_le}
use Rattle.laws.proofs.ActivationQueue.Counts.{and_left, grows, next, ahead-is}

below-same : (stop : ℕ) (f g : ℕ → Validator → Validator) (vs : List Validator) → ((i : ℕ) → i < length vs → f i (get_or vs i nobody) ≡ g i (get_or vs i nobody)) → map_below stop f vs ≡ map_below stop g vs
unfolding map_below
below-same zero f g vs h = refl
below-same (suc stop) f g [] h = refl
below-same (suc stop) f g (v ∷ vs) h =
    ap₂ ◌∷◌ (h 0 (omega arith)) (below-same stop (λ j. f (suc j)) (λ j. g (suc j)) vs (λ i l. h (suc i) (omega arith)))

-- two tests that hold together
ltb_same : (a b c d : ℕ) → (a < b → c < d) → (c < d → a < b) → ltb a b ≡ ltb c d
ltb_same a b c d p q = go (ltb a b) refl
  where
    go : (t : Bool) → ltb a b ≡ t → t ≡ ltb c d
    go true e = sym (lt-ltb c d (p (ltb-true a b e)))
    go false e = sym (le-ltb c d (not_less (ltb c d) refl))
      where
        not_less : (t : Bool) → ltb c d ≡ t → d ≤ c
        not_less true f = absurd (omega (arith, q (ltb-true c d f), ltb-false a b e))
        not_less false f = ltb-false c d f

-- less, equal or more
by_order : {P : Type 0} (a b : ℕ) → (a < b → P) → (a ≡ b → P) → (b < a → P) → P
by_order {P} a b l e g = go (ltb a b) refl (ltb b a) refl
  where
    go : (s : Bool) → ltb a b ≡ s → (t : Bool) → ltb b a ≡ t → P
    go true p t q = l (ltb-true a b p)
    go false p true q = g (ltb-true b a q)
    go false p false q = e (omega (arith, ltb-false a b p, ltb-false b a q))

abbrev since : List Validator → ℕ → ℕ
since vs i = (get_or vs i nobody).activation_eligibility_epoch

-- what the cut says of one that is queued since e, with k before it that are queued since the bound
abbrev inside : ℕ → ℕ → ℕ → ℕ → Bool
inside bound e quota k = ltb e bound || (eqb e bound && ltb 0 (quota - k))

-- of each that is queued the cut says what the limit says
abbrev Agrees : ℕ → ℕ → List Validator → ℕ → ℕ → Type 0
Agrees limit f vs bound quota =
    (i : ℕ) → i < length vs → is_eligible_for_activation f (get_or vs i nobody) ≡ true → ltb (ahead f vs i) limit ≡ inside bound (since vs i) quota (count (queued_at f bound) (take i vs))

cuts : (limit f : ℕ) (vs : List Validator) (bound quota : ℕ) → Agrees limit f vs bound quota → Cuts limit f vs bound quota
unfolding admitted activated admitted_at activated_at admit_one queued_before queued_at
cuts limit f vs bound quota h =
    record { same = λ epoch stop. below-same stop (admitted_at epoch f bound quota vs) (activated_at epoch limit f vs) vs (λ i l. at epoch i l) }
  where
    at : (epoch i : ℕ) → i < length vs → admitted_at epoch f bound quota vs i (get_or vs i nobody) ≡ activated_at epoch limit f vs i (get_or vs i nobody)
    at epoch i l = go (is_eligible_for_activation f v) refl
      where
        v : Validator
        v = get_or vs i nobody

        here : Bool
        here = ltb 0 (quota - count (queued_at f bound) (take i vs))

        go : (w : Bool) → is_eligible_for_activation f v ≡ w → cond ((w && ltb (since vs i) bound) || ((w && eqb (since vs i) bound) && here)) (with_activation epoch v) v ≡ cond (w && ltb (ahead f vs i) limit) (with_activation epoch v) v
        go false e = refl
        go true e = rw (h i l e)

-- a validator that is queued
module _ (f : ℕ) (vs : List Validator) (i : ℕ) (l : i < length vs) (w : is_eligible_for_activation f (get_or vs i nobody) ≡ true) where
  itself : queued_at f (since vs i) (get_or vs i nobody) ≡ true
  unfolding queued_at
  itself = rw (w, eq-eqb (since vs i) (since vs i) refl)

  -- is not among those before it
  strict : count (queued_at f (since vs i)) (take i vs) + 1 ≤ count (queued_at f (since vs i)) vs
  strict = omega (arith, rw itself at (first_more (queued_at f (since vs i)) vs i nobody l), first_le (queued_at f (since vs i)) vs (i + 1))

  -- so that fewer are ahead of it than are queued since its epoch or before
  ahead-less : ahead f vs i < count (queued_before f (since vs i + 1)) vs
  ahead-less = omega (arith, strict, ahead-is f vs i, next f (since vs i) vs)

  since-final : since vs i ≤ f
  unfolding is_eligible_for_activation
  since-final = leb-true (since vs i) f (and_left (leb (since vs i) f) (eqb (get_or vs i nobody).activation_epoch FAR_FUTURE_EPOCH) w)

pub cut-cuts : {limit f bound quota : ℕ} {vs : List Validator} → CutAt limit f vs bound quota → Cuts limit f vs bound quota
cut-cuts {limit} {f} {bound} {quota} {vs} c = cuts limit f vs bound quota agrees
  where
    reach : count (queued_before f bound) vs + quota ≡ limit
    reach = c.reach

    over : bound < f → limit ≤ count (queued_before f (bound + 1)) vs
    over = c.enough

    agrees : Agrees limit f vs bound quota
    agrees i l w =
        by_order (since vs i) bound
        (λ s.
        rw (lt-ltb (since vs i) bound s)
        (lt-ltb (ahead f vs i) limit (omega (arith, ahead-less f vs i l w, grows f (since vs i + 1) bound vs (omega arith)))))
        (λ s.
        rw (le-ltb (since vs i) bound (omega arith), eq-eqb (since vs i) bound s)
        (let a : ahead f vs i ≡ count (queued_before f bound) vs + count (queued_at f bound) (take i vs) = ahead-is f vs i ∙ ap (λ (e : ℕ). count (queued_before f e) vs + count (queued_at f e) (take i vs)) s in
        ltb_same (ahead f vs i) limit 0 (quota - count (queued_at f bound) (take i vs)) (λ p. omega arith) (λ p. omega arith)))
        (λ s.
        rw (le-ltb (since vs i) bound (omega arith), ne_eqb (since vs i) bound (λ e. omega arith))
        (le-ltb (ahead f vs i) limit (omega (arith, over (omega (arith, since-final f vs i l w)), ahead-is f vs i, grows f (bound + 1) (since vs i) vs (omega arith)))))
