-- R-14 over every run, from what one call does to the counts, by the induction of demand 3.
use mathlib.Core.Path.{◌≡◌, sym, ap, subst}
use mathlib.Core.Bool.{Bool, true, false, cond, ◌&&◌}
use mathlib.Core.List.{List, [], ◌∷◌, ◌++◌, map, append-nil}
use Prim.Native.Nat.{ℕ, suc, max, ◌≤◌, ◌<◌}
use native.Mathlib.Omega.{arith}
use borrow.Author.Tests.{ne_eqb}
use lib.Dec.{T, leb, eqb}
use lib.ListN.{length, get_or}
use Rattle.definitions.specs.Lists.{filter, all, maximum}
use Rattle.definitions.specs.Record.{Validator, nobody, FAR_FUTURE_EPOCH}
use Rattle.history.proofs.Induction as induction
use Rattle.history.specs.ExitEpochs.{Event, accepts, after, met, holding, Others, Premises, Claim, Called, Defined, event, ExitEpochs}
use Rattle.history.proofs.ExitEpochs.Shape.{Shaped}
use Rattle.history.proofs.ExitEpochs.OneExit.{fills}
use Rattle.history.proofs.ExitEpochs.OneClose.{shaped}

-- Others

abbrev holds : ℕ → Validator → Bool
holds x v = eqb v.exit_epoch x

others_hold : (x : ℕ) → x < FAR_FUTURE_EPOCH → (vs ws : List Validator) → ((i : ℕ) → i < length vs → (get_or ws i nobody).exit_epoch ≡ (get_or vs i nobody).exit_epoch) → ((i : ℕ) → length vs ≤ i → i < length ws → (get_or ws i nobody).exit_epoch ≡ FAR_FUTURE_EPOCH) → holding x ws ≤ holding x vs
unfolding filter
others_hold x l vs [] o n = omega arith
others_hold x l [] (w ∷ ws) o n = rw (ne_eqb w.exit_epoch x (λ q. absurd (omega (arith, q, n 0 (omega arith) (omega arith))))) (others_hold x l [] ws (λ i k. absurd (omega arith)) (λ i j k. n (suc i) (omega arith) (omega arith)))
others_hold x l (v ∷ vs) (w ∷ ws) o n = go (holds x w) (holds x v) (ap (λ (e : ℕ). eqb e x) (o 0 (omega arith))) (others_hold x l vs ws (λ i k. o (suc i) (omega arith)) (λ i j k. n (suc i) (omega arith) (omega arith)))
  where
    go : (a b : Bool) → a ≡ b → holding x ws ≤ holding x vs → length (cond a (w ∷ filter (holds x) ws) (filter (holds x) ws)) ≤ length (cond b (v ∷ filter (holds x) vs) (filter (holds x) vs))
    go true true e h = omega arith
    go true false e h = absurd (subst T e tt)
    go false true e h = omega arith
    go false false e h = h

-- The limits met

abbrev largest : List ℕ → ℕ
largest limits = maximum 0 limits

largest-both : (ls ms : List ℕ) → largest (ls ++ ms) ≡ max (largest ls) (largest ms)
unfolding maximum
largest-both [] ms = omega arith
largest-both (l ∷ ls) ms = omega (arith, largest-both ls ms)

all_both : (ls ms : List ℕ) → T (all (leb 1) (ls ++ ms)) → T (all (leb 1) ls) × T (all (leb 1) ms)
unfolding all
all_both [] ms t = (tt, t)
all_both (l ∷ ls) ms t = go (leb 1 l) t (λ u. all_both ls ms u)
  where
    go : (b : Bool) → T (b && all (leb 1) (ls ++ ms)) → (T (all (leb 1) (ls ++ ms)) → T (all (leb 1) ls) × T (all (leb 1) ms)) → T (b && all (leb 1) ls) × T (all (leb 1) ms)
    go true t rest = rest t
    go false t rest = absurd t

-- One call

pub record Fuller (e : Event) : Type 0 where
  pub fuller : (x : ℕ) → x < FAR_FUTURE_EPOCH → holding x e.returned ≤ max (holding x e.opening) (largest e.limits)

abbrev calls : induction.Kind (List Validator) Event
calls =
    record {
      Others = Others;
      opening = λ e. e.opening;
      returned = λ e. e.returned;
      accepts = accepts;
      others_stay = λ e. false;
      Shape = Fuller;
    }

abbrev pub EachShaped : List Event → Type 0
EachShaped [] = Unit {0}
EachShaped (e ∷ es) = Shaped e × EachShaped es

each-fuller : (es : List Event) → EachShaped es → T (all (leb 1) (met es)) → induction.Each calls es
each-fuller [] h t = tt
each-fuller (e ∷ es) h t = (λ a. record { fuller = fills e.limits (here a) _ _ (h.0 (subst T (sym a) tt)) }, each-fuller es h.1 both.1)
  where
    both : T (all (leb 1) (cond (accepts e) e.limits [])) × T (all (leb 1) (met es))
    both = all_both (cond (accepts e) e.limits []) (met es) t

    here : accepts e ≡ true → T (all (leb 1) e.limits)
    here a = subst (λ (b : Bool). T (all (leb 1) (cond b e.limits []))) a both.0

-- The invariant: what may yet be held of x is at most n
module _ (x n : ℕ) (below : x < FAR_FUTURE_EPOCH) where
  abbrev AtMost : List Validator → List Event → Type 0
  AtMost r es = max (holding x r) (largest (met es)) ≤ n

  at_most : induction.Invariant calls AtMost
  at_most =
      record {
        others = λ r o es h p. omega (arith, p, others_hold x below r o h.old h.new);
        refused = λ r e es a p. omega (arith, p, largest-both (cond (accepts e) e.limits []) (met es));
        accepted = λ e es a s p. omega (arith, p, largest-both (cond (accepts e) e.limits []) (met es), ap (λ (b : Bool). largest (cond b e.limits [])) a, s.fuller x below);
      }

-- of every list of calls that have the interface
pub claim : (start : List Validator) (events : List Event) → EachShaped events → Premises start events → Claim start events
claim start events h p x below =
    let l : x < FAR_FUTURE_EPOCH = omega (arith, below) in
    let whole = sym (append-nil events) in
    let q = (induction.every calls (AtMost x n l) (at_most x n l) events [] start (subst (induction.Handed calls start) whole handed) (subst (induction.Each calls) whole (each-fuller events h p.churn)) (omega arith)).holds in
    omega (arith, q)
  where
    n : ℕ
    n = max (holding x start) (largest (met events))

    handed : induction.Handed calls start events
    handed = induction.all-through (λ r e. Others r e.opening) after events start p.handed

each-shaped : (cs : List ((c : Called) × Defined c)) → EachShaped (map (λ c. event c.0) cs)
each-shaped [] = tt
each-shaped (c ∷ cs) = (shaped c.0 c.1, each-shaped cs)

pub exit-epochs : ExitEpochs
exit-epochs start cs p = claim start (map (λ c. event c.0) cs) (each-shaped cs) p
