-- The claim over every run of calls that have the interface: each makes its exits one after the other, from what it was handed to what it returned.
use mathlib.Core.Path.{◌≡◌, refl, sym, subst}
use mathlib.Core.Bool.{Bool, true, false, cond}
use mathlib.Core.List.{List, [], ◌∷◌, ◌++◌}
use Prim.Native.Nat.{ℕ}
use Rattle.definitions.specs.Lists.{filter}
use Rattle.definitions_electra.specs.declared.ExitChurn.{ExitChurn}
use Rattle.history.proofs.Induction.{All, all-through}
use Rattle.history_electra.specs.ExitEpochs.{Exit, Event, accepts, after, made, Others, Premises, Claim}
use Rattle.history_electra.proofs.ExitEpochs.OneExit.{Made, others-both, others-none, Linked, Bounded, bounded}

abbrev pub Chain : ExitChurn → List Exit → ExitChurn → Type 0
Chain p [] q = q ≡ p
Chain p (e ∷ es) q = (e.before ≡ p) × Made e × Chain e.after es q

abbrev pub EachChained : List Event → Type 0
EachChained [] = Unit {0}
EachChained (e ∷ es) = (accepts e ≡ true → Chain e.opening e.exits e.returned) × EachChained es

module _ (C : ℕ) where
  link : (more es : List Exit) (p q r : ExitChurn) → Others C p q → Chain q es r → ((s : ExitChurn) → Others C s r → Linked C s more) → Linked C p (es ++ more)
  link more [] p q r o c k = k p (subst (Others C p) (sym c) o)
  link more (e ∷ es) p q r o c k = (subst (Others C p) (sym c.0) o, c.1, link more es e.after e.after r (others-none C e.after) c.2 k)

  linked : (es : List Event) (r p : ExitChurn) → Others C p r → All (λ r e. Others C r e.opening) after r es → EachChained es → Linked C p (made es)
  linked [] r p o h c = tt
  linked (e ∷ es) r p o h c = go (accepts e) e.others_stay h.1 c.0 (λ s q o h. linked es s q o h c.1)
    where
      opened : Others C p e.opening
      opened = others-both C p r e.opening o h.0

      go : (b w : Bool) → All (λ r e. Others C r e.opening) after (cond b e.returned (cond w e.opening r)) es
          → (b ≡ true → Chain e.opening e.exits e.returned)
          → ((s q : ExitChurn) → Others C q s → All (λ r e. Others C r e.opening) after s es → Linked C q (made es))
          → Linked C p (cond b e.exits [] ++ made es)
      go true w h c rest = link (made es) e.exits p e.opening e.returned opened (c refl) (λ s q. rest e.returned s q h)
      go false true h c rest = rest e.opening p opened h
      go false false h c rest = rest r p o h

pub every-run : (C : ℕ) (start : ExitChurn) (es : List Event) → EachChained es → Premises C start es → Claim C es
every-run C start es c h = record { full = λ x. (bound x).full; sharp = λ x. (bound x).sharp }
  where
    bound : (x : ℕ) → Bounded C x (filter (λ e. lib.Dec.eqb e.after.earliest_exit_epoch x) (made es))
    bound x = bounded C x (made es) start (linked C es start start (others-none C start) (all-through (λ r e. Others C r e.opening) after es start h.handed) c) (λ _. h.left) h.limits
