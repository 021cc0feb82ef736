-- The premises put the checkpoints of every accepted close in order, as it finds them.
use mathlib.Core.Path.{◌≡◌, refl, sym, ◌∙◌, subst}
use mathlib.Core.Bool.{Bool, true, false, cond, false≢true}
use mathlib.Core.List.{List, [], ◌∷◌}
use Prim.Native.Nat.{◌-◌}
use native.Mathlib.Omega.{arith}
use Rattle.definitions.specs.Record.{BeaconState}
use Rattle.laws.proofs.Moved.{Moved}
use Rattle.history.specs.Events.{Others, Event, accepts, accepted}
use Rattle.history.proofs.OneClose.{InOrder, others-order, close-order}
use Rattle.history.proofs.Premises.{Handed, Rising, Ordered, taken, skipped}

-- P of each accepted one
abbrev pub Each : (Event → Type 0) → List Event → Type 0
Each P [] = Unit {0}
Each P (e ∷ es) = (accepts e ≡ true → P e) × Each P es

abbrev pub Moves : Event → Type 0
Moves e = Moved e.epoch e.opening.finality e.returned.finality

abbrev pub Ordering : Event → Type 0
Ordering e = InOrder e.opening.finality (e.epoch - 1)

others-ordered : {r o : BeaconState} → Others r o → (es : List Event) → Ordered r es → Ordered o es
others-ordered h [] g = tt
others-ordered h (e ∷ es) g = others-order h g

-- the next one is of a later epoch
next-ordered : (r : BeaconState) (e : Event) (es : List Event) → InOrder r.finality e.epoch → Rising (e ∷ es) → Ordered r es × Rising es
next-ordered r e [] g h = (tt, tt)
next-ordered r e (f ∷ es) g h = (record { low = g.low; middle = g.middle; high = omega (arith, g.high, h.0) }, h.1)

pub in_order_lem : (es : List Event) (r : BeaconState) → Each Moves es → Handed r es → Rising (accepted es) → Ordered r (accepted es) → Each Ordering es
in_order_lem [] r m h g o = tt
in_order_lem (e ∷ es) r m h g o = go (accepts e) refl e.others_stay h.1 (λ s k. in_order_lem es s m.1 k)
  where
    here : Ordered e.opening (accepted (e ∷ es))
    here = others-ordered h.0 (accepted (e ∷ es)) o

    go : (b : Bool) → accepts e ≡ b → (w : Bool) → Handed (cond b e.returned (cond w e.opening r)) es → ((s : BeaconState) → Handed s es → Rising (accepted es) → Ordered s (accepted es) → Each Ordering es) → Each Ordering (e ∷ es)
    go true t w k later =
        let first : InOrder e.opening.finality (e.epoch - 1) = subst (Ordered e.opening) (taken e es t) here in
        let then = next-ordered e.returned e (accepted es) (close-order first (m.0 t)).1 (subst Rising (taken e es t) g) in
        (λ _. first, later e.returned k then.1 then.0)
    go false t true k later = (λ u. absurd (false≢true (sym t ∙ u)), later e.opening k (subst Rising (skipped e es t) g) (subst (Ordered e.opening) (skipped e es t) here))
    go false t false k later = (λ u. absurd (false≢true (sym t ∙ u)), later r k (subst Rising (skipped e es t) g) (subst (Ordered r) (skipped e es t) o))
