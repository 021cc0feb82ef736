-- A pass over a list in order, with a state carried along: the turn at i reads and writes the entry at i and the state, and may be refused.
use Rattle.std.specs.Prelude.{List, [], ◌∷◌}
use Rattle.definitions.specs.Checked.{Checked, value, bind}

-- an entry, or a list of them, and the state after it
pub record Moved (C A : Type 0) : Type 0 where
  pub carry : C
  pub held : A

abbrev pub Turning : Type 0 → Type 0 → Type 0
Turning C A = C → A → Checked (Moved C A)

unfoldable pub sweep : {C A : Type 0} → Turning C A → Turning C (List A)
sweep f c [] = value (record { carry = c; held = [] })
sweep f c (x ∷ xs) =
    bind (f c x) (λ m.
    bind (sweep f m.carry xs) (λ r.
    value (record { carry = r.carry; held = m.held ∷ r.held })))

-- Two functions one after the other, on one entry as on a list of them

-- both carry, each its own state
abbrev pub after : {C D A : Type 0} → Turning C A → Turning D A → Turning (C × D) A
after f g c x =
    bind (f c.0 x) (λ m.
    bind (g c.1 m.held) (λ p.
    value (record { carry = (m.carry, p.carry); held = p.held })))

-- a pure one, then one that carries
abbrev pub first : {C A : Type 0} → (A → Checked A) → Turning C A → Turning C A
first f g c x = bind (f x) (g c)

-- one that carries, then a pure one
abbrev pub last : {C A : Type 0} → Turning C A → (A → Checked A) → Turning C A
last f g c x = bind (f c x) (λ m. bind (g m.held) (λ y. value (record { carry = m.carry; held = y })))

-- one that carries a part of a state
abbrev pub along : {C D A : Type 0} → (C → D) → (C → D → C) → Turning D A → Turning C A
along part put f c x = bind (f (part c) x) (λ m. value (record { carry = put c m.carry; held = m.held }))

-- what is left when the state is dropped
abbrev pub dropped : {C A : Type 0} → Checked (Moved C A) → Checked A
dropped m = bind m (λ p. value p.held)
