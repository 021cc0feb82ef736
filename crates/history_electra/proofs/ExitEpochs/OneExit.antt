-- Exits, one after the other, and what others do between: how much an epoch is given.
use mathlib.Core.Path.{◌≡◌, refl, sym, ◌∙◌, subst}
use mathlib.Core.Logic.{inl, inr}
use mathlib.Core.Bool.{Bool, true, false, cond}
use mathlib.Core.List.{List, [], ◌∷◌}
use Prim.Native.Nat.{ℕ, ◌+◌, ◌-◌, max, ◌≤◌, ◌<◌}
use native.Mathlib.Omega.{arith}
use borrow.Author.Tests.{ltb-true, ltb-false, leb-true, eqb-true, eqb-false, lt-ltb}
use lib.Dec.{T, leb, ltb, eqb, leb→le}
use Rattle.definitions.specs.Lists.{filter, all, sum}
use Rattle.definitions.specs.Checked.{value, bind, sub64}
use Rattle.definitions.specs.declared.Refusal.TheVariants.{Overflow}
use Rattle.definitions_electra.specs.declared.ExitChurn.{ExitChurn}
use Rattle.definitions_electra.specs.Document.Electra.Helpers.{to_consume}
use Rattle.definitions_electra.specs.Evaluated.Electra.Helpers.{further_epochs, churned}
use Rattle.laws.proofs.Checked.{value_same, bound, checked_value, add64-value}
use Rattle.laws.proofs.Tests.{T_left, T_right}
use Rattle.history_electra.specs.ExitEpochs.{Exit, epoch_of, room, used, given, balances, of_first, Others}

abbrev pub epoch : ExitChurn → ℕ
epoch p = p.earliest_exit_epoch

abbrev pub left : ExitChurn → ℕ
left p = p.exit_balance_to_consume

-- it came out as the text has it
abbrev pub Made : Exit → Type 0
Made e = churned e.least e.limit e.before e.balance ≡ value e.after

sub64-value : (a b : ℕ) {x : ℕ} → sub64 a b ≡ value x → x + b ≡ a
unfolding sub64
sub64-value a b p = let g = checked_value {n = a - b} Overflow (leb b a) p in omega (arith, leb-true b a g.0, g.1)

-- what was above goes to a later epoch
further : (earliest available limit balance : ℕ) {after : ExitChurn} → further_epochs earliest available limit balance ≡ value after → earliest < epoch after
unfolding further_epochs
further earliest available limit balance m =
    let process = bound _ _ m in
    let less = bound _ _ process.then in
    let additional = bound _ _ less.then in
    let later = bound _ _ additional.then in
    let product = bound _ _ later.then in
    let more = bound _ _ product.then in
    let rest = bound _ _ more.then in
    subst (λ (p : ExitChurn). earliest < epoch p) (value_same rest.then) (omega (arith, add64-value _ _ later.gave, add64-value _ _ additional.gave))

-- what is not above stays
record Fits (earliest available balance : ℕ) (after : ExitChurn) : Type 0 where
  there : epoch after ≡ earliest
  rest : balance + left after ≡ available

fits : (earliest available balance : ℕ) {after : ExitChurn}
    → bind (sub64 available balance) (λ left. value (record { exit_balance_to_consume = left; earliest_exit_epoch = earliest })) ≡ value after
    → Fits earliest available balance after
fits earliest available balance m =
    let h = bound _ _ m in
    subst (Fits earliest available balance) (value_same h.then) (record { there = refl; rest = omega (arith, sub64-value _ _ h.gave) })

-- the epoch that was open has room; or a later one is opened, by the least epoch or by what was above
pub data Gave (e : Exit) : Type 0 where
  stayed : epoch_of e ≡ epoch e.before → room e ≡ left e.before → Gave e
  opened : epoch e.before < epoch_of e → room e ≤ e.limit + used e → Gave e

module _ (e : Exit) where
  abbrev earliest : ℕ
  earliest = max (epoch e.before) e.least

  abbrev available : ℕ
  available = to_consume earliest e.limit e.before

  used-more : earliest < epoch_of e → room e ≤ e.limit + used e
  used-more l = rw (lt-ltb earliest (epoch_of e) l) (omega arith)

  by-room : (b : Bool) → ltb (epoch e.before) earliest ≡ b → Fits earliest (cond b e.limit (left e.before)) e.balance e.after → Gave e
  by-room true t f = opened (omega (arith, ltb-true (epoch e.before) earliest t, f.there)) (omega (arith, f.rest))
  by-room false t f = stayed (omega (arith, ltb-false (epoch e.before) earliest t, f.there)) (omega (arith, f.rest))

  pub gave : Made e → Gave e
  unfolding churned
  gave m = go (ltb available e.balance) refl m
    where
      go : (a : Bool) → ltb available e.balance ≡ a
          → cond a (further_epochs earliest available e.limit e.balance) (bind (sub64 available e.balance) (λ left. value (record { exit_balance_to_consume = left; earliest_exit_epoch = earliest }))) ≡ value e.after
          → Gave e
      go true t g = let l = further earliest available e.limit e.balance g in opened (omega (arith, l)) (used-more l)
      go false t g = by-room (ltb (epoch e.before) earliest) refl (fits earliest available e.balance g)

-- One after the other

-- what others do, any number of times, they may do at once
pub others-both : (C : ℕ) (p q r : ExitChurn) → Others C p q → Others C q r → Others C p r
others-both C p q r (inl (a, b)) (inl (c, d)) = inl (c ∙ a, omega (arith, b, d))
others-both C p q r (inl (a, b)) (inr (c, d)) = inr (omega (arith, a, c), d)
others-both C p q r (inr (a, b)) (inl (c, d)) = inr (omega (arith, a, c), omega (arith, b, d))
others-both C p q r (inr (a, b)) (inr (c, d)) = inr (omega (arith, a, c), d)

pub others-none : (C : ℕ) (p : ExitChurn) → Others C p p
others-none C p = inl (refl, omega arith)

-- from p on, exits that were made, with what others did before each
abbrev pub Linked : ℕ → ExitChurn → List Exit → Type 0
Linked C p [] = Unit {0}
Linked C p (e ∷ es) = Others C p e.before × Made e × Linked C e.after es

module _ (C x : ℕ) where
  abbrev sum_of : List Exit → ℕ
  sum_of es = balances (given x es)

  -- once the earliest epoch is x or later, no more than what is left of x is given
  rest-given : (es : List Exit) (p : ExitChurn) (n : ℕ) → Linked C p es → x ≤ epoch p → (epoch p ≡ x → left p ≤ n) → sum_of es ≤ n
  unfolding filter sum
  rest-given [] p n h l k = omega arith
  rest-given (e ∷ es) p n h l k = go (gave e h.1) h.0 (eqb (epoch_of e) x) refl (λ m a b. rest-given es e.after m h.2 a b)
    where
      go : Gave e → Others C p e.before → (b : Bool) → eqb (epoch_of e) x ≡ b
          → ((m : ℕ) → x ≤ epoch_of e → (epoch_of e ≡ x → left e.after ≤ m) → sum_of es ≤ m)
          → balances (cond b (e ∷ given x es) (given x es)) ≤ n
      go (stayed a r) (inl o) true t rest =
          let q = eqb-true (epoch_of e) x t in
          let z = k (omega (arith, a, q, o.0)) in
          omega (arith, r, z, o.1, rest (n - e.balance) (omega (arith, q)) (λ _. omega (arith, r, z, o.1)))
      go (stayed a r) (inr o) true t rest = let q = eqb-true (epoch_of e) x t in absurd (omega (arith, a, q, l, o.0))
      go (opened a r) (inl o) true t rest = let q = eqb-true (epoch_of e) x t in absurd (omega (arith, a, q, l, o.0))
      go (opened a r) (inr o) true t rest = let q = eqb-true (epoch_of e) x t in absurd (omega (arith, a, q, l, o.0))
      go (stayed a r) (inl o) false t rest = rest n (omega (arith, a, l, o.0)) (λ q. absurd (eqb-false (epoch_of e) x t q))
      go (stayed a r) (inr o) false t rest = rest n (omega (arith, a, l, o.0)) (λ q. absurd (eqb-false (epoch_of e) x t q))
      go (opened a r) (inl o) false t rest = rest n (omega (arith, a, l, o.0)) (λ q. absurd (eqb-false (epoch_of e) x t q))
      go (opened a r) (inr o) false t rest = rest n (omega (arith, a, l, o.0)) (λ q. absurd (eqb-false (epoch_of e) x t q))

  -- those given x
  pub record Bounded (es : List Exit) : Type 0 where
    pub full : balances es ≤ C + of_first used es
    pub sharp : balances es ≤ of_first room es

  pub bounded : (es : List Exit) (p : ExitChurn) → Linked C p es → (epoch p ≡ x → left p ≤ C) → T (all (λ e. leb e.limit C) es) → Bounded (given x es)
  unfolding filter sum all
  bounded [] p h k t = record { full = omega arith; sharp = omega arith }
  bounded (e ∷ es) p h k t = go (eqb (epoch_of e) x) refl (λ a. bounded es e.after h.2 (λ q. absurd (a q)) (T_right (leb e.limit C) (all (λ f. leb f.limit C) es) t))
    where
      limit : e.limit ≤ C
      limit = leb→le e.limit C (T_left (leb e.limit C) (all (λ f. leb f.limit C) es) t)

      -- what it found of x, where it was the epoch that was open
      found : Others C p e.before → epoch e.before ≡ x → left e.before ≤ C
      found (inl o) q = omega (arith, k (sym o.0 ∙ q), o.1)
      found (inr o) q = o.1

      first : Gave e → epoch_of e ≡ x → room e ≤ C + used e
      first (stayed a r) q = omega (arith, r, found h.0 (sym a ∙ q))
      first (opened a r) q = omega (arith, r, limit)

      go : (b : Bool) → eqb (epoch_of e) x ≡ b → ((epoch_of e ≡ x → ⊥) → Bounded (given x es)) → Bounded (cond b (e ∷ given x es) (given x es))
      go true u rest =
          let q = eqb-true (epoch_of e) x u in
          let more = rest-given es e.after (left e.after) h.2 (omega (arith, q)) (λ _. omega arith) in
          record { full = omega (arith, more, first (gave e h.1) q); sharp = omega (arith, more) }
      go false u rest = rest (eqb-false (epoch_of e) x u)
