-- One exit joins an epoch that fewer than the churn limit hold, or opens one that nobody holds: no epoch below FAR comes to be held by more
-- than the limit, unless it was before. So do exits one after the other.
use mathlib.Core.Path.{◌≡◌, ap}
use mathlib.Core.Logic.{inl, inr, ⊎_elim}
use mathlib.Core.List.{[], List, ◌∷◌}
use Prim.Native.Nat.{ℕ, max, ◌≤◌, ◌<◌}
use native.Mathlib.Omega.{arith}
use lib.Dec.{T, leb, eqb, leb→le}
use Rattle.definitions.specs.declared.Settings.{Settings}
use Rattle.definitions.specs.Lists.{all, maximum}
use Rattle.definitions.specs.Record.{Validator, FAR_FUTURE_EPOCH}
use Rattle.definitions.specs.Checked.{value}
use Rattle.definitions.specs.Rust.Phase0.Helpers.{initiate_validator_exit}
use Rattle.exit_queue.proofs.exits.Counts.{exit-counts}
use Rattle.laws.proofs.Tests.{T_left, T_right}
use Rattle.history.specs.ExitEpochs.{holding}
use Rattle.history.proofs.ExitEpochs.Shape.{exit_of, OneOf, Exits, kept, exit, then}
use Rattle.exit_queue.proofs.exits.Limit.{count_by, by-numbers, limit_of}

exit-fills : (s : Settings) (slot : ℕ) (vs : List Validator) (i : ℕ) {ws : List Validator} → initiate_validator_exit s slot vs i ≡ value ws → 1 ≤ limit_of s slot vs → (x : ℕ) → x < FAR_FUTURE_EPOCH → holding x ws ≤ max (holding x vs) (limit_of s slot vs)
exit-fills s slot vs i {ws} p k x l =
    ⊎_elim (λ q. omega (arith, ap (holding x) q)) (λ n. exit-counts n.least (limit_of s slot vs) _ vs i x (omega (arith, k)) (λ q. absurd (omega (arith, q, l))) n.gave) (by-numbers s slot vs i p)

-- one of the limits is at most the largest, and at least 1 where all are
at_most : (l : ℕ) (limits : List ℕ) → OneOf l limits → l ≤ maximum 0 limits
unfolding maximum
at_most l [] x = elim x [ ]
at_most l (m ∷ ms) (inl e) = omega (arith, e)
at_most l (m ∷ ms) (inr h) = omega (arith, at_most l ms h)

at_least : (l : ℕ) (limits : List ℕ) → T (all (leb 1) limits) → OneOf l limits → 1 ≤ l
unfolding all
at_least l [] t x = elim x [ ]
at_least l (m ∷ ms) t (inl e) = omega (arith, e, leb→le 1 m (T_left (leb 1 m) (all (leb 1) ms) t))
at_least l (m ∷ ms) t (inr h) = at_least l ms (T_right (leb 1 m) (all (leb 1) ms) t) h

pub fills : (limits : List ℕ) → T (all (leb 1) limits) → (vs ws : List Validator) → Exits limits vs ws → (x : ℕ) → x < FAR_FUTURE_EPOCH → holding x ws ≤ max (holding x vs) (maximum 0 limits)
fills limits t vs ws (kept h) x l = omega (arith, count_by exit_of (λ e. eqb e x) vs ws h)
fills limits t vs ws (exit s slot i p m) x l = omega (arith, at_most _ limits m, exit-fills s slot vs i p (at_least _ limits t m) x l)
fills limits t vs ws (then {vs = us} a b) x l = omega (arith, fills limits t vs us a x l, fills limits t us ws b x l)
