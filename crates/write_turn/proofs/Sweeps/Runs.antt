-- Two functions on one entry, one after the other.
use mathlib.Core.Path.{◌≡◌, refl, sym, ap, ◌∙◌}
use mathlib.Core.List.{List}
use Prim.Native.Nat.{ℕ}
use Rattle.std.specs.Prelude.{IsErr, IsErrAnd}
use Rattle.definitions.specs.Checked.{Checked, value, refused, bind, done, settle}
use Rattle.definitions.specs.declared.Refusal.{Refusal}
use Rattle.definitions.specs.Record.{Validator, decode_one, encode_one}
use Rattle.laws.proofs.Checked.{not_value}
use Rattle.laws.proofs.Loops.Ran.{done-refused}
use Rattle.arithmetic.proofs.Laws.{carried}
use Rattle.laws.specs.Ran.{Settles}
use Rattle.write_turn.specs.Runs.{Runs, both}

pub settles-runs : {f : Validator → Checked Validator} {before after : List ℕ} {r : Checked (Unit {0})} → Settles f before after r → Runs f before after r
settles-runs {f} {before} h =
    record { is = h.is; held = λ v e. h.held ∙ ap (λ (m : Checked Validator). encode_one (settle m (decode_one before))) e }

-- an entry function that is never refused
pub plain_runs : (g : Validator → Validator) {before after : List ℕ} → after ≡ encode_one (g (decode_one before)) → Runs (λ v. value (g v)) before after (value tt)
plain_runs g h = record { is = refl; held = λ v e. h ∙ ap encode_one (cc) }

module _ {f : Validator → Checked Validator} (g : Validator → Checked Validator) {before between : List ℕ} {r : Checked (Unit {0})} (h : Runs f before between r) where
  pub runs_then : {after : List ℕ} {s : Checked (Unit {0})} → r ≡ value tt → Runs g between after s → Runs (both f g) before after s
  unfolding bind
  runs_then {after} {s} z k = go (f (decode_one before)) refl
    where
      go : (m : Checked Validator) → f (decode_one before) ≡ m → Runs (both f g) before after s
      go (value w) e =
          let same : decode_one between ≡ w = ap decode_one (h.held w e) in
          record {
            is = k.is ∙ ap (λ (v : Validator). done (g v)) same ∙ ap (λ (m : Checked Validator). done (bind m g)) (sym e);
            held = λ v q. k.held v (ap g same ∙ ap (λ (m : Checked Validator). bind m g) (sym e) ∙ q);
          }
      go (refused p) e = absurd (not_value (sym (h.is ∙ ap done e) ∙ z))

  pub runs-stop : {after : List ℕ} {p : Refusal} → r ≡ refused p → Runs (both f g) before after (refused p)
  unfolding bind
  runs-stop {after} {p} z =
      let q : bind (f (decode_one before)) g ≡ refused p = ap (λ (m : Checked Validator). bind m g) (done-refused (f (decode_one before)) (sym h.is ∙ z)) in
      record { is = ap done (sym q); held = λ v t. absurd (not_value (sym q ∙ t)) }

  -- by `?`
  pub runs-passes : {after : List ℕ} {s : Checked (Unit {0})} {p : Refusal} → r ≡ refused p → IsErr s × IsErrAnd s (λ q. q ≡ p) → Runs (both f g) before after s
  runs-passes z t = rw (carried _ t) (runs-stop z)

-- `search (rules, in_turn_lem)` proves what a function that calls others on one entry, in turn, returns
pub ruleset in_turn_lem = (settles-runs, plain_runs, runs_then, runs-passes)
