-- The loop of the test, over the lent queue.
use mathlib.Core.Path.{◌≡◌, refl, sym, ◌∙◌}
use mathlib.Core.Bool.{true, false}
use mathlib.Core.List.{List}
use Prim.Native.Nat.{ℕ, ◌+◌, ◌/◌, ◌≤◌, ◌<◌}
use native.Mathlib.Omega.{arith}
use lib.ListN.{length, get_or, take, drop, replicate, length-replicate}
use lib.Seq.{drop-cons}
use Rattle.definitions.specs.Record.{Validator}
use Rattle.definitions.specs.Checked.{value}
use Rattle.laws.proofs.Checked.{value_same, bound}
use Rattle.definitions_electra.specs.declared.PendingDeposit.{PendingDeposit}
use Rattle.definitions_electra.specs.Record.{Registry, decode_deposits}
use Rattle.definitions_electra.specs.Loops.{fold_until_checked}
use Rattle.laws_electra.proofs.Until.{Resumed, resumed-none, resumed-all, resumed-more}
use Rattle.electra_deposits.specs.declared.adding.NewNumbers.{NewNumbers}
use Rattle.electra_deposits.specs.declared.testing.NewTest.{NewTest}
use Rattle.electra_deposits.specs.Alone.{none}
use Rattle.electra_deposits.specs.Room.{rules_by, keyed, joins, joined}
use Rattle.electra_deposits.specs.Testing.{test_at, Turned, front_of, NewTests}
use Rattle.electra_deposits.proofs.Alike.{apart}
use Rattle.electra_deposits.proofs.Keys.{length-range, finds-none}
use Rattle.electra_deposits.proofs.Postponed.{kept-none}
use Rattle.electra_deposits.proofs.Table.{total, here, at-queue, key_here}
use Rattle.electra_deposits.proofs.TestSteps.{added-most}
use Rattle.electra_deposits.proofs.Marks.{Marks, Outcome, joined_is, kept-join, turn-out, bad-rest}

-- after i turns, of which there are `index`: for whoever stands in front
pub record Each (k : NewNumbers) (n downward upward : ℕ) (vs : List Validator) (cs ds : List ℕ) (index i : ℕ) (ps : List ℕ) (many : ℕ) : Type 0 where
  pub text : Registry
  pub resumed : Resumed (λ b d. false) (joins (rules_by k 0) n) (front_of n vs cs) (take index (decode_deposits ds)) i text
  pub marks : Marks n (length ds / 5) downward upward vs ps many text

pub record Testing (k : NewNumbers) (n downward upward : ℕ) (ds : List ℕ) (index i : ℕ) (ps : List ℕ) (many : ℕ) : Type 0 where
  pub few : many ≤ i
  pub long : length ps ≡ length ds / 5
  pub each : (vs : List Validator) (cs : List ℕ) → length vs ≡ n → length cs ≡ n → (reg : Registry) → joined (rules_by k 0) n (front_of n vs cs) (take index (decode_deposits ds)) ≡ value reg → Each k n downward upward vs cs ds index i ps many

pub testing_none : (k : NewNumbers) (n downward upward : ℕ) (ds : List ℕ) (index : ℕ) (ps : List ℕ) → ps ≡ replicate (length ds / 5) 0 → Testing k n downward upward ds index 0 ps 0
testing_none k n downward upward ds index ps z =
    record {
      few = omega arith;
      long = rw z (length-replicate (length ds / 5) 0);
      each = λ vs cs l m reg e. record {
        text = front_of n vs cs;
        resumed = resumed-none _ _ _ _;
        marks = record {
          kept = kept-none n vs cs l m;
          count = omega (arith, length-range 0 n);
          finds = rw z (finds-none _ n (length ds / 5));
          good = λ j a b. absurd (omega (arith, a, b, l));
        };
      };
    }

module _ {k : NewNumbers} {n downward upward : ℕ} {ds : List ℕ} {index i : ℕ} {ps : List ℕ} {many : ℕ} (g : Testing k n downward upward ds index i ps many) (within : index ≤ length ds / 5) where
  pub testing_all : index ≤ i → NewTests k n downward upward (take index (decode_deposits ds)) (record { added = many; fits = true })
  unfolding joined
  testing_all b =
      record {
        tests = λ vs cs l m reg e. (
            let x = g.each vs cs l m reg e in
            let same : x.text ≡ reg = value_same (sym (resumed-all x.resumed (omega (arith, total ds index within, b))) ∙ e) in
            rw (← same) (record { added = λ t. x.marks.count ∙ sym x.marks.kept.long; good = λ t. x.marks.good; bad = λ t. absurd (apart t) }));
      }

  module _ (l : i < index) {d : PendingDeposit} (is : d ≡ get_or (decode_deposits ds) i none) (keys : keyed n ds ≡ true) where
    record Next (vs : List Validator) (cs : List ℕ) : Type 0 where
      text : Registry
      resumed : Resumed (λ b d. false) (joins (rules_by k 0) n) (front_of n vs cs) (take index (decode_deposits ds)) (i + 1) text
      outcome : Outcome n (length ds / 5) downward upward vs many text (test_at k n downward upward ps d)

    next : (vs : List Validator) (cs : List ℕ) → length vs ≡ n → length cs ≡ n → (reg : Registry) → joined (rules_by k 0) n (front_of n vs cs) (take index (decode_deposits ds)) ≡ value reg → Next vs cs
    unfolding joined fold_until_checked
    next vs cs a b reg e =
        let x = g.each vs cs a b reg e in
        let inside = here ds index within l in
        let c = bound _ _ (rw (drop-cons (take index (decode_deposits ds)) i none inside) at (sym x.resumed.held ∙ e)) in
        let u : joins (rules_by k 0) n x.text d ≡ value c.first = rw (at-queue ds index within l is) c.gave in
        record {
          text = c.first;
          resumed = resumed-more x.resumed none inside refl c.gave;
          outcome = turn-out x.marks k d (key_here ds index within l is n keys) (joined_is k n x.text d u) (kept-join k x.marks.kept d u);
        }

    module _ {qs : List ℕ} {r : NewTest} (h : Turned (test_at k n downward upward ps d) qs r) where
      pub added-few : r.added ≤ 1
      added-few = rw h.added (added-most k n downward upward ps d)

      pub testing_more : r.fits ≡ true → length qs ≡ length ps → Testing k n downward upward ds index (i + 1) qs (many + r.added)
      testing_more t long =
          record {
            few = omega (arith, g.few, added-few);
            long = long ∙ g.long;
            each = λ vs cs a b reg e. (
                let x = next vs cs a b reg e in
                record { text = x.text; resumed = x.resumed; marks = rw (h.places, h.added) (x.outcome.fits (sym h.fits ∙ t)) });
          }

      pub testing_stop : r.fits ≡ false → NewTests k n downward upward (take index (decode_deposits ds)) r
      unfolding joined
      testing_stop t =
          record {
            tests = λ vs cs a b reg e. (
                let x = next vs cs a b reg e in
                let bad = bad-rest k x.text (drop (i + 1) (take index (decode_deposits ds))) (x.outcome.bad (sym h.fits ∙ t)) (sym x.resumed.held ∙ e) in
                record { added = λ u. absurd (apart (sym u ∙ t)); good = λ u. absurd (apart (sym u ∙ t)); bad = λ u. bad });
          }
