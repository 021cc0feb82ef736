-- Closes one after the other: with those that are left behind them, those made are all of them.
use mathlib.Core.List.{List, [], ◌++◌, append_assoc, append-nil}
use mathlib.Core.Path.{◌≡◌, refl, sym, ◌∙◌}
use Prim.Native.Nat.{ℕ, suc, ◌+◌, ◌-◌, ◌*◌, ◌/◌, ◌^◌, ◌≤◌, ◌<◌}
use native.Mathlib.Numerals.{add-one}
use native.Mathlib.Omega.{arith}
use borrow.Author.Tests.{eq-eqb, ne_eqb}
use lib.ListN.{length}
use Rattle.definitions.specs.declared.Settings.{Settings}
use Rattle.definitions_file.specs.File.{Contents}
use Rattle.fields.specs.Put.{Put}
use Rattle.fields.proofs.decimals.Put.{put-more}
use Rattle.definitions_file.specs.OutageInput.{Plan}
use Rattle.definitions_file.specs.OutagePreparation.{prepared}
use Rattle.definitions_file.specs.OutageRun.{Run, close_once, behind, and_then, run}
use Rattle.listing_lines.specs.Sizes.{longest_head}
use Rattle.outage.specs.Ready.{Ready}
use Rattle.outage.specs.Went.{Went}

then-closed : (r : Run) (next : Contents → Run) → r.refusal ≡ 0 → and_then r next ≡ behind r.heads (next r.contents)
unfolding and_then
then-closed r next z = rw (eq-eqb r.refusal 0 z)

then-refused : (r : Run) (next : Contents → Run) → (r.refusal ≡ 0 → ⊥) → and_then r next ≡ r
unfolding and_then
then-refused r next z = rw (ne_eqb r.refusal 0 z)

-- `c` is the record after i closes, `done` their head lines
pub record Running (p : Plan) (epochs : ℕ) (first : Contents) (before : List ℕ) (i : ℕ) (c : Contents) (text : List ℕ) (last : ℕ) : Type 0 where
  pub below : i ≤ epochs
  pub done : List ℕ
  pub put : Put before 0 done text last
  pub leads : run p epochs first ≡ behind done (run p (epochs - i) c)
  pub inside : last ≤ longest_head * i

pub running_none : (p : Plan) (epochs : ℕ) (first : Contents) (before : List ℕ) → Running p epochs first before 0 first before 0
running_none p epochs first before =
    let e : epochs - 0 ≡ epochs = omega arith in
    record { below = omega arith; done = []; put = record { held = refl; stopped = refl }; leads = rw e; inside = omega arith }

module _ {p : Plan} {epochs : ℕ} {first : Contents} {before : List ℕ} {i : ℕ} {c : Contents} {text : List ℕ} {last : ℕ} (g : Running p epochs first before i c text last) where
  next : i < epochs → run p epochs first ≡ behind g.done (and_then (close_once (prepared p c)) (run p (epochs - suc i)))
  unfolding run
  next l =
      let e : epochs - i ≡ suc (epochs - suc i) = omega arith in
      g.leads ∙ rw e

  -- one more
  module _ (l : i < epochs) {after : List ℕ} {x : ℕ} {left : Contents} {end : ℕ} (w : Went (close_once (prepared p c)) 1 text last after x left end) where
    pub running_more : x ≡ 0 → Running p epochs first before (i + 1) left after end
    running_more z =
        let r = close_once (prepared p c) in
        let a = then-closed r (run p (epochs - suc i)) (sym w.code ∙ z) in
        record {
          below = omega arith;
          done = g.done ++ r.heads;
          put = put-more g.put w.put;
          leads = next l ∙ rw (a, ← w.stands, add-one i) (λ k. record { refusal = (run p (epochs - suc i) left).refusal; heads = sym (append_assoc g.done r.heads (run p (epochs - suc i) left).heads) k; contents = (run p (epochs - suc i) left).contents });
          inside = omega (arith, w.inside, g.inside);
        }

    pub running-stop : (x ≡ 0 → ⊥) → Went (run p epochs first) epochs before 0 after x left end
    running-stop z =
        let r = close_once (prepared p c) in
        let a = then-refused r (run p (epochs - suc i)) (λ q. z (w.code ∙ q)) in
        rw (next l, a)
        (record { code = w.code; stands = w.stands; put = put-more g.put w.put; inside = omega (arith, w.inside, g.inside) })

  pub running-all : epochs ≤ i → Went (run p epochs first) epochs before 0 text 0 c last
  unfolding run
  running-all l =
      let e : epochs - i ≡ 0 = omega arith in
      rw (g.leads, e)
      (record { code = refl; stands = refl; put = rw (append-nil g.done) g.put; inside = omega (arith, g.inside, g.below) })

-- what the next turn relies on
pub ready-more : {s : Settings} {slot : ℕ} {registry roots root absences : List ℕ} → Ready s slot (length registry / 10) registry roots root absences → {later : ℕ} {new_registry new_roots : List ℕ} → later < 2 ^ 48 → length new_registry ≡ length registry → length new_roots ≡ length roots → Ready s later (length new_registry / 10) new_registry new_roots root absences
ready-more r h a b =
    record {
      positive = r.positive;
      short = r.short;
      some-roots = r.some-roots;
      few-roots = r.few-roots;
      small = h;
      entries = omega (arith, r.entries, a);
      places = b ∙ r.places;
      bytes = r.bytes;
      pairs = omega (arith, r.pairs, a);
    }

-- nothing lent has changed its length
pub record Lasting (registry slashings roots closing_registry closing_slashings text new_registry new_slashings new_roots new_closing_registry new_closing_slashings new_text : List ℕ) : Type 0 where
  pub entries : length new_registry ≡ length registry
  pub sums : length new_slashings ≡ length slashings
  pub places : length new_roots ≡ length roots
  pub closing-entries : length new_closing_registry ≡ length closing_registry
  pub closing-sums : length new_closing_slashings ≡ length closing_slashings
  pub bytes : length new_text ≡ length text
