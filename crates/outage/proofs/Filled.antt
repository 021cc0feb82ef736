-- What a run of an accepted file begins with.
use mathlib.Core.Bool.{true}
use mathlib.Core.List.{List}
use mathlib.Core.Path.{◌≡◌, sym, ap, ◌∙◌}
use Prim.Native.Nat.{ℕ, ◌+◌, ◌*◌, ◌/◌, ◌%◌, ◌^◌, ◌≤◌}
use native.Mathlib.Omega.{arith}
use borrow.Author.Tests.{eq-eqb, le-leb, eqb-true, leb-true}
use lib.Dec.{leb}
use lib.ListN.{length, take, drop, replicate}
use lib.Seq.{sets}
use Rattle.definitions.specs.declared.Settings.{Settings}
use Rattle.definitions.specs.declared.Finality.{Finality}
use Rattle.definitions.specs.Refusals.{registry_shaped, length_is}
use Rattle.definitions_file.specs.File.{Contents, numbers_from_bytes, count_of, slashing_count_of, contents_of, read, contents_with}
use Rattle.definitions_file.specs.Listing.{opened}
use Rattle.fields.proofs.Stores.{sets-whole}
use Rattle.laws.proofs.Tests.{both}
use Rattle.refusals.proofs.Laws.{good-settings, good-finality}
use Rattle.laws_file.proofs.Passed.{Accepted}
use Rattle.listing.proofs.Opened.{opened-same, read-accepted, read_record}
use Rattle.definitions_file.specs.OutageInput.{epochs_in, plan_of, plan_from, good_tail}
use Rattle.outage.specs.Ready.{Ready}
use Rattle.outage.specs.Went.{Room}
use Rattle.outage.specs.Lent.{Exact, Opened}

-- the tail
pub record Tail (n : ℕ) (tail : List ℕ) : Type 0 where
  pub long : length tail ≡ 40 + 16 * n
  pub few : epochs_in tail ≤ 4096

pub good-tail : (n : ℕ) (tail : List ℕ) → good_tail n tail ≡ true → Tail n tail
unfolding good_tail
good-tail n tail e =
    let b = both (length_is (40 + 16 * n) tail) (leb (epochs_in tail) 4096) e in
    record { long = eqb-true (length tail) (40 + 16 * n) b.0; few = leb-true (epochs_in tail) 4096 b.1 }

-- what the code read
module _ {file opening absences registry slashings roots closing_registry closing_slashings text : List ℕ} (x : Exact file opening absences registry slashings roots closing_registry closing_slashings text) where
  pub exact_read : {xs ys : List ℕ} → length xs ≡ length registry → length ys ≡ length slashings → Exact file opening absences xs ys roots closing_registry closing_slashings text
  exact_read a b =
      record {
        header = x.header;
        few = x.few;
        openings = x.openings;
        pairs = x.pairs;
        entries = a ∙ x.entries;
        sums = b ∙ x.sums;
        places = x.places;
        closing-entries = x.closing-entries;
        closing-sums = x.closing-sums;
        bytes = x.bytes;
      }

  module _ {q : ℕ} (e : q ≡ (read file registry slashings).refusal) where
    pub refusal-read : q ≡ (opened file).refusal
    refusal-read = e ∙ opened-same file registry slashings x.entries x.sums

    pub opened-from : {s : Settings} {f : Finality} {xs ys : List ℕ} → q ≡ 0 → s ≡ (read file registry slashings).contents.settings → f ≡ (read file registry slashings).contents.finality → xs ≡ (read file registry slashings).contents.registry → ys ≡ (read file registry slashings).contents.slashings → Opened file s f xs ys
    opened-from z a b c d =
        let contents = read-accepted file registry slashings (sym e ∙ z) in
        record {
          accepted = sym refusal-read ∙ z;
          settings = a ∙ ap (λ (k : Contents). k.settings) contents;
          finality = b ∙ ap (λ (k : Contents). k.finality) contents;
          entries = c ∙ ap (λ (k : Contents). k.registry) contents;
          sums = d ∙ ap (λ (k : Contents). k.slashings) contents;
        }

module _ {file opening absences registry slashings roots closing_registry closing_slashings text : List ℕ} (x : Exact file opening absences registry slashings roots closing_registry closing_slashings text) {s : Settings} {f : Finality} (o : Opened file s f registry slashings) where
  recorded : Accepted file
  recorded = read_record file (replicate (10 * count_of file) 0) (replicate (slashing_count_of file) 0) o.accepted

  pub roots-long : {part : List ℕ} → part ≡ (contents_of file).roots → length part ≡ length roots
  roots-long e = ap length e ∙ omega (arith, recorded.good.roots, recorded.root-count, x.places)

  -- the record that the run is handed
  pub filled : {copied part new_roots : List ℕ} → copied ≡ registry → part ≡ (contents_of file).roots → new_roots ≡ sets roots 0 part → contents_with s f copied new_roots slashings ≡ contents_of file
  filled {part = part} a b d =
      let r = d ∙ sets-whole roots part (roots-long b) ∙ b in
      let e = a ∙ o.entries in
      λ i. record { settings = o.settings i; finality = o.finality i; registry = e i; roots = r i; slashings = o.sums i }

  pub shaped : {copied : List ℕ} → copied ≡ registry → registry_shaped copied ≡ true
  unfolding registry_shaped
  shaped a =
      let t : length registry ≡ 10 * count_of file = x.entries in
      rw (a, eq-eqb (length registry % 10) 0 (omega (arith, t)), le-leb (length registry / 10) (2 ^ 24) (omega (arith, t, x.few)))

  pub ready : {new_roots root new_absences : List ℕ} → length new_roots ≡ length roots → length root ≡ 32 → length new_absences ≡ length absences → Ready s f.slot (length registry / 10) registry new_roots root new_absences
  ready a b d =
      let g = good-settings _ recorded.good.settings in
      let p = good-finality _ recorded.good.finality in
      record {
        positive = rw o.settings g.positive.slots_per_epoch;
        short = rw o.settings g.small.slots_per_epoch;
        some-roots = rw o.settings recorded.good.some-roots;
        few-roots = rw o.settings recorded.good.few-roots;
        small = rw o.finality p.slot;
        entries = omega (arith, x.entries);
        places = rw o.settings (omega (arith, a, x.places, recorded.root-count));
        bytes = b;
        pairs = omega (arith, d, x.pairs, x.entries);
      }

  pub room : {epochs : ℕ} → epochs ≤ 4096 → Room epochs registry slashings closing_registry closing_slashings text 0
  room h = record { entries = omega (arith, x.closing-entries, x.entries); sums = omega (arith, x.closing-sums, x.sums); few = h; heads = omega (arith, h, x.bytes) }

  pub planned : (tail : List ℕ) {new_absences : List ℕ} → new_absences ≡ numbers_from_bytes (length absences) (drop 40 tail) → plan_of (take 32 (drop 8 tail)) new_absences ≡ plan_from (count_of file) tail
  planned tail e = ap (plan_of (take 32 (drop 8 tail))) (e ∙ ap (λ (n : ℕ). numbers_from_bytes n (drop 40 tail)) x.pairs)
