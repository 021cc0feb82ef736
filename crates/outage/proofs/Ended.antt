-- The text of a run that has ended.
use mathlib.Core.List.{List}
use mathlib.Core.Path.{◌≡◌, sym, ap, ◌∙◌}
use Prim.Native.Nat.{ℕ, ◌≤◌}
use native.Mathlib.Omega.{arith}
use lib.ListN.{length}
use Rattle.definitions_file.specs.File.{Contents}
use Rattle.fields.specs.Put.{Put}
use Rattle.fields.proofs.decimals.Put.{put-more, put-length}
use Rattle.definitions_file.specs.Lines.{refused_line}
use Rattle.listing.proofs.listing_close.Printed.{or_refused_lem, or_text}
use Rattle.definitions_file.specs.OutageRun.{Run}
use Rattle.definitions_file.specs.Outage.{lines_text, run_text}
use Rattle.outage.specs.Went.{Went}
use Rattle.outage.specs.Lent.{Printed}

module _ (c : Contents) {r : Run} {closes : ℕ} {before middle : List ℕ} {x : ℕ} {left : Contents} {last : ℕ} (w : Went r closes before 0 middle x left last) where
  pub run-refused : {after : List ℕ} {end : ℕ} → (x ≡ 0 → ⊥) → Put middle last (refused_line x) after end → end ≤ length before → Printed (run_text c r) before after end
  unfolding run_text
  run-refused z p h = record { put = rw (or_refused_lem (lines_text c.registry r.contents.registry) w.code z) (put-more w.put p); inside = h }

  pub run-lines : {after : List ℕ} {end : ℕ} → x ≡ 0 → Put middle last (lines_text c.registry left.registry) after end → end ≤ length middle → Printed (run_text c r) before after end
  unfolding run_text
  run-lines z p h =
      let e = ap (λ (d : Contents). d.registry) w.stands in
      record {
        put = rw (or_text (lines_text c.registry r.contents.registry) (sym w.code ∙ z), ← e) (put-more w.put p);
        inside = omega (arith, h, put-length w.put);
      }

pub printed-same : {text other before after : List ℕ} {last : ℕ} → text ≡ other → Printed text before after last → Printed other before after last
printed-same e p = rw e at p
