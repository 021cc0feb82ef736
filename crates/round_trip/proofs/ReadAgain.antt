-- A closed part is read again: what the steps leave passes the tests, so that it is written, and what is written is read.
use mathlib.Core.Path.{◌≡◌, refl, sym, ap, subst, ◌∙◌}
use mathlib.Core.Bool.{true}
use mathlib.Core.List.{List, [], ◌∷◌}
use Prim.Native.Nat.{ℕ, ◌*◌, ◌/◌}
use native.Mathlib.Omega.{arith}
use lib.ListN.{length}
use Rattle.definitions.specs.declared.Settings.{Settings}
use Rattle.definitions.specs.declared.Bellatrix.{Bellatrix}
use Rattle.definitions.specs.Lists.{all}
use Rattle.definitions.specs.Record.{BeaconState, encode, decode}
use Rattle.definitions.specs.Checked.{value, fold_checked}
use Rattle.definitions.specs.Refusals.{good_validator, good_registry, closing_buffer}
use Rattle.definitions.specs.Rules.{settings_under}
use Rattle.definitions.specs.ExitQueue.{queue_of, is_queue_of}
use Rattle.definitions.specs.Close.{Step, step, limited_up_to, process_epoch, limited_epoch}
use Rattle.definitions_file.specs.File.{Contents, contents_of, file_of, write_tests}
use Rattle.definitions_file.specs.ClosedFile.{rules_in, state_in, file_tests, work, closed_contents, part_for}
use Rattle.laws.proofs.Checked.{bound, value_same}
use Rattle.laws.proofs.Encode.{length-encode, decode-encode, encode-decode}
use Rattle.laws_file.proofs.Tests.{Good, file_length_of, good_write}
use Rattle.laws_file.proofs.Passed.{length-registry, length-slashings}
use Rattle.laws_file.proofs.Tests.{is-file}
use Rattle.round_trip.proofs.Written.{written_read}
use Rattle.laws_close.proofs.Kept.{Kept, kept_step}
use Rattle.round_trip.specs.ReadAgain.{Written, ClosedWritten, ClosedRead}
use Rattle.shelf_file.proofs.Tests.{passes}
use Rattle.laws.proofs.Queue.{is_its_own}

-- what the steps leave of what the tests ask
kept-steps : (s : Settings) (ks : List Step) (a b : BeaconState) → fold_checked (step s) a ks ≡ value b → Kept a b
unfolding fold_checked
kept-steps s [] a b e =
    subst (Kept a) (value_same e) (record { finality = λ g. g; validators = λ g. g; many = refl; slashings = refl; roots = refl })
kept-steps s (k ∷ ks) a b e =
    let h = bound (step s a k) (λ next. fold_checked (step s) next ks) e in
    let one = kept_step s k a h.first h.gave in
    let rest = kept-steps s ks h.first b h.then in
    record {
      finality = λ g. rest.finality (one.finality g);
      validators = λ g. rest.validators (one.validators g);
      many = rest.many ∙ one.many;
      slashings = rest.slashings ∙ one.slashings;
      roots = rest.roots ∙ one.roots;
    }

kept-all : (s : Settings) (a b : BeaconState) → process_epoch s a ≡ value b → Kept a b
unfolding limited_epoch limited_up_to
kept-all s a b e = kept-steps s _ a b e

module _ (fork : ℕ) (pair : Bellatrix) (file : List ℕ) (after : BeaconState) (e : file_tests fork pair file ≡ value tt) (w : work fork pair file ≡ value after) where
  abbrev c : Contents
  c = contents_of file

  kept : Kept (state_in file) after
  kept = kept-all (settings_under (rules_in fork pair file)) (state_in file) after w

  long : length (encode after.validators) ≡ length c.registry
  long =
      let g = (passes fork pair file e).accepts.good in
      let n = length c.registry / 10 in
      length-encode after.validators
      ∙ ap (λ (k : ℕ). 10 * k) kept.many
      ∙ sym (length-encode (decode c.registry))
      ∙ ap length (encode-decode n c.registry g.entries)

  registry-good : good_registry (encode after.validators) ≡ true
  unfolding good_registry
  registry-good = ap (all good_validator) (decode-encode after.validators) ∙ kept.validators (passes fork pair file e).accepts.good.registry

  good : Good (closed_contents file after)
  good =
      let g = (passes fork pair file e).accepts.good in
      let l = long in
      record {
        entries = omega (arith, g.entries, l);
        few = omega (arith, g.few, l);
        some-roots = g.some-roots;
        few-roots = g.few-roots;
        some-slashings = g.some-slashings;
        few-slashings = g.few-slashings;
        roots = g.roots;
        slashings = kept.slashings ∙ g.slashings;
        settings = g.settings;
        finality = kept.finality g.finality;
        registry = registry-good;
      }

  as_long : length file ≡ file_length_of (closed_contents file after)
  as_long =
      let p = passes fork pair file e in
      let a = p.accepts in
      omega (arith, a.header.long, p.second, a.count, a.root-count, a.slashing-count, long)

  closed-passes : write_tests (closed_contents file after) (queue_of after.validators) file ≡ value tt
  closed-passes = good_write (closed_contents file after) (queue_of after.validators) file good as_long (ap (is_queue_of (queue_of after.validators)) (decode-encode after.validators) ∙ is_its_own after.validators)

  closed-part : (part : List ℕ) → part_for fork pair file part ≡ file_of (closed_contents file after) (queue_of after.validators)
  unfolding part_for closing_buffer
  closed-part part = rw (e, w)

  closed_is : (part : List ℕ) → Written fork pair file part after
  closed_is part = record { passes = closed-passes; is = closed-part part ∙ sym (is-file (closed_contents file after) (queue_of after.validators) file closed-passes) }

pub closed-written : ClosedWritten
closed-written fork pair file part after e w = closed_is fork pair file after e w part

pub closed-read : ClosedRead
closed-read fork pair file part registry slashings after e w t q l m =
    let h = closed_is fork pair file after e w part in
    let r = l ∙ sym (length-registry file) ∙ sym (long fork pair file after e w) in
    let s = m ∙ sym (length-slashings file) ∙ sym (kept fork pair file after e w).slashings in
    rw h.is (written_read (closed_contents file after) (queue_of after.validators) file registry slashings t q r s h.passes).outcome
