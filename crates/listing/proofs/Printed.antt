-- The text of a file, by what was read of it. The lent buffers' contents have no part in it.
use mathlib.Core.Bool.{Bool, true, false}
use mathlib.Core.List.{List}
use mathlib.Core.Path.{◌≡◌, refl, sym, ap, subst, ◌∙◌}
use Prim.Native.Nat.{ℕ, ◌<◌}
use borrow.Author.Tests.{eqb-true, lt-ltb, le-ltb}
use lib.Dec.{eqb}
use lib.ListN.{length}
use Rattle.definitions.specs.declared.Settings.{Settings}
use Rattle.definitions.specs.declared.Finality.{Finality}
use Rattle.definitions.specs.Close.{Call, Outcome, close}
use Rattle.definitions_file.specs.File.{Contents, contents_of, contents_with, read}
use Rattle.definitions_file.specs.Lines.{refused_line, or_refused, close_text, accepted_text, close_printed}
use Rattle.definitions_file.specs.Listing.{opened, call_of, closing, printed, listing}
use Rattle.fields.specs.Put.{Put}
use Rattle.laws_file.proofs.Passed.{length-registry, length-slashings}
use Rattle.listing.specs.Listed.{ListedClose}
use Rattle.listing.specs.Printed.{Exact}
use Rattle.listing.proofs.Opened.{read-accepted, read-lengths, opened-contents, header-same}
use Rattle.listing.proofs.Closing.{same-refusal, same-finality, same-raised, same-registry}
use Rattle.listing.proofs.listing_close.Printed.{or_refused_lem, or_text}

pub long-listed : (bytes : List ℕ) {before after : List ℕ} {end : ℕ} → 65536 < length bytes → Put before 0 (refused_line 6) after end → Put before 0 (listing bytes) after end
unfolding listing
long-listed bytes l p = rw (lt-ltb 65536 (length bytes) l) p

-- alike where nothing is refused, and refused alike
or_same : (x y : ℕ) (text other : List ℕ) → x ≡ y → (x ≡ 0 → text ≡ other) → or_refused x text ≡ or_refused y other
or_same x y text other e f = by (eqb x 0) refl
  where
    by : (t : Bool) → eqb x 0 ≡ t → or_refused x text ≡ or_refused y other
    by true q = rw (← e, q) (f (eqb-true x 0 q))
    by false q = rw (← e, q)

accepted_text-same : (c call : Call) (out other : Outcome) → c.rules.settings ≡ call.rules.settings → c.finality ≡ call.finality → c.registry ≡ call.registry → out.finality ≡ other.finality → out.raised ≡ other.raised → out.closing_registry ≡ other.closing_registry → accepted_text c out ≡ accepted_text call other
unfolding accepted_text close_text
accepted_text-same c call out other s i o f n r = rw (s, i, o, f, n, r)

-- closing buffers as long as the opening's
closed_same : (c : Contents) (xs ys : List ℕ) → length xs ≡ length c.registry → length ys ≡ length c.slashings → close_printed (call_of c xs ys) (close (call_of c xs ys)) ≡ close_printed (closing c) (close (closing c))
closed_same c xs ys l m =
    let r = c.registry in
    let s = c.slashings in
    let call = call_of c xs ys in
    or_same (close call).refusal (close (closing c)).refusal (accepted_text call (close call)) (accepted_text (closing c) (close (closing c))) (same-refusal c xs ys r s l m)
    (λ z. accepted_text-same call (closing c) (close call) (close (closing c)) refl refl refl (same-finality c xs ys r s l m) (same-raised c xs ys r s l m) (same-registry c xs ys r s l m z))

-- `n` is the refusal that was read
module _ {bytes registry slashings closing_registry closing_slashings text : List ℕ} (x : Exact bytes registry slashings closing_registry closing_slashings text) {n : ℕ} (e : n ≡ (read bytes registry slashings).refusal) where
  same : n ≡ (opened bytes).refusal
  same = e ∙ header-same bytes registry slashings x.entries x.sums

  not_long : listing bytes ≡ printed (opened bytes) (closing (opened bytes).contents)
  unfolding listing
  not_long = rw (le-ltb 65536 (length bytes) x.short)

  pub refused-listed : {before after : List ℕ} {end : ℕ} → (n ≡ 0 → ⊥) → Put before 0 (refused_line n) after end → Put before 0 (listing bytes) after end
  refused-listed z p =
      rw (not_long ∙ or_refused_lem (close_printed (closing (opened bytes).contents) (close (closing (opened bytes).contents))) same z) p

  module _ (z : n ≡ 0) where
    listing-closed : listing bytes ≡ close_printed (call_of (contents_of bytes) closing_registry closing_slashings) (close (call_of (contents_of bytes) closing_registry closing_slashings))
    listing-closed =
        let l = read-lengths bytes registry slashings (sym e ∙ z) in
        let entries = x.closing-entries ∙ l.entries ∙ sym (length-registry bytes) in
        let sums = x.closing-sums ∙ l.sums ∙ sym (length-slashings bytes) in
        let zero = sym same ∙ z in
        not_long ∙ or_text (close_printed (closing (opened bytes).contents) (close (closing (opened bytes).contents))) zero ∙ ap (λ (c : Contents). close_printed (closing c) (close (closing c))) (opened-contents bytes zero) ∙ sym (closed_same (contents_of bytes) closing_registry closing_slashings entries sums)

    pub closed-listed : {s : Settings} {f : Finality} {xs ys roots before after : List ℕ} {end : ℕ} → s ≡ (read bytes registry slashings).contents.settings → f ≡ (read bytes registry slashings).contents.finality → xs ≡ (read bytes registry slashings).contents.registry → ys ≡ (read bytes registry slashings).contents.slashings → roots ≡ (contents_of bytes).roots → ListedClose (call_of (contents_with s f xs roots ys) closing_registry closing_slashings) before after end → Put before 0 (listing bytes) after end
    closed-listed {s} {f} {xs} {ys} {roots} {before} {after} {end} a b c d r given =
        let k = read-accepted bytes registry slashings (sym e ∙ z) in
        let settings = a ∙ ap (λ (o : Contents). o.settings) k in
        let finality = b ∙ ap (λ (o : Contents). o.finality) k in
        let entries = c ∙ ap (λ (o : Contents). o.registry) k in
        let sums = d ∙ ap (λ (o : Contents). o.slashings) k in
        let whole : contents_with s f xs roots ys ≡ contents_of bytes = λ i. record { settings = settings i; finality = finality i; registry = entries i; roots = r i; slashings = sums i } in
        rw listing-closed (subst (λ (k : Contents). ListedClose (call_of k closing_registry closing_slashings) before after end) whole given).text
