-- An addition that starts later changes nothing of a close that goes by an entry.
use mathlib.Core.Bool.{true}
use mathlib.Core.Path.{◌≡◌, refl, sym, ap, subst, ◌∙◌}
use Prim.Native.Nat.{ℕ, ◌/◌}
use Rattle.definitions.specs.Checked.{Checked, value}
use Rattle.definitions.specs.Refusals.{after_tests}
use Rattle.definitions_close.specs.Store.{Entry, Store, entries, last_of, of_last, keeps, read_rules, addition_tests, with_entry, add_entry}
use Rattle.laws.proofs.Checked.{bound}
use Rattle.store.proofs.Last.{last-append}
use Rattle.store.proofs.Passed.{addition_passed}
use Rattle.theorems.specs.Store.Laws.{with_store, ClosesBefore}
use Rattle.theorems.proofs.Store.Sequence.{Same, keeps_same}
use Rattle.theorems.proofs.Store.Addition.{additions}
use Rattle.theorems.proofs.Store.ByRead.{closes_by_read}

-- the new entry has the last one's slots_per_epoch
kept : (s : Store) (e new : Entry) {t : Store} → last_of (entries s) ≡ value e → add_entry s new ≡ value t → Same e.rules.settings new.rules.settings
unfolding add_entry after_tests of_last
kept s e new last added =
    let b = bound (addition_tests s new) (λ _. value (with_entry s new)) added in
    let p = addition_passed s new refl b.gave in
    keeps_same e.rules.settings new.rules.settings (subst (λ (m : Checked Entry). of_last (λ f. keeps f.rules.settings new.rules.settings) m ≡ true) last p.shape.kept)

pub closes_before : ClosesBefore
closes_before c e new t rules last read added l =
    let g = additions c.store new t added in
    let behind : last_of (entries t) ≡ value new = ap last_of g.behind ∙ last-append (entries c.store) new in
    let epoch : ℕ = c.finality.slot / e.rules.settings.slots_per_epoch in
    let again = subst (λ (n : ℕ). read_rules t (c.finality.slot / n) ≡ value rules) (kept c.store e new last added).slots (g.before epoch l ∙ read) in
    closes_by_read (with_store t c) new rules behind again ∙ sym (closes_by_read c e rules last read)
