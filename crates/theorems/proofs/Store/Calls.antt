-- Calls of the functions, by their contracts.
use mathlib.Core.Path.{◌≡◌, refl, sym, ap, ◌∙◌}
use Rattle.definitions.specs.Checked.{Checked, value, refused, code_of, settle}
use Rattle.definitions_close.specs.Store.{Store, read_rules, rules_answer_for, add_entry, AddOutcome, added}
use Rattle.laws.proofs.Checked.{number_not_zero}
use Rattle.definitions_close.specs.Calls.{lent, new_entry}
use Rattle.theorems.specs.Store.Laws.{ReadsBefore}
use Rattle.theorems.proofs.Store.Addition.{additions}

accepted : (m : Checked Store) (s : Store) → code_of m ≡ 0 → m ≡ value (settle m s)
accepted (value t) s z = refl
accepted (refused r) s z = absurd (number_not_zero r z)

pub reads_before : ReadsBefore
unfolding added
reads_before xs ys count start epoch rules a e z l =
    let s = lent xs count in
    let new = new_entry start rules in
    let m = add_entry s new in
    let code : code_of m ≡ 0 = sym (ap (λ (o : AddOutcome). o.refusal) e) ∙ z in
    let left : lent ys a.count ≡ settle m s = ap (λ (o : AddOutcome). o.store) e in
    ap rules_answer_for (ap (λ (t : Store). read_rules t epoch) left ∙ (additions s new (settle m s) (accepted m s code)).before epoch l)
