use mathlib.Core.Path.{◌∙◌, sym, ap}
use Prim.Native.Nat.{ℕ}
use lib.ListN.{replicate}
use Rattle.electra_refusals.proofs.Passed.{good-electra}
use Rattle.electra_added.proofs.New.{tested-by, counted-by}
use Rattle.electra_added.proofs.new_refusal.Goals as goal

pub hysteresis-requires : goal.hysteresis-requires
hysteresis-requires c = (good-electra c.args.rules c.requires.rules_value.0).positive.hysteresis_quotient

pub new_pass-counted-requires : goal.new_pass-counted-requires
new_pass-counted-requires c =
    let p = c.requires in
    record { places_value = (c.fill.ensures.after (λ y e. rw e) ∙ ap (λ (m : ℕ). replicate m 0) p.index_in_bounds.1, p.rules_value.1, p.index_in_bounds.0); increment_nonzero = rw c.new_numbers-k.ensures (good-electra _ p.rules_value.0).positive.effective_balance_increment }

pub returns-in_default : goal.returns-in_default
returns-in_default c = counted-by _ (sym c.hysteresis.ensures ∙ c.in_default.is) (rw c.new_numbers-k.ensures at c.new_pass-counted.ensures) c.tested.ensures

pub new_pass-passed-requires : goal.new_pass-passed-requires
new_pass-passed-requires c =
    let p = c.requires in
    record { places_value = (c.fill.ensures.after (λ y e. rw e) ∙ ap (λ (m : ℕ). replicate m 0) p.index_in_bounds.1, p.rules_value.1, p.index_in_bounds.0); increment_nonzero = rw c.new_numbers-k.ensures (good-electra _ p.rules_value.0).positive.effective_balance_increment }

pub returns : goal.returns
returns c = tested-by _ (sym c.hysteresis.ensures ∙ c.in-Ok.is) (rw c.new_numbers-k.ensures at c.new_pass-passed.ensures) c.tested-2.ensures
