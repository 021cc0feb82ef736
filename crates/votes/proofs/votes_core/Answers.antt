use mathlib.Core.Path.{◌≡◌, sym, ◌∙◌}
use mathlib.Core.List.{List}
use Prim.Native.Nat.{ℕ, ◌<◌}
use Rattle.definitions.specs.declared.Finality.{Finality}
use Rattle.definitions.specs.declared.Settings.{Settings}
use Rattle.arithmetic.proofs.Laws.{carried}
use Rattle.definitions_votes.specs.Exact.{Ballot, current_of, previous_of}
use Rattle.definitions_votes.specs.Votes.{ballot_of}
use Rattle.votes.specs.Laws.{NoRootAlone}
use Rattle.votes.proofs.Passed.{votes-passed, previous-earlier}
use Rattle.votes.proofs.NoRoot.{four_is_no_root}
use Rattle.votes.proofs.Answered.{lookup, counted-at, ends-early, ends-lost, ends_lost_2, ends-over, ends-told}
use Rattle.votes.proofs.votes_core.Goals.{Start, After-epoch_root, After-epoch_root-2, Else-current-le1}
use Rattle.votes.proofs.votes_core.Goals as goal

-- what is lent
abbrev ballot : Settings → List ℕ → Finality → List ℕ → List ℕ → Ballot
ballot s roots old registry marks = ballot_of s roots old registry marks

-- epoch 2 or later
late : (c : Else-current-le1) → 1 < current_of (ballot c.args.s c.args.roots.now c.args.old c.args.registry.now c.args.marks.now)
late c = rw c.current_epoch-current.ensures at c.if-current-le1.false

-- a root that cannot be looked up is 4
alone : (c : Start) → NoRootAlone c.args.s c.args.roots.now c.args.old
alone c = four_is_no_root _ _ _ _ _ c.requires

-- the two lookups
previous-root : (c : After-epoch_root) → c.epoch_root.result ≡ lookup (ballot c.args.s c.args.roots.now c.args.old c.args.registry.now c.args.marks.now) (previous_of (ballot c.args.s c.args.roots.now c.args.old c.args.registry.now c.args.marks.now))
previous-root c = rw c.previous_epoch-previous.ensures at c.epoch_root.ensures

current-root : (c : After-epoch_root-2) → c.epoch_root-2.result ≡ lookup (ballot c.args.s c.args.roots.now c.args.old c.args.registry.now c.args.marks.now) (current_of (ballot c.args.s c.args.roots.now c.args.old c.args.registry.now c.args.marks.now))
current-root c = rw c.current_epoch-current.ensures at c.epoch_root-2.ensures

pub current_epoch-current-requires : goal.current_epoch-current-requires
current_epoch-current-requires c = (votes-passed _ _ _ _ _ c.requires).epoch

pub returns-then-current-le1 : goal.returns-then-current-le1
returns-then-current-le1 c = ends-early _ (rw c.current_epoch-current.ensures at c.if-current-le1.true)

pub previous_epoch-previous-requires : goal.previous_epoch-previous-requires
previous_epoch-previous-requires c = (votes-passed _ _ _ _ _ c.requires).epoch

pub epoch_root-requires : goal.epoch_root-requires
epoch_root-requires c =
    let p = votes-passed _ _ _ _ _ c.requires in
    record { roots_len = p.long; slots_per_historical_root_nonzero = p.some_root }

pub epoch_root-requires-2 : goal.epoch_root-requires-2
epoch_root-requires-2 c =
    let p = votes-passed _ _ _ _ _ c.requires in
    record { roots_len = p.long; slots_per_historical_root_nonzero = p.some_root }

pub returns-in_err-epoch_root : goal.returns-in_err-epoch_root
returns-in_err-epoch_root c =
    let at = goal.at.returns-in_err-epoch_root c in
    ends-lost _ (late at.Else-current-le1) (alone at.Start) (sym (previous-root at.After-epoch_root) ∙ c.in_err-epoch_root.was) (carried _ c.from_residual.ensures)

pub returns-in_err-epoch_root-2 : goal.returns-in_err-epoch_root-2
returns-in_err-epoch_root-2 c =
    let at = goal.at.returns-in_err-epoch_root-2 c in
    ends_lost_2 _ (late at.Else-current-le1) (alone at.Start) (sym (previous-root at.After-epoch_root) ∙ c.in_ok-epoch_root.was) (sym (current-root at.After-epoch_root-2) ∙ c.in_err-epoch_root-2.was) (carried _ c.from_residual-in_err-epoch_root-2.ensures)

pub count_votes-requires : goal.count_votes-requires
count_votes-requires c =
    let p = votes-passed _ _ _ _ _ c.requires in
    record { registry_len = p.shape.long; marks_len = p.marked; previous_epoch_lt_current_epoch = previous-earlier _ _ c.current_epoch-current.ensures c.previous_epoch-previous.ensures c.if-current-le1.false }

pub returns-in_err-sums : goal.returns-in_err-sums
returns-in_err-sums c =
    let at = goal.at.returns-in_err-sums c in
    let n = counted-at c.current_epoch-current.ensures c.previous_epoch-previous.ensures c.count_votes.ensures in
    ends-over _ (late at.Else-current-le1) (alone at.Start) (sym (previous-root at.After-epoch_root) ∙ c.in_ok-epoch_root.was) (sym (current-root at.After-epoch_root-2) ∙ c.in_ok-epoch_root-2.was) n c.in_err-sums.was (carried _ c.from_residual-in_err-sums.ensures)

pub weigh_votes-requires : goal.weigh_votes-requires
weigh_votes-requires c =
    let p = (votes-passed _ _ _ _ _ c.requires).finality in
    record { justification_bits_bound = p.bits; previous_justified_checkpoint_bound = (p.previous, p.current) }

pub returns : goal.returns
returns c =
    let at = goal.at.returns c in
    let n = counted-at c.current_epoch-current.ensures c.previous_epoch-previous.ensures c.count_votes.ensures in
    let w = rw c.current_epoch-current.ensures at c.weigh_votes.ensures in
    ends-told _ (late at.Else-current-le1) (alone at.Start) (sym (previous-root at.After-epoch_root) ∙ c.in_ok-epoch_root.was) (sym (current-root at.After-epoch_root-2) ∙ c.in_ok-epoch_root-2.was) n c.in_ok-sums.was w
