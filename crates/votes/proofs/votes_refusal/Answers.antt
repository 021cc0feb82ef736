-- a mark is 0 to 3
use mathlib.Core.Bool.{Bool}
use mathlib.Core.List.{List}
use mathlib.Core.Path.{◌≡◌, ap, fun_ext}
use Prim.Native.Nat.{ℕ}
use lib.Dec.{ltb, leb-suc-suc}
use Rattle.definitions.specs.Lists.{all}
use Rattle.definitions_votes.specs.Filling.{good_mark}
use Rattle.definitions_votes.specs.Votes.{votes_tests}
use Rattle.votes.proofs.votes_refusal.Goals as goal

below-four : (marks : List ℕ) → all (λ n. ltb n 4) marks ≡ all good_mark marks
below-four marks = ap (λ (p : ℕ → Bool). all p marks) (fun_ext (λ n. leb-suc-suc n 3))

pub returns : goal.returns
unfolding votes_tests
returns c = rw (← below-four _) (rw (c.settings_shaped.ensures, c.roots_shaped.ensures, c.registry_shaped.ensures, c.good_settings.ensures, c.good_finality.ensures, c.good_registry.ensures, c.all_below.ensures) at c.in_order.ensures)
