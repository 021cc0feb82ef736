-- After the tests a lookup that finds nothing is refused by 4, and by nothing else.
use Rattle.std.specs.Prelude.{◌≡◌, false, List, ℕ}
use Rattle.definitions.specs.declared.Settings.{Settings}
use Rattle.definitions.specs.declared.Finality.{Finality}
use Rattle.definitions.specs.Checked.{value, refused}
use Rattle.definitions.specs.declared.Refusal.TheVariants.{NoRoot}
use Rattle.definitions.specs.Rust.Phase0.Helpers.{get_current_epoch, get_previous_epoch, get_block_root}
use Rattle.definitions_votes.specs.Exact.{is_found}
use Rattle.definitions_votes.specs.Votes.{votes_tests}

pub record NoRootAlone (s : Settings) (roots : List ℕ) (f : Finality) : Type 0 where
  pub previous : is_found (get_block_root s roots f.slot (get_previous_epoch s f.slot)) ≡ false → get_block_root s roots f.slot (get_previous_epoch s f.slot) ≡ refused NoRoot
  pub current : is_found (get_block_root s roots f.slot (get_current_epoch s f.slot)) ≡ false → get_block_root s roots f.slot (get_current_epoch s f.slot) ≡ refused NoRoot

abbrev pub FourIsNoRoot : Type 0
FourIsNoRoot = (s : Settings) (roots : List ℕ) (f : Finality) (registry marks : List ℕ) → votes_tests s roots f registry marks ≡ value tt → NoRootAlone s roots f
