-- The validators that a total or a count is over.
use Rattle.std.specs.Prelude.{Bool, ℕ}
use Rattle.totals.specs.declared.Members.{Members}
use Rattle.totals.specs.declared.Members.TheVariants.{Active, Eligible, Participating}
use Rattle.definitions.specs.Record.{Validator}
use Rattle.definitions.specs.Rust.Phase0.Helpers.{is_active_validator}
use Rattle.definitions.specs.Rust.Phase0.EpochProcessing.{is_eligible}
use Rattle.definitions.specs.Rust.Altair.Helpers.{is_unslashed_participating}

abbrev pub is_member : Members → Validator → Bool
is_member (Active epoch) v = is_active_validator v epoch
is_member (Eligible previous) v = is_eligible previous v
is_member (Participating current flag epoch) v = is_unslashed_participating current flag epoch v

-- the index of the flag that is read, where one is
abbrev pub flag_of : Members → ℕ
flag_of (Active epoch) = 0
flag_of (Eligible previous) = 0
flag_of (Participating current flag epoch) = flag
