-- The document that a fork goes by. 02, R-3: "A Bellatrix close is held to Bellatrix beacon-chain.md as an Altair one to Altair's".
use Rattle.std.specs.Prelude.{cond}
use Rattle.definitions.specs.declared.Rules.{Rules}
use Rattle.definitions.specs.Record.{BeaconState}
use Rattle.definitions.specs.Rules.{is_altair}
use Rattle.definitions.specs.Document.Altair.EpochProcessing as Altair
use Rattle.definitions.specs.Document.Bellatrix as Bellatrix

unfoldable pub document_under : Rules → BeaconState → BeaconState
document_under r st = cond (is_altair r) (Altair.process_epoch r.settings st) (Bellatrix.process_epoch r.settings r.bellatrix st)
