-- One consolidation, by two numbers.
use Rattle.std.specs.Prelude.{Bool, ◌&&◌, ℕ, ltb}
use Rattle.definitions_electra.specs.Record.{PendingConsolidation}

abbrev pub pair : ℕ → ℕ → PendingConsolidation
pair source target = record { source_index = source; target_index = target }

-- source and target are two of n
abbrev pub within : ℕ → PendingConsolidation → Bool
within n c = ltb c.source_index n && ltb c.target_index n
