-- Whom totals and counts are over.
pub mod Members
pub mod Totals
-- What the contracts of the raised totals cite.
pub mod Flags
