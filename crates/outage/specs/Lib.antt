-- What the contracts of trying an outage cite.
pub mod Lent
-- What the contracts of a preparation cite.
pub mod Ready
-- What the contracts of a run cite.
pub mod Went
-- What the contract of trying an outage cites.
pub mod Text
