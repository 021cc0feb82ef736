-- What the contract of a listed close cites.
pub mod Listed
-- What the contracts of listing a file cite.
pub mod Printed
