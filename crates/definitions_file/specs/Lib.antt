-- What a reader must believe of record files.
pub mod File
-- What a reader must believe of a shelf of records: one file's close, and the shelf's.
pub mod ClosedFile
pub mod Shelf
-- What a reader must believe of the listing: decimals, the lines as numbers and as text, and a file's listing.
pub mod Decimal
pub mod ListingAnswers
pub mod Lines
pub mod Listing
-- What a reader must believe of trying an outage: what stands in the input, what comes before a close, a run of closes, and its text.
pub mod OutageInput
pub mod OutagePreparation
pub mod OutageRun
pub mod Outage
