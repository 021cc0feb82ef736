-- A shelf of records beside the whole close.
pub mod Files
