-- What contracts of the end of a close cite.
pub mod Queues
