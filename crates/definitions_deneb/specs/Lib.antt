-- What a reader must believe of Deneb's calls. Its document is Document/Deneb.antt of definitions.
pub mod Calls
