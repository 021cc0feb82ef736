-- What the Rust of ethereum-consensus at 5031d31e31 evaluates, in its order, file by file and under its names. Line numbers are of
-- its files. Where it and the document have the same text and nothing in it can fail, the document's definition is passed on.
-- A sum written `+` cannot leave 64 bits once the tests have passed: laws, Bounds.antt.
pub mod Phase0
pub mod Altair
