-- What is shown of the definitions: the statements that take more than a line. Their proofs stand in proofs/.
pub mod Agreement
pub mod Refused
pub mod Restored
