-- What the contracts of the rules' code cite.
pub mod Refusal

-- What the contracts of calls with a closing buffer cite.
