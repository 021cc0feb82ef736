-- How long a validator waits for activation.
pub mod Wait
