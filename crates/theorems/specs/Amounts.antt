-- What holds of the amounts of every accepted close, and of the number of the test that last set the checkpoint.
pub mod Laws
