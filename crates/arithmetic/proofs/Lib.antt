-- Laws on the checked operations, and on answers that say them.
pub mod Operations
pub mod Laws
mod Newton
