-- The steps over the registry, one after the other, and the numbers that they share.
pub mod RegistrySteps
pub mod Numbers
