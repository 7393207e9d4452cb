pub mod Chains
pub mod Errors
pub mod Insertions
