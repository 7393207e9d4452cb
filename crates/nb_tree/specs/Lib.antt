pub mod Errors
pub mod Fronts
pub mod Refusals
pub mod Builds
pub mod Passes
