pub mod Errors
pub mod Files
pub mod Indexes
pub mod Refusals
