pub mod Errors
pub mod InStep
pub mod Marks
pub mod Names
pub mod Sound
pub mod Stock
pub mod View
pub mod Writes
