pub mod Errors
pub mod Groups
pub mod Kicks
pub mod Receiver
pub mod Rounds
