pub mod Errors
pub mod Slots
pub mod State
pub mod Steps
pub mod Tick
pub mod Writer
