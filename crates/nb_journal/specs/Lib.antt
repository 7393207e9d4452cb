pub mod Offsets
pub mod Entries
pub mod Form
pub mod Counters
pub mod Images
pub mod Laying
pub mod Finding
pub mod Reading
