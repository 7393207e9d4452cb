mod Additions
pub mod Callers
mod Calls
mod EmptyPages
mod Growth
mod Insertions
mod Looks
mod Pages
mod Reach
mod Ways
