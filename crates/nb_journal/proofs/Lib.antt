pub mod Callers
mod Texts
mod Gates
mod Steps
mod Laid
mod Appending
mod Starting
mod Spelled
mod Found
mod Headings
mod Indexed
mod Unique
mod Decided
mod Total
