pub mod Facts
mod Roots
mod Quotients
mod Vectors
mod Wrapping
mod Pulls
mod Sums
mod Octants
mod Cells
mod Forces
mod Drifts
mod Steps
mod Accelerated
mod Undone
mod OpenBox
