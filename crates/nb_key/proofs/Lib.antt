pub mod Bits
pub mod Spreads
pub mod Levels
pub mod Paths
pub mod Ranges
